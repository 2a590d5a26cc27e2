-- How a text lays tokens out (our own). No public clause names these words.
use Rattle.std.specs.Prelude.{◌≡◌, ◌⊎◌, ◌==◌, ℕ, false, List, [], ◌∷◌, ◌++◌}
use Rattle.std.specs.List.{All}
use Rattle.std.specs.Fmt.{signed_decimal}
use Rattle.script_tokens.specs.declared.mark.Mark.TheVariants as mark
use Rattle.script_tokens.specs.declared.token.Token.{Token}
use Rattle.script_tokens.specs.declared.token.Token.TheVariants.{Num, Huge, Name, Key, Sign, Stray}
use Rattle.script_tokens.specs.Spelling.{spelling, mark_spelling}

-- The bytes of a token. Numbers have no leading zeros. What is no token of a script has none.
abbrev pub token_text : Token → List ℕ
token_text (Num n) = signed_decimal n
token_text Huge = []
token_text (Name w) = w.items
token_text (Key k) = spelling k
token_text (Sign m) = mark_spelling m
token_text Stray = []

-- bytes of one line
abbrev pub HasNoFeed : List ℕ → Type 0
HasNoFeed bs = All (λ b. (b == 10) ≡ false) bs

-- a comment with this text, and a line feed
abbrev pub comment_line : List ℕ → List ℕ
comment_line c = 47 ∷ 47 ∷ (c ++ 10 ∷ [])

-- A text has the bytes of these tokens, in order. Spaces, line feeds and comments stand between them, and parentheses may be missing.
pub data LaysOut : List Token → List ℕ → Type 0 where
  nothing : LaysOut [] []
  space : {ts : List Token} {text : List ℕ} → LaysOut ts text → LaysOut ts (text ++ 32 ∷ [])
  line_feed : {ts : List Token} {text : List ℕ} → LaysOut ts text → LaysOut ts (text ++ 10 ∷ [])
  comment : {ts : List Token} {text : List ℕ} (c : List ℕ) → HasNoFeed c → LaysOut ts text → LaysOut ts (text ++ comment_line c)
  token : {ts : List Token} {text : List ℕ} (t : Token) → LaysOut ts text → LaysOut (ts ++ t ∷ []) (text ++ token_text t)
  missing : {ts : List Token} {text : List ℕ} (t : Token) → (t ≡ Sign mark.Open) ⊎ (t ≡ Sign mark.Close) → LaysOut ts text → LaysOut (ts ++ t ∷ []) text

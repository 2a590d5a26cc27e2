-- Tokens by their spelling (our own).
use Rattle.std.specs.Prelude.{◌≡◌, ℕ, Option, Some, None, List, [], slice_get}
use Rattle.script_tokens.specs.Spelling.{spelling, mark_spelling}
use Rattle.script_tokens.specs.declared.keyword.Keyword.{Keyword}
use Rattle.script_tokens.specs.declared.mark.Mark.{Mark}
use Rattle.script_tokens.specs.declared.token.Token.{Token}
use Rattle.script_tokens.specs.declared.token.Token.TheVariants.{Num, Huge, Name, Key, Sign, Stray}

-- the spelling of a token; numbers and bytes that begin no token have none
abbrev pub word : Token → List ℕ
word (Num n) = []
word Huge = []
word (Name w) = w.items
word (Key k) = spelling k
word (Sign m) = mark_spelling m
word Stray = []

-- the spelling of a token that may be there
abbrev pub word_of : Option Token → List ℕ
word_of None = []
word_of (Some t) = word t

-- the spelling of the token at a place; empty past the last one
abbrev pub word_at : List Token → ℕ → List ℕ
word_at ts i = word_of (slice_get ts i)

-- the name that a token is
abbrev pub name_of : Option Token → Option (List ℕ)
name_of (Some (Name w)) = Some w.items
name_of other = None

-- the name at a place
abbrev pub name_at : List Token → ℕ → Option (List ℕ)
name_at ts i = name_of (slice_get ts i)

-- This keyword stands at a place.
abbrev pub IsKeyAt : List Token → ℕ → Keyword → Type 0
IsKeyAt ts i k = slice_get ts i ≡ Some (Key k)

-- This mark stands at a place.
abbrev pub IsSignAt : List Token → ℕ → Mark → Type 0
IsSignAt ts i m = slice_get ts i ≡ Some (Sign m)

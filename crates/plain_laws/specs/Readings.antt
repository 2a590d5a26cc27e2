-- What the reader's tokens and trees are of a script's expression. (Own.)
use Rattle.std.specs.Prelude.{true, ℕ, ℤ, ◌≡◌, ◌≢◌, ◌-◌, List, [], ◌∷◌, ◌++◌, Bool, false, Some, None, codes, drop, take}
use Rattle.std.specs.List.{flat_map}
use Rattle.swift_types.specs.declared.operator.Operator.{Operator}
use Rattle.script_tokens.specs.declared.mark.Mark.{Mark}
use Rattle.script_tokens.specs.declared.mark.Mark.TheVariants as mark
use Rattle.script_tokens.specs.Pieces.{TokenView, Num, Huge, Name, Key, Sign, Stray}
use Rattle.script_grammar.specs.Tree.{ExprTree, Number, Named, IsCancelled, Negated, Inverted, Both}
use Rattle.plain_parts.specs.Expressions.{PlainToken, expr_tokens, renamed, token_in}
use Rattle.swift_syntax.specs.Expressions as swift
use Rattle.swift_syntax.specs.Expressions.{SpellsExpr, SwiftTree, Leaf, Joined, after, kind_at, opens_at, operator_in, token_at}
use Rattle.swift_syntax.specs.Lexes.{StandAt}
use Rattle.swift_syntax.specs.declared.sign.Sign.TheVariants as sign
use Rattle.swift_syntax.specs.declared.token.Token.{Token}
use Rattle.swift_syntax.specs.declared.token.TokenKind.{TokenKind}
use Rattle.swift_syntax.specs.declared.token.TokenKind.TheVariants as kind
use Rattle.swift_syntax.specs.declared.tree.ExprForm.TheVariants as form

-- A token as the reader tells it: a name by its bytes, and any other token by its kind.
pub data Told : Type 0 where
  Called : List ℕ → Told
  Of : TokenKind → Told

-- a mark of a script as a token of the reader
abbrev pub told_mark : Mark → List Told
told_mark mark.Open = Of (kind.Sign sign.Open) ∷ []
told_mark mark.Close = Of (kind.Sign sign.Close) ∷ []
told_mark mark.Bang = Of (kind.Sign sign.Bang) ∷ []
told_mark mark.Or = Of (kind.Sign sign.Or) ∷ []
told_mark mark.And = Of (kind.Sign sign.And) ∷ []
told_mark mark.Equal = Of (kind.Sign sign.Equal) ∷ []
told_mark mark.Unequal = Of (kind.Sign sign.Unequal) ∷ []
told_mark mark.Less = Of (kind.Sign sign.Less) ∷ []
told_mark mark.AtMost = Of (kind.Sign sign.AtMost) ∷ []
told_mark mark.Greater = Of (kind.Sign sign.Greater) ∷ []
told_mark mark.AtLeast = Of (kind.Sign sign.AtLeast) ∷ []
told_mark mark.Plus = Of (kind.Sign sign.Plus) ∷ []
told_mark mark.Minus = Of (kind.Sign sign.Minus) ∷ []
told_mark mark.Times = Of (kind.Sign sign.Times) ∷ []
told_mark _ = []

-- a token of an expression as tokens of the reader: `cancelled` is three of them
abbrev pub told : TokenView → List Told
told (Num n) = Of (kind.Number n) ∷ []
told Huge = []
told (Name w) = Called w ∷ []
told (Key k) = Called (codes "Task") ∷ Of (kind.Sign sign.Dot) ∷ Called (codes "isCancelled") ∷ []
told (Sign m) = told_mark m
told Stray = []

-- the same of what is written with spaces or without
abbrev pub told_plain : PlainToken → List Told
told_plain t = told (token_in t)

-- the tokens of an expression as the reader tells them
abbrev pub expr_told : (List ℕ → List ℕ) → ExprTree → ℕ → List Told
expr_told f e k = flat_map told_plain (expr_tokens f e k)

-- the bytes of the token at a place
abbrev pub bytes_at : List ℕ → List Token → ℕ → List ℕ
bytes_at text tokens i = take ((token_at text tokens i).to - (token_at text tokens i).from) (drop (token_at text tokens i).from text)

-- The token at a place is told so.
abbrev pub IsTold : List ℕ → List Token → ℕ → Told → Type 0
IsTold text tokens i (Called w) = (kind_at tokens i ≡ kind.Name) × (bytes_at text tokens i ≡ w)
IsTold text tokens i (Of k) = kind_at tokens i ≡ k

-- The tokens from a place up to another one are told so.
abbrev pub AreTold : List ℕ → List Token → ℕ → List Told → ℕ → Type 0
AreTold text tokens i [] j = i ≡ j
AreTold text tokens i (t ∷ ts) j = IsTold text tokens i t × AreTold text tokens (after i) ts j

-- The tokens from a place on are those of the end of a text.
pub record Rest (text : List ℕ) (tokens : List Token) (i : ℕ) (end : List ℕ) : Type 0 where
  pub line : Bool
  pub space : Bool
  pub before : List ℕ
  pub whole : text ≡ before ++ end
  pub stands : StandAt text end line space (drop i tokens)

-- The tokens from a place on are told so, and behind them stand those of the end of a text.
pub record Lexed (text : List ℕ) (tokens : List Token) (i : ℕ) (ts : List Told) (rest : List ℕ) : Type 0 where
  pub end : ℕ
  pub told : AreTold text tokens i ts end
  pub next : Rest text tokens end rest

-- What stands at a place goes on with no expression before it: it is no operator, no dot, no question mark, and opens no arguments.
pub record EndsExpr (tokens : List Token) (i : ℕ) : Type 0 where
  pub operator : operator_in 0 (kind_at tokens i) ≡ None
  pub dot : kind_at tokens i ≢ kind.Sign sign.Dot
  pub question : kind_at tokens i ≢ kind.Sign sign.Question
  pub opens : opens_at tokens i ≡ false

-- whether a token ends what stands before it: a name, a keyword, the end of the text, or a sign that opens a block, closes or separates
abbrev pub ends_before : TokenKind → Bool
ends_before kind.Name = true
ends_before (kind.Key w) = true
ends_before kind.End = true
ends_before (kind.Sign sign.Close) = true
ends_before (kind.Sign sign.OpenBrace) = true
ends_before (kind.Sign sign.CloseBrace) = true
ends_before (kind.Sign sign.Comma) = true
ends_before (kind.Sign sign.Semicolon) = true
ends_before _ = false

-- An expression of Swift means one of a script, of the same numbers, names and operators.
pub data Means (text : List ℕ) (tokens : List Token) : SwiftTree → ExprTree → Type 0 where
  number : {i : ℕ} {n : ℤ} → Means text tokens (Leaf (form.Number n) i) (Number n)
  name : {i : ℕ} {w : List ℕ} → bytes_at text tokens i ≡ w → Means text tokens (Leaf form.Name i) (Named w)
  is_cancelled : {i j : ℕ} → bytes_at text tokens i ≡ codes "Task" → bytes_at text tokens j ≡ codes "isCancelled" → Means text tokens (Leaf (form.Member i) j) IsCancelled
  negated : {i : ℕ} {t : SwiftTree} {e : ExprTree} → Means text tokens t e → Means text tokens (swift.Negated i t) (Negated e)
  inverted : {i : ℕ} {t : SwiftTree} {e : ExprTree} → Means text tokens t e → Means text tokens (swift.Inverted i t) (Inverted e)
  both : {i : ℕ} {t u : SwiftTree} {d e : ExprTree} (o : Operator) → Means text tokens t d → Means text tokens u e → Means text tokens (Joined (Some o) i t u) (Both o d e)

-- From a place on stands an expression of a script as Swift, and `rest` behind it. What the reader takes there for an expression ends before
-- `rest`, unless an operator or the like follows, and means the one of the script, with its names as they are written.
pub record IsReadBack (text : List ℕ) (tokens : List Token) (f : List ℕ → List ℕ) (e : ExprTree) (i : ℕ) (rest : List ℕ) : Type 0 where
  pub end : ℕ
  pub next : Rest text tokens end rest
  pub read : (to : ℕ) (tree : SwiftTree) → EndsExpr tokens end → SpellsExpr tokens i to tree → (to ≡ end) × Means text tokens tree (renamed f e)

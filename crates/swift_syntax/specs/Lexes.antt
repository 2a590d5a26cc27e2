-- Which tokens a text consists of (our own).
use Rattle.std.specs.Prelude.{◌≡◌, ℕ, ◌-◌, Bool, true, false, List, [], ◌∷◌, length}
use Rattle.swift_syntax.specs.Fronts.{front_at}
use Rattle.swift_syntax.specs.declared.front.Piece.TheVariants as piece
use Rattle.swift_syntax.specs.declared.token.Token.{Token}
use Rattle.swift_syntax.specs.declared.token.TokenKind.{TokenKind}

-- the token of this kind that stands in `text` from its end `from` on, up to its end `after`
abbrev pub token_between : List ℕ → List ℕ → List ℕ → TokenKind → Bool → Bool → Token
token_between text from after k line space = record { kind = k; from = length text - length from; to = length text - length after; begins_line = line; after_space = space }

-- Of `text`, these are the tokens of its end, in order, where a line begins or not, and white space or a comment stands before it or not.
-- White space and comments separate them, and the longest one is taken.
pub data StandAt (text : List ℕ) : List ℕ → Bool → Bool → List Token → Type 0 where
  none_left : {line space : Bool} → StandAt text [] line space []
  space_here : {b : ℕ} {bs rest : List ℕ} {line space : Bool} {ts : List Token} → front_at b bs ≡ (piece.Space, rest) → StandAt text rest line true ts → StandAt text (b ∷ bs) line space ts
  line_here : {b : ℕ} {bs rest : List ℕ} {line space : Bool} {ts : List Token} → front_at b bs ≡ (piece.Line, rest) → StandAt text rest true true ts → StandAt text (b ∷ bs) line space ts
  one_here : {b : ℕ} {bs rest : List ℕ} {line space : Bool} {k : TokenKind} {ts : List Token} → front_at b bs ≡ (piece.Token k, rest) → StandAt text rest false false ts → StandAt text (b ∷ bs) line space (token_between text (b ∷ bs) rest k line space ∷ ts)

-- A text consists of these tokens.
abbrev pub AreTokensOf : List ℕ → List Token → Type 0
AreTokensOf text ts = StandAt text text true true ts

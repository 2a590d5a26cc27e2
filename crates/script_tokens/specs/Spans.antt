-- Which bytes of a text its tokens are.
use Rattle.std.specs.Prelude.{◌≡◌, ℕ, ◌-◌, List, [], ◌∷◌, length, Some, None}
use Rattle.script_tokens.specs.declared.span.Span.{Span}
use Rattle.script_tokens.specs.Lexes.{front_at}
use Rattle.script_tokens.specs.Pieces.{TokenView}

-- the bytes of `text` from its end `from` on, up to its end `after`
abbrev pub between : List ℕ → List ℕ → List ℕ → Span
between text from after = record { from = length text - length from; to = length text - length after }

-- Of `text`, the tokens of its end are these bytes, in order.
pub data StandAt (text : List ℕ) : List ℕ → List Span → Type 0 where
  none_left : StandAt text [] []
  none_here : {b : ℕ} {bs rest : List ℕ} {ss : List Span} → front_at b bs ≡ (None, rest) → StandAt text rest ss → StandAt text (b ∷ bs) ss
  one_here : {b : ℕ} {bs rest : List ℕ} {ss : List Span} {p : TokenView} → front_at b bs ≡ (Some p, rest) → StandAt text rest ss → StandAt text (b ∷ bs) (between text (b ∷ bs) rest ∷ ss)

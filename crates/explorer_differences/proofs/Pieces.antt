-- A text that grows piece by piece.
use Rattle.std.proofs.Common.{◌≡◌, ℕ, List, ◌++◌, ap, ◌∙◌, append_assoc}
use Rattle.std.specs.Prelude.{Result, Ok, Err, OnOk}

-- after a text stands one piece, and then another, which is told in two ways
pub two_pieces : {A E : Type 0} (r : Result A E) (x0 x1 x2 a b c : List ℕ) → x1 ≡ x0 ++ a → b ≡ c → OnOk r (x2 ≡ x1 ++ b) → OnOk r (x2 ≡ x0 ++ (a ++ c))
two_pieces (Ok u) x0 x1 x2 a b c first same last =
    last ∙ ap (λ (xs : List ℕ). xs ++ b) first ∙ append_assoc x0 a b ∙ ap (λ (xs : List ℕ). x0 ++ (a ++ xs)) same
two_pieces (Err e) x0 x1 x2 a b c first same last = tt

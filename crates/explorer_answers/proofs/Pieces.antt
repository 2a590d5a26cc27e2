-- A text that grows piece by piece.
use Rattle.explorer_answers.proofs.Prelude.{◌≡◌, ℕ, List, ◌++◌, ap, ◌∙◌, append_assoc, Result, Ok, Err, OnOk, if◌then◌else◌, is_ok}

-- after a text stands one more piece
onto : (x0 x1 x2 text piece : List ℕ) → x1 ≡ x0 ++ text → x2 ≡ x1 ++ piece → x2 ≡ x0 ++ (text ++ piece)
onto x0 x1 x2 text piece before more = more ∙ ap (λ (xs : List ℕ). xs ++ piece) before ∙ append_assoc x0 text piece

pub three_pieces : {A E : Type 0} (r : Result A E) (x0 x1 x2 x3 a b c : List ℕ) → x1 ≡ x0 ++ a → x2 ≡ x1 ++ b → x3 ≡ (if is_ok r then x2 ++ c else x2) → OnOk r (x3 ≡ x0 ++ ((a ++ b) ++ c))
three_pieces (Ok u) x0 x1 x2 x3 a b c first second last = onto x0 x2 x3 (a ++ b) c (onto x0 x1 x2 a b first second) last
three_pieces (Err e) x0 x1 x2 x3 a b c first second last = tt

pub five_pieces : {A E : Type 0} (r : Result A E) (x0 x1 x2 x3 x4 x5 a b c d e : List ℕ) → x1 ≡ x0 ++ a → x2 ≡ x1 ++ b → x3 ≡ x2 ++ c → x4 ≡ x3 ++ d → x5 ≡ (if is_ok r then x4 ++ e else x4)
    → OnOk r (x5 ≡ x0 ++ ((((a ++ b) ++ c) ++ d) ++ e))
five_pieces (Ok u) x0 x1 x2 x3 x4 x5 a b c d e first second third fourth last =
    onto x0 x4 x5 (((a ++ b) ++ c) ++ d) e (onto x0 x3 x4 ((a ++ b) ++ c) d (onto x0 x2 x3 (a ++ b) c (onto x0 x1 x2 a b first second) third) fourth) last
five_pieces (Err g) x0 x1 x2 x3 x4 x5 a b c d e first second third fourth last = tt

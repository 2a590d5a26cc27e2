-- Pieces of a text, as calls answer them.
use Rattle.std.proofs.Common.{◌≡◌, ℕ, List, ◌++◌, sym}
use Rattle.std.specs.Prelude.{Result, Ok, Err, OnOk, is_ok, if◌then◌else◌}
use Rattle.swift_report.proofs.Pieces.{said, two_joined as pieces_joined, seven_joined as pieces_told}

-- what is so unless an error is
pub if_ok : {A E : Type 0} (r : Result A E) (x y z : List ℕ) → x ≡ (if is_ok r then y else z) → OnOk r (x ≡ y)
if_ok (Ok u) x y z is = is
if_ok (Err u) x y z is = tt

-- two pieces, which are a text
pub two_joined : {A E : Type 0} (r : Result A E) (x0 x1 x2 a b text : List ℕ) → text ≡ a ++ b → x1 ≡ x0 ++ a → OnOk r (x2 ≡ x1 ++ b) → OnOk r (x2 ≡ x0 ++ text)
two_joined r x0 x1 x2 a b text is h1 h2 = said r x0 x2 (a ++ b) text (sym is) (pieces_joined r x0 x1 x2 a b h1 h2)

-- seven pieces, one after the other
pub seven_joined : {A E : Type 0} (r : Result A E) (x0 x1 x2 x3 x4 x5 x6 x7 a b c d e f g : List ℕ) →
    x1 ≡ x0 ++ a → x2 ≡ x1 ++ b → x3 ≡ x2 ++ c → x4 ≡ x3 ++ d → x5 ≡ x4 ++ e → x6 ≡ x5 ++ f → x7 ≡ (if is_ok r then x6 ++ g else x6) →
    OnOk r (x7 ≡ x0 ++ (((((((a ++ b) ++ c) ++ d) ++ e) ++ f) ++ g)))
seven_joined r x0 x1 x2 x3 x4 x5 x6 x7 a b c d e f g h1 h2 h3 h4 h5 h6 h7 =
    pieces_told r x0 x1 x2 x3 x4 x5 x6 x7 a b c d e f g h1 h2 h3 h4 h5 h6 (if_ok r x7 (x6 ++ g) x6 h7)

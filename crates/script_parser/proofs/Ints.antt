-- Whether two numbers are equal.
use Rattle.script_parser.proofs.Prelude.{◌≡◌, ◌≢◌, ℤ, Bool, true, false, refl, int_eq, Decides-int_eq, not_from_Decides}
use Rattle.std.specs.Bool.{Decides}

pub int_differs : (x y : ℤ) → int_eq x y ≡ false → x ≢ y
int_differs x y e = not_from_Decides (int_eq x y) (Decides-int_eq x y) e

is_no : (b : Bool) (P : Type 0) → Decides b P → (P → ⊥) → b ≡ false
is_no true P d ne = absurd (ne (d.0 refl))
is_no false P d ne = refl

pub int_is_no : (x y : ℤ) → x ≢ y → int_eq x y ≡ false
int_is_no x y ne = is_no (int_eq x y) (x ≡ y) (Decides-int_eq x y) ne

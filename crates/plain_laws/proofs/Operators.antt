-- How tightly operators bind, for the printer and for the reader.
use Rattle.plain_laws.proofs.Prelude.{Of, told_mark, left_of, mark_of, precedence_of, ◌≡◌, ℕ, ◌-◌, ◌<◌, ◌≤◌, suc, Bool, true, false, [], ◌∷◌, Option, Some, None, nat_lt, refl, sym, ◌∙◌, ap, arith, false≢true, le-ltb, lt-ltb, nat_tests, Binary, binary_of, if_tight, is_open, operator_in, TokenKind, Operator}
use Rattle.swift_types.specs.declared.operator.Operator.TheVariants as op
use Rattle.swift_syntax.specs.declared.sign.Sign.{Sign}
use Rattle.swift_syntax.specs.declared.sign.Sign.TheVariants as sign
use Rattle.swift_syntax.specs.declared.token.TokenKind.TheVariants as kind

abbrev pub sign_of : Operator → Sign
sign_of op.Or = sign.Or
sign_of op.And = sign.And
sign_of op.Equal = sign.Equal
sign_of op.Unequal = sign.Unequal
sign_of op.Less = sign.Less
sign_of op.AtMost = sign.AtMost
sign_of op.Greater = sign.Greater
sign_of op.AtLeast = sign.AtLeast
sign_of op.Plus = sign.Plus
sign_of op.Minus = sign.Minus
sign_of op.Times = sign.Times

abbrev pub level_of : Operator → ℕ
level_of op.Or = 0
level_of op.And = 1
level_of op.Plus = 4
level_of op.Minus = 4
level_of op.Times = 5
level_of _ = 2

abbrev pub read_as : Operator → Binary
read_as o = record { operator = Some o; level = level_of o }

pub is_told : (o : Operator) → told_mark (mark_of o) ≡ Of (kind.Sign (sign_of o)) ∷ []
is_told op.Unequal = refl
is_told _ = refl

is_binary : (o : Operator) → binary_of (sign_of o) ≡ Some (read_as o)
is_binary op.Unequal = refl
is_binary _ = refl

less : (m n : ℕ) → nat_lt m n ≡ true → m < n
less m n e = grind (arith, nat_tests)

tight : (x : ℕ) (b : Binary) → x ≤ b.level → if_tight x (Some b) ≡ Some b
tight x b h = rw (le-ltb b.level x h) refl

loose : (x : ℕ) (b : Binary) → b.level < x → if_tight x (Some b) ≡ None
loose x b h = rw (lt-ltb b.level x h) refl

pub taken_at : (o : Operator) (x : ℕ) → x ≤ level_of o → operator_in x (kind.Sign (sign_of o)) ≡ Some (read_as o)
taken_at o x h = ap (if_tight x) (is_binary o) ∙ tight x (read_as o) h

pub left_at : (o : Operator) (x : ℕ) → level_of o < x → operator_in x (kind.Sign (sign_of o)) ≡ None
left_at o x h = ap (if_tight x) (is_binary o) ∙ loose x (read_as o) h

looser_at : (v : Bool) (x y : ℕ) (b : Binary) → nat_lt b.level x ≡ v → x ≤ y → if_tight x (Some b) ≡ None → if_tight y (Some b) ≡ None
looser_at true x y b e h n = loose y b (omega (arith, h, less b.level x e))
looser_at false x y b e h n =
    let s : if_tight x (Some b) ≡ Some b = rw e refl in
    let z : None ≡ Some b = sym n ∙ s in
    absurd cc

looser_if : (x y : ℕ) (b : Option Binary) → x ≤ y → if_tight x b ≡ None → if_tight y b ≡ None
looser_if x y None h n = refl
looser_if x y (Some b) h n = looser_at (nat_lt b.level x) x y b refl h n

-- what does not bind so tightly does not bind more tightly
pub looser : (x y : ℕ) (k : TokenKind) → x ≤ y → operator_in x k ≡ None → operator_in y k ≡ None
looser x y (kind.Sign s) h n = looser_if x y (binary_of s) h n
looser x y _ h n = refl

-- Operators up to this precedence bind at least so tightly.
abbrev pub Fits : ℕ → ℕ → Type 0
Fits k least = (o : Operator) → nat_lt k (precedence_of o) ≡ false → least ≤ level_of o

pub fits_5 : Fits 5 0
fits_5 o e = omega arith

fits_4 : Fits 4 1
fits_4 op.Or e = absurd (false≢true (sym e))
fits_4 _ e = omega arith

fits_3 : Fits 3 2
fits_3 op.Or e = absurd (false≢true (sym e))
fits_3 op.And e = absurd (false≢true (sym e))
fits_3 _ e = omega arith

fits_2 : Fits 2 4
fits_2 op.Plus e = omega arith
fits_2 op.Minus e = omega arith
fits_2 op.Times e = omega arith
fits_2 _ e = absurd (false≢true (sym e))

fits_1 : Fits 1 5
fits_1 op.Times e = omega arith
fits_1 _ e = absurd (false≢true (sym e))

fits_0 : Fits 0 6
fits_0 op.Unequal e = absurd (false≢true (sym e))
fits_0 _ e = absurd (false≢true (sym e))

-- what stands on both sides of an operator without parentheses binds so tightly
pub record Sides (o : Operator) : Type 0 where
  pub left : ℕ
  pub left_fits : Fits (left_of o) left
  pub left_tight : level_of o ≤ left
  pub right : ℕ
  pub right_fits : Fits (precedence_of o - 1) right
  pub right_tight : suc (level_of o) ≤ right

pub sides : (o : Operator) → Sides o
sides op.Or = record { left = 0; left_fits = fits_5; left_tight = omega arith; right = 1; right_fits = fits_4; right_tight = omega arith }
sides op.And = record { left = 1; left_fits = fits_4; left_tight = omega arith; right = 2; right_fits = fits_3; right_tight = omega arith }
sides op.Plus = record { left = 4; left_fits = fits_2; left_tight = omega arith; right = 5; right_fits = fits_1; right_tight = omega arith }
sides op.Minus = record { left = 4; left_fits = fits_2; left_tight = omega arith; right = 5; right_fits = fits_1; right_tight = omega arith }
sides op.Times = record { left = 5; left_fits = fits_1; left_tight = omega arith; right = 6; right_fits = fits_0; right_tight = omega arith }
sides _ = record { left = 4; left_fits = fits_2; left_tight = omega arith; right = 4; right_fits = fits_2; right_tight = omega arith }

pub no_open : (o : Operator) → is_open (kind.Sign (sign_of o)) ≡ false
no_open op.Unequal = refl
no_open _ = refl

pub no_dot : {B : Type 0} (o : Operator) → kind.Sign (sign_of o) ≡ kind.Sign sign.Dot → B
no_dot op.Unequal e = absurd cc
no_dot _ e = absurd cc

-- What the ends of tasks say of Swift.
use Rattle.explorer_laws.proofs.Prelude.{◌≡◌, zero, suc, Bool, true, false, List, [], ◌∷◌, refl, sym, ap, ◌∙◌, arith, Contains, not, ◌&&◌, ◌||◌, if◌then◌else◌, list_all, same}
use Rattle.explorer_answers.specs.declared.meaning.SwiftMeaning.TheVariants as swift

both_true : (a b : Bool) → (a && b) ≡ true → (a ≡ true) × (b ≡ true)
both_true true true is = (refl, refl)
both_true true false is = absurd (cc is)
both_true false true is = absurd (cc is)
both_true false false is = absurd (cc is)

-- what is so of each element of a list
pub all_at : {X : Type 0} (t : X → Bool) (xs : List X) (x : X) → list_all t xs ≡ true → Contains xs x → t x ≡ true
all_at t [] x is there = absurd (omega (arith, there.1))
all_at t (y ∷ xs) x is (zero, low, same) = ap t (sym same) ∙ (both_true (t y) (list_all t xs) is).0
all_at t (y ∷ xs) x is (suc k, low, same) = all_at t xs x (both_true (t y) (list_all t xs) is).1 (k, omega (arith, low), same)

-- neither of two things was found
pub neither : (a b : Bool) → (a || not b) ≡ false → (a ≡ false) × (b ≡ true)
neither false true is = (refl, refl)
neither false false is = absurd (cc is)
neither true true is = absurd (cc is)
neither true false is = absurd (cc is)

-- where the process goes on, no task was ended by what ends it
pub no_end : (ends limit : Bool) → not (same (if ends then swift.EndsProcess else (if limit then swift.MaySpin else swift.Outcome)) swift.EndsProcess) ≡ true → ends ≡ false
no_end true limit is = absurd (cc is)
no_end false limit is = refl

-- where no task was ended by that, nor by a limit, it is an outcome
pub outcome_is : (ends limit : Bool) → ends ≡ false → limit ≡ false → same (if ends then swift.EndsProcess else (if limit then swift.MaySpin else swift.Outcome)) swift.Outcome ≡ true
outcome_is false false ends limits = refl
outcome_is false true ends limits = absurd (cc limits)
outcome_is true limit ends limits = absurd (cc ends)

-- what is taken where something is so, and it is
pub taken : {X : Type 0} (b : Bool) (x y : X) → b ≡ true → (if b then x else y) ≡ x
taken true x y is = refl
taken false x y is = absurd (cc is)

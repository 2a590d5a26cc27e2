-- The first outcome in which an expectation fails.
use Rattle.explorer_answers.proofs.Prelude.{◌≡◌, ℕ, ◌+◌, ◌<◌, Bool, true, false, List, [], ◌∷◌, length, drop, refl, sym, ap, ◌∙◌, arith, get_or, if◌then◌else◌, at_drop_more, ScriptView, is_so, fails_text, first_text, or_else, verdict_at, fails, swift_first_text}
use Rattle.swift_explorer.specs.declared.outcome.RunOutcome.{RunOutcome}
use Rattle.expectations.specs.declared.expectation.Expectation.{Expectation}

-- it does not fail in this one
pub first_later : (p : ScriptView) (e : Expectation) (os : List RunOutcome) (k : ℕ) (d : RunOutcome) → k < length os → is_so (verdict_at p e (get_or os k d)) ≡ true
    → first_text p e (k + 1) (drop (k + 1) os) ≡ first_text p e k (drop k os)
first_later p e os k d within so =
    sym (at_drop_more (first_text p e k) os k d within ∙ ap (λ (b : Bool). if b then first_text p e (k + 1) (drop (k + 1) os) else fails_text p e k (get_or os k d)) so)

-- it fails in this one
pub first_here : (p : ScriptView) (e : Expectation) (os : List RunOutcome) (k : ℕ) (d : RunOutcome) → k < length os → is_so (verdict_at p e (get_or os k d)) ≡ false
    → fails_text p e k (get_or os k d) ≡ first_text p e k (drop k os)
first_here p e os k d within so =
    sym (at_drop_more (first_text p e k) os k d within ∙ ap (λ (b : Bool). if b then first_text p e (k + 1) (drop (k + 1) os) else fails_text p e k (get_or os k d)) so)

pub or_else_empty : (xs ys : List ℕ) → length xs ≡ 0 → ys ≡ or_else xs ys
or_else_empty [] ys is = refl
or_else_empty (x ∷ xs) ys is = absurd (omega (arith, is))

pub or_else_some : (xs ys : List ℕ) → 0 < length xs → xs ≡ or_else xs ys
or_else_some [] ys some = absurd (omega (arith, some))
or_else_some (x ∷ xs) ys some = refl

-- in this outcome of a Swift file it does not fail
pub swift_later : (p : ScriptView) (e : Expectation) (os : List RunOutcome) (k : ℕ) (d : RunOutcome) → k < length os → fails p e (get_or os k d) ≡ false
    → swift_first_text p e (k + 1) (drop (k + 1) os) ≡ swift_first_text p e k (drop k os)
swift_later p e os k d within so =
    sym (at_drop_more (swift_first_text p e k) os k d within ∙ ap (λ (b : Bool). if b then fails_text p e k (get_or os k d) else swift_first_text p e (k + 1) (drop (k + 1) os)) so)

-- it fails in this one
pub swift_here : (p : ScriptView) (e : Expectation) (os : List RunOutcome) (k : ℕ) (d : RunOutcome) → k < length os → fails p e (get_or os k d) ≡ true
    → fails_text p e k (get_or os k d) ≡ swift_first_text p e k (drop k os)
swift_here p e os k d within so =
    sym (at_drop_more (swift_first_text p e k) os k d within ∙ ap (λ (b : Bool). if b then fails_text p e k (get_or os k d) else swift_first_text p e (k + 1) (drop (k + 1) os)) so)

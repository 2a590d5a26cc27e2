-- Bodies by the places of their effects.
use Rattle.swift_tasks.proofs.Prelude.{◌≡◌, ℕ, ◌<◌, List, [], ◌∷◌, ◌++◌, length, get_or, take, zero, suc, arith, subst, sym, refl, ap, Option, AllByRecursion, ScriptView, Effect, EffectView, effect_view, effect_views, BodyView, AreBodiesOf, IsBodyOf}

-- what holds of each effect holds of the one at a place
pub effect_at : (P : EffectView → Type 0) (es : List Effect) (k : ℕ) (x : Effect) → AllByRecursion P (effect_views es) → k < length es → x ≡ get_or es k x → P (effect_view x)
effect_at P [] k x all lt is = absurd (omega (arith, lt))
effect_at P (e ∷ es) zero x all lt is = subst (λ (y : Effect). P (effect_view y)) (sym is) all.0
effect_at P (e ∷ es) (suc k) x all lt is = effect_at P es k x all.1 (omega (arith, lt)) is

-- one more
pub bodies_more : (script : ScriptView) (es : List Effect) (k : ℕ) (x : Effect) (bs : List (Option BodyView)) (b : Option BodyView) → k < length es → x ≡ get_or es k x
    → AreBodiesOf script (effect_views (take k es)) bs → IsBodyOf script (effect_view x) b → AreBodiesOf script (effect_views (take (suc k) es)) (bs ++ b ∷ [])
bodies_more script [] k x bs b lt is all this = absurd (omega (arith, lt))
bodies_more script (e ∷ es) zero x [] b lt is all this = (subst (λ (y : Effect). IsBodyOf script (effect_view y) b) is this, tt)
bodies_more script (e ∷ es) zero x (c ∷ cs) b lt is all this = absurd all
bodies_more script (e ∷ es) (suc k) x [] b lt is all this = absurd all
bodies_more script (e ∷ es) (suc k) x (c ∷ cs) b lt is all this = (all.0, bodies_more script es k x cs b (omega (arith, lt)) is all.1 this)

-- of all effects
pub take_all : {A : Type 0} (xs : List A) → take (length xs) xs ≡ xs
take_all [] = refl
take_all (x ∷ xs) = ap (λ ys. x ∷ ys) (take_all xs)

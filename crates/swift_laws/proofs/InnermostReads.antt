-- Which binding a read of a task local gives.
use Rattle.swift_laws.proofs.Prelude.{◌≡◌, ℕ, ℤ, Bool, true, false, List, [], ◌∷◌, ◌++◌, refl, ap, unwrap_or, value_of, ev, TurnStateView, TurnInputView, scene, first_of_two}
use Rattle.std.proofs.Common.{if◌then◌else◌, Option, Some, ◌==◌}
use Rattle.script_code.specs.Tree as code

over_if : (b : Bool) (v : ℤ) (a c outer : Option ℤ) → c ≡ first_of_two a outer → (if b then Some v else c) ≡ first_of_two (if b then Some v else a) outer
over_if true v a c outer h = refl
over_if false v a c outer h = h

value_joined : (xs ys : List (ℕ × ℤ)) (l : ℕ) → value_of (xs ++ ys) l ≡ first_of_two (value_of xs l) (value_of ys l)
value_joined [] ys l = refl
value_joined (x ∷ xs) ys l = over_if (x.0 == l) x.1 (value_of xs l) (value_of (xs ++ ys) l) (value_of ys l) (value_joined xs ys l)

pub reads_innermost : (g : TurnInputView) (s : TurnStateView) (l : ℕ) (default : ℤ) → ev (code.local l default) (scene g s) ≡ Some (unwrap_or (first_of_two (value_of s.own l) (value_of g.outer l)) default)
reads_innermost g s l default = ap (λ (v : Option ℤ). Some (unwrap_or v default)) (value_joined s.own g.outer l)

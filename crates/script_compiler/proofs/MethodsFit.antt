-- The methods of a checked script fit their code, and its roots what they run.
use Rattle.script_compiler.proofs.Prelude.{◌≡◌, ℕ, suc, None, inl, inr, List, [], ◌∷◌, length, map, subst, AllByRecursion, MethodTree, DeclTree, Executes, Binds, Acts, Roots, place_of, DirectoryView, names_error, script_in, PlanView, plan_of, IsDeclaredCall, TargetsFit, CodeFits, ScriptFits, MethodView, RootView, method_of, methods_from, root_of, compiled_by}
use Rattle.script_compiler.proofs.WholeScripts.{script_fits}
use Rattle.script_compiler.specs.Fits.{IsFitting, MethodsFit, CheckedMethods}
use Rattle.script_compiler.proofs.Membership.{Has, has_cases, has_contained}
use Rattle.script_compiler.proofs.ByKinds.{same_plan}

-- A method's code names places that the method has, and methods that are there.
pub record IsFit (d : DirectoryView) (m : MethodView) : Type 0 where
  pub fitting : IsFitting m
  pub calls : TargetsFit d m.code

method_fits : (p : PlanView) (k : ℕ) (m : MethodTree) → CodeFits p k m → IsFit p.directory (method_of p k m)
method_fits p k m f = record { fitting = record { places = f.places; handles = f.handles }; calls = f.targets }

methods_fit : (p : PlanView) (k : ℕ) (ms : List MethodTree) → AllByRecursion (CodeFits p k) ms → (x : MethodView) → Has (map (method_of p k) ms) x → IsFit p.directory x
methods_fit p k [] f x i = absurd i
methods_fit p k (m ∷ ms) f x i = elim i [
  | inl is ↦ subst (IsFit p.directory) is (method_fits p k m f.0)
  | inr j ↦ methods_fit p k ms f.1 x j
]

pub all_fit : (p : PlanView) (k : ℕ) (xs : List DeclTree) → ScriptFits p k xs → (x : MethodView) → Has (methods_from p k (script_in xs).actors) x → IsFit p.directory x
all_fit p k [] f x i = absurd i
all_fit p k (Executes e ∷ xs) f x i = all_fit p k xs f x i
all_fit p k (Binds l ∷ xs) f x i = all_fit p k xs f x i
all_fit p k (Roots r ∷ xs) f x i = all_fit p k xs f.1 x i
all_fit p k (Acts a ∷ xs) f x i = elim (has_cases (map (method_of p k) a.methods) (methods_from p (suc k) (script_in xs).actors) x i) [
  | inl j ↦ methods_fit p k a.methods f.0 x j
  | inr j ↦ all_fit p (suc k) xs f.1 x j
]

-- what a root runs
abbrev IsRun : DirectoryView → RootView → Type 0
IsRun d r = (actor : ℕ) × IsDeclaredCall d actor r.method (length r.args)

pub roots_fit : (p : PlanView) (k : ℕ) (xs : List DeclTree) → ScriptFits p k xs → (x : RootView) → Has (map (root_of p) (script_in xs).roots) x → (actor : ℕ) × IsDeclaredCall p.directory actor x.method (length x.args)
roots_fit p k [] f x i = absurd i
roots_fit p k (Executes e ∷ xs) f x i = roots_fit p k xs f x i
roots_fit p k (Binds l ∷ xs) f x i = roots_fit p k xs f x i
roots_fit p k (Acts a ∷ xs) f x i = roots_fit p (suc k) xs f.1 x i
roots_fit p k (Roots r ∷ xs) f x i = elim i [
  | inl is ↦ subst (IsRun p.directory) is (place_of p.directory.actors r.actor, f.0)
  | inr j ↦ roots_fit p k xs f.1 x j
]

fitting : (decls : List DeclTree) → names_error decls ≡ None → MethodsFit (compiled_by (plan_of decls) (script_in decls))
fitting decls ok m i = (all_fit (plan_of decls) 0 decls (script_fits decls ok) m (has_contained _ m i)).fitting

pub checked_methods : CheckedMethods
checked_methods decls ok = subst (λ (p : PlanView). MethodsFit (compiled_by p (script_in decls))) (same_plan decls) (fitting decls ok)

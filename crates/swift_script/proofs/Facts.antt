-- What acceptance says of the parts of a script.
use Rattle.swift_script.proofs.Prelude.{◌≡◌, ℕ, zero, suc, ◌+◌, ◌<◌, ◌≤◌, Option, Some, None, List, [], ◌∷◌, ◌++◌, length, refl, sym, ap, subst, ◌∙◌, arith, length-append, slice_get, unwrap_or, leb-false, length-map, ACTORS, EXECUTORS, TASKS, ExecutorTree, ActorTree, RootTree, DirectoryView, directory_of, PlanView, ScriptView, MethodView, compiled_of, plan_in, own_executor, own_executors, executors_from, actors_from, root_of, WasAccepted, no_method, no_root, root_at, executor_count, actor_count, method_count, method_params, root_count, root_method, root_args}
use Rattle.std.proofs.lemmas.Option.{get_or_from_slice_get, slice_get-get_or, slice_get_within, unwrap_or-slice_get}
use Rattle.script_compiler.specs.Calls.{CallsAreThere, RootsAreThere, IsStartable}
use Rattle.script_compiler.specs.Fits.{MethodsFit}
use Rattle.script_compiler.proofs.CallsThere.{checked_calls, checked_roots}
use Rattle.script_compiler.proofs.InOrder.{few_executors, few_actors}
use Rattle.script_compiler.proofs.MethodsFit.{checked_methods}
use Rattle.swift_script.specs.Scripts.{parts_of}
use Rattle.swift_script.proofs.NamesAgain.{RootsOk, AllOk, by_kinds}

-- how many roots there are
few_roots : (d : DirectoryView) (names : List (List ℕ)) (rs : List RootTree) → length names ≤ TASKS → RootsOk d names rs → length names + length rs ≤ TASKS
few_roots d names [] le ok = omega arith
few_roots d names (r ∷ rs) le ok =
    let room : length names < TASKS = leb-false TASKS (length names) ok.1 in
    let longer : length (names ++ r.name ∷ []) ≡ length names + 1 = length-append names (r.name ∷ []) in
    let more = few_roots d (names ++ r.name ∷ []) rs (omega (arith, longer, room)) ok.3 in
    omega (arith, longer, more)

few_own : (others : List ActorTree) → length (own_executors others) ≤ length others
few_own [] = omega arith
few_own (a ∷ others) =
    let own : length (own_executor a a.executor) ≤ 1 = one_at_most a a.executor in
    let joined = length-append (own_executor a a.executor) (own_executors others) in
    omega (arith, own, joined, few_own others)
  where
    one_at_most : (a : ActorTree) (o : Option (List ℕ)) → length (own_executor a o) ≤ 1
    one_at_most a None = omega arith
    one_at_most a (Some n) = omega arith

as_many_executors : (p : PlanView) (others : List ActorTree) (e : ℕ) (xs : List ExecutorTree) → length (executors_from p others e xs) ≡ length xs
as_many_executors p others e [] = refl
as_many_executors p others e (x ∷ xs) = ap suc (as_many_executors p others (suc e) xs)

as_many_actors : (p : PlanView) (k : ℕ) (others : List ActorTree) → length (actors_from p k others) ≡ length others
as_many_actors p k [] = refl
as_many_actors p k (a ∷ others) = ap suc (as_many_actors p (suc k) others)

pub declared_are_few : (s : ScriptView) → WasAccepted s → length s.executors ≤ EXECUTORS
declared_are_few s a = subst (λ (t : ScriptView). length t.executors ≤ EXECUTORS) (sym a.1.is) (few_executors a.1.decls a.1.names)

few_of_actors : (s : ScriptView) → WasAccepted s → length s.actors ≤ ACTORS
few_of_actors s a = subst (λ (t : ScriptView). length t.actors ≤ ACTORS) (sym a.1.is) (few_actors a.1.decls a.1.names)

pub actors_are_few : (s : ScriptView) → WasAccepted s → actor_count s ≤ ACTORS
unfolding parts_of
actors_are_few s a = omega (arith, few_of_actors s a, as_many_actors (plan_in s) 0 s.actors)

pub roots_are_few : (s : ScriptView) → WasAccepted s → root_count s ≤ TASKS
unfolding parts_of
roots_are_few s a =
    let ok = subst (AllOk (directory_of a.1.decls) _) (sym a.1.is) (by_kinds (directory_of a.1.decls) _ 0 a.1.decls a.1.names) in
    let few : 0 + length s.roots ≤ TASKS = few_roots (directory_of a.1.decls) [] s.roots (omega arith) ok.roots in
    omega (arith, few, length-map s.roots (root_of (plan_in s)))

pub executors_are_few : (s : ScriptView) → WasAccepted s → executor_count s ≤ EXECUTORS + ACTORS
unfolding parts_of
executors_are_few s a =
    let all = length-append s.executors (own_executors s.actors) in
    omega (arith, declared_are_few s a, few_of_actors s a, all, few_own s.actors, as_many_executors (plan_in s) s.actors 0 (s.executors ++ own_executors s.actors))

roots_start : (s : ScriptView) → WasAccepted s → RootsAreThere (parts_of s)
unfolding parts_of
roots_start s a = subst (λ (t : ScriptView). RootsAreThere (compiled_of t)) (sym a.1.is) (checked_roots a.1.decls a.1.names)

root_starts : (s : ScriptView) (k : ℕ) → WasAccepted s → k < root_count s → IsStartable (parts_of s) (root_at s k)
root_starts s k a lt =
    let roots = (parts_of s).roots in
    let r = root_at s k in
    let there : slice_get roots k ≡ Some r = slice_get-get_or roots k no_root lt ∙ ap Some (sym (unwrap_or-slice_get roots k no_root)) in
    roots_start s a r (k, lt, get_or_from_slice_get roots k r r there)

pub root_method_there : (s : ScriptView) (k : ℕ) → WasAccepted s → k < root_count s → root_method s k < method_count s
root_method_there s k a lt = let m = root_starts s k a lt in slice_get_within (parts_of s).methods (root_method s k) m.method m.there

pub root_args_fit : (s : ScriptView) (k : ℕ) → WasAccepted s → k < root_count s → length (root_args s k) ≡ method_params s (root_method s k)
root_args_fit s k a lt =
    let m = root_starts s k a lt in
    sym m.as_many ∙ ap (λ (o : Option MethodView). (unwrap_or o no_method).params) (sym m.there)

pub calls_are_there : (s : ScriptView) → WasAccepted s → CallsAreThere (parts_of s)
unfolding parts_of
calls_are_there s a = subst (λ (t : ScriptView). CallsAreThere (compiled_of t)) (sym a.1.is) (checked_calls a.1.decls a.1.names)

pub methods_fit : (s : ScriptView) → WasAccepted s → MethodsFit (parts_of s)
unfolding parts_of
methods_fit s a = subst (λ (t : ScriptView). MethodsFit (compiled_of t)) (sym a.1.is) (checked_methods a.1.decls a.1.names)

-- A method that is called or that a root runs is there.
use Rattle.script_compiler.proofs.Prelude.{◌≡◌, ℕ, ◌+◌, suc, inl, inr, Option, Some, None, List, [], ◌∷◌, ◌++◌, length, map, refl, sym, ap, ◌∙◌, subst, add-one, slice_get, unwrap_or, option_map, map-append, none-some, same_Some, slice_get-map, MethodTree, DeclTree, Executes, Binds, Acts, Roots, method_key, DirectoryView, params_in, declared_in, directory_of, names_error, nothing_left_out, CallTarget, Wanted, Operation, Code, end, act, choice, loop, PlanView, plan_of, script_in, MethodView, method_of, methods_from, compiled_by, IsDeclaredCall, TargetFits, WantedFits, OperationFits, TargetsFit, operations_in}
use Rattle.script_names.specs.Directory as directory
use Rattle.script_code.specs.Tree as code
use Rattle.script_compiler.specs.Calls.{target_wanted, target_in, CallsAreThere, RootsAreThere, CheckedCalls, CheckedRoots}
use Rattle.script_compiler.proofs.Membership.{Has, has_cases, has_contained}
use Rattle.script_compiler.proofs.ByKinds.{same_plan}
use Rattle.script_compiler.proofs.MethodsFit.{all_fit, roots_fit}
use Rattle.script_compiler.proofs.WholeScripts.{script_fits}

-- each operation of some statements
one_fits : (d : DirectoryView) (c : Code) → TargetsFit d c → (e : Operation) → Has (operations_in c) e → OperationFits d e
one_fits d end f e h = absurd h
one_fits d (act x rest) f e h = elim h [ inl is ↦ subst (OperationFits d) is f.0 | inr i ↦ one_fits d rest f.1 e i ]
one_fits d (choice t a b rest) f e h = elim (has_cases (operations_in a) (operations_in b ++ operations_in rest) e h) [
  | inl i ↦ one_fits d a f.1 e i
  | inr i ↦ elim (has_cases (operations_in b) (operations_in rest) e i) [ inl j ↦ one_fits d b f.2 e j | inr j ↦ one_fits d rest f.3 e j ]
]
one_fits d (loop t a rest) f e h = elim (has_cases (operations_in a) (operations_in rest) e h) [ inl i ↦ one_fits d a f.1 e i | inr i ↦ one_fits d rest f.2 e i ]

-- and its call
wanted_fits : (d : DirectoryView) (w : Wanted) (t : CallTarget) → target_wanted w ≡ Some t → WantedFits d w → TargetFits d t
wanted_fits d (code.call u) t e f = subst (TargetFits d) (same_Some u t e) f
wanted_fits d _ t e f = absurd (none-some t e)

call_fits : (d : DirectoryView) (x : Operation) (t : CallTarget) → target_in x ≡ Some t → OperationFits d x → TargetFits d t
call_fits d (code.wait w) t e f = wanted_fits d w t e f
call_fits d (code.spawn u p h) t e f = subst (TargetFits d) (same_Some u t e) f
call_fits d (code.detach u p h) t e f = subst (TargetFits d) (same_Some u t e) f
call_fits d (code.add g unless u p) t e f = subst (TargetFits d) (same_Some u t e) f
call_fits d _ t e f = absurd (none-some t e)

-- the key of a method
abbrev key : MethodView → List ℕ
key x = method_key x.actor x.name

map_keys : (p : PlanView) (k : ℕ) (ms : List MethodTree) → map (λ m. method_key k m.name) ms ≡ map key (map (method_of p k) ms)
map_keys p k [] = refl
map_keys p k (m ∷ ms) = ap (λ (ks : List (List ℕ)). method_key k m.name ∷ ks) (map_keys p k ms)

keys_are : (p : PlanView) (k : ℕ) (xs : List DeclTree) → directory.methods_from k xs ≡ map key (methods_from p k (script_in xs).actors)
keys_are p k [] = refl
keys_are p k (Executes e ∷ xs) = keys_are p k xs
keys_are p k (Binds l ∷ xs) = keys_are p k xs
keys_are p k (Acts a ∷ xs) =
    ap (λ (ks : List (List ℕ)). ks ++ directory.methods_from (k + 1) xs) (map_keys p k a.methods)
    ∙ ap (λ (ks : List (List ℕ)). map key (map (method_of p k) a.methods) ++ ks) (ap (λ n. directory.methods_from n xs) (add-one k) ∙ keys_are p (suc k) xs)
    ∙ sym (map-append key (map (method_of p k) a.methods) (methods_from p (suc k) (script_in xs).actors))
keys_are p k (Roots r ∷ xs) = keys_are p k xs

abbrev count_of : MethodView → ℕ
count_of x = x.params

map_counts : (p : PlanView) (k : ℕ) (ms : List MethodTree) → map (λ m. length m.params) ms ≡ map count_of (map (method_of p k) ms)
map_counts p k [] = refl
map_counts p k (m ∷ ms) = ap (λ (ns : List ℕ). length m.params ∷ ns) (map_counts p k ms)

counts_are : (p : PlanView) (k : ℕ) (xs : List DeclTree) → params_in xs ≡ map count_of (methods_from p k (script_in xs).actors)
counts_are p k [] = refl
counts_are p k (Executes e ∷ xs) = counts_are p k xs
counts_are p k (Binds l ∷ xs) = counts_are p k xs
counts_are p k (Acts a ∷ xs) =
    ap (λ (ns : List ℕ). ns ++ params_in xs) (map_counts p k a.methods)
    ∙ ap (λ (ns : List ℕ). map count_of (map (method_of p k) a.methods) ++ ns) (counts_are p (suc k) xs)
    ∙ sym (map-append count_of (map (method_of p k) a.methods) (methods_from p (suc k) (script_in xs).actors))
counts_are p k (Roots r ∷ xs) = counts_are p k xs

mapped_some : {A B : Type 0} (f : A → B) (o : Option A) (y : B) → option_map f o ≡ Some y → (x : A) × (o ≡ Some x) × (f x ≡ y)
mapped_some f None y e = absurd (cc)
mapped_some f (Some x) y e = (x, refl, cc)

same_head : (a b : ℕ) (xs ys : List ℕ) → a ∷ xs ≡ b ∷ ys → a ≡ b
same_head a b xs ys e = cc

-- A method that is declared is there.
record IsThere (views : List MethodView) (actor number count : ℕ) : Type 0 where
  method : MethodView
  there : slice_get views number ≡ Some method
  of_actor : method.actor ≡ actor
  as_many : method.params ≡ count

is_there : (p : PlanView) (decls : List DeclTree) (actor number count : ℕ) → names_error decls ≡ None → IsDeclaredCall (directory_of decls) actor number count → IsThere (methods_from p 0 (script_in decls).actors) actor number count
is_there p decls actor number count ok n =
    let d = directory_of decls in
    let views = methods_from p 0 (script_in decls).actors in
    let name = n.of_actor.0 in
    let all : d ≡ declared_in decls = nothing_left_out decls ok in
    let keys : d.methods ≡ map key views = ap (λ (e : DirectoryView). e.methods) all ∙ keys_are p 0 decls in
    let counts : d.params ≡ map count_of views = ap (λ (e : DirectoryView). e.params) all ∙ counts_are p 0 decls in
    let at_key : option_map key (slice_get views number) ≡ Some (method_key actor name) =
    sym (slice_get-map key views number) ∙ ap (λ ks. slice_get ks number) (sym keys) ∙ n.of_actor.1 in
    let m = mapped_some key (slice_get views number) (method_key actor name) at_key in
    let count_there : slice_get d.params number ≡ Some m.0.params =
    ap (λ ns. slice_get ns number) counts ∙ slice_get-map count_of views number ∙ ap (option_map count_of) m.1 in
    record {
      method = m.0;
      there = m.1;
      of_actor = same_head m.0.actor actor m.0.name name m.2;
      as_many = sym (ap (λ (o : Option ℕ). unwrap_or o 0) count_there) ∙ sym n.arity;
    }

calls_there : (decls : List DeclTree) → names_error decls ≡ None → CallsAreThere (compiled_by (plan_of decls) (script_in decls))
calls_there decls ok m i e j t g =
    let p = plan_of decls in
    let fits = (all_fit p 0 decls (script_fits decls ok) m (has_contained _ m i)).calls in
    let n = call_fits p.directory e t g (one_fits p.directory m.code fits e (has_contained (operations_in m.code) e j)) in
    let r = is_there p decls t.actor t.method (length t.args) ok n in
    record { method = r.method; there = r.there; of_actor = r.of_actor; as_many = r.as_many }

roots_there : (decls : List DeclTree) → names_error decls ≡ None → RootsAreThere (compiled_by (plan_of decls) (script_in decls))
roots_there decls ok x i =
    let p = plan_of decls in
    let n = roots_fit p 0 decls (script_fits decls ok) x (has_contained _ x i) in
    let r = is_there p decls n.0 x.method (length x.args) ok n.1 in
    record { method = r.method; there = r.there; as_many = r.as_many }

pub checked_calls : CheckedCalls
checked_calls decls ok = subst (λ (p : PlanView). CallsAreThere (compiled_by p (script_in decls))) (same_plan decls) (calls_there decls ok)

pub checked_roots : CheckedRoots
checked_roots decls ok = subst (λ (p : PlanView). RootsAreThere (compiled_by p (script_in decls))) (same_plan decls) (roots_there decls ok)

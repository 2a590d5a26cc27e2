-- Where the names of a script are in order, the code of its methods names places and methods that are there.
use Rattle.script_compiler.proofs.Prelude.{◌≡◌, ℕ, suc, nat_le, List, [], ◌∷◌, ◌++◌, length, None, refl, AllByRecursion, ACTORS, TASKS, MethodTree, ActorTree, RootTree, DeclTree, Executes, Binds, Acts, Roots, block_tree, TooMany, DirectoryView, ScopeView, fields_alone, with_standing, SeenView, at_name, where_so, past_name_if, past_names, past_fields, past_if, past_method, past_decl, optional_error, repeat_error, parameters_error, with_parameters, method_error, methods_error, fields_error, on_error, actor_error, root_error, decl_error, seen_after, declarations_error, names_error, PlanView, plan_of, RootFits, CodeFits, ScriptFits, none_held}
use Rattle.script_names.specs.declared.scope.NameKind.TheVariants as kind
use Rattle.script_compiler.proofs.Clear.{earlier_none}
use Rattle.script_compiler.proofs.Named.{parameters_no_field}
use Rattle.script_compiler.proofs.Callable.{callable}
use Rattle.script_compiler.proofs.BlockPlaces.{block_places}
use Rattle.script_compiler.proofs.BlockCalls.{block_fits}
use Rattle.script_compiler.proofs.BlockHandles.{block_handles}
use Rattle.script_compiler.proofs.Agreed.{none_agrees}

pub parameters_directory : (s : ScopeView) (names : List (List ℕ)) → (with_parameters s names).directory ≡ s.directory
parameters_directory s [] = refl
parameters_directory s (n ∷ names) = parameters_directory (with_standing s n kind.Number) names

pub method_fits : (p : PlanView) (actor : ℕ) (seen : List (List ℕ)) (at : ℕ) (m : MethodTree) → method_error (fields_alone p.directory actor) seen at m ≡ None → CodeFits p actor m
method_fits p actor seen at m e =
    let alone = fields_alone p.directory actor in
    let s = with_parameters alone m.params in
    let named = earlier_none (repeat_error seen at m.name) _ e in
    let body = (earlier_none (parameters_error alone (suc at) m.params) _ named.1).1 in
    record {
      places = block_places p s (past_names m.params (suc at)) (block_tree m.body) (parameters_no_field alone m.params refl) body;
      targets = block_fits (block_tree m.body) p s p.directory (past_names m.params (suc at)) (parameters_directory alone m.params) body;
      handles = λ n. block_handles (block_tree m.body) p s (past_names m.params (suc at)) none_held n body (none_agrees alone m.params (λ i k absent is. absurd (cc)));
    }

pub methods_fit : (p : PlanView) (actor : ℕ) (seen : List (List ℕ)) (at : ℕ) (ms : List MethodTree) → methods_error (fields_alone p.directory actor) seen at ms ≡ None → AllByRecursion (CodeFits p actor) ms
methods_fit p actor seen at [] e = tt
methods_fit p actor seen at (m ∷ ms) e =
    let parts = earlier_none (method_error (fields_alone p.directory actor) seen at m) _ e in
    (method_fits p actor seen at m parts.0, methods_fit p actor (seen ++ m.name ∷ []) (past_method m at) ms parts.1)

pub actor_fits : (p : PlanView) (seen : SeenView) (at : ℕ) (a : ActorTree) → actor_error p.directory seen at a ≡ None → AllByRecursion (CodeFits p seen.actors) a.methods
actor_fits p seen at a e =
    let s = fields_alone p.directory seen.actors in
    let fields = past_name_if a.executor (suc at) in
    let invariant = past_fields a.fields fields in
    let named = earlier_none (repeat_error seen.places at a.name) _ e in
    let few = earlier_none (at_name at (where_so (nat_le ACTORS seen.actors) TooMany)) _ named.1 in
    let placed = earlier_none (on_error p.directory (suc at) a.executor) _ few.1 in
    let distinct = earlier_none (fields_error [] fields a.fields) _ placed.1 in
    let kept = earlier_none (optional_error s invariant a.invariant) _ distinct.1 in
    methods_fit p seen.actors [] (past_if a.invariant invariant) a.methods kept.1

root_fits : (d : DirectoryView) (seen : SeenView) (at : ℕ) (r : RootTree) → root_error d seen at r ≡ None → RootFits d r
root_fits d seen at r e =
    let named = earlier_none (repeat_error seen.roots at r.name) _ e in
    let few = earlier_none (at_name at (where_so (nat_le TASKS (length seen.roots)) TooMany)) _ named.1 in
    callable d (suc at) r.actor r.method (length r.args) few.1

decls_fit : (p : PlanView) (seen : SeenView) (at : ℕ) (xs : List DeclTree) → declarations_error p.directory seen at xs ≡ None → ScriptFits p seen.actors xs
decls_fit p seen at [] e = tt
decls_fit p seen at (Executes x ∷ xs) e = decls_fit p (seen_after seen (Executes x)) (past_decl (Executes x) at) xs (earlier_none (decl_error p.directory seen at (Executes x)) _ e).1
decls_fit p seen at (Binds l ∷ xs) e = decls_fit p (seen_after seen (Binds l)) (past_decl (Binds l) at) xs (earlier_none (decl_error p.directory seen at (Binds l)) _ e).1
decls_fit p seen at (Acts a ∷ xs) e =
    let parts = earlier_none (actor_error p.directory seen at a) _ e in
    (actor_fits p seen at a parts.0, decls_fit p (seen_after seen (Acts a)) (past_decl (Acts a) at) xs parts.1)
decls_fit p seen at (Roots r ∷ xs) e =
    let parts = earlier_none (root_error p.directory seen at r) _ e in
    (root_fits p.directory seen at r parts.0, decls_fit p (seen_after seen (Roots r)) (past_decl (Roots r) at) xs parts.1)

pub script_fits : (decls : List DeclTree) → names_error decls ≡ None → ScriptFits (plan_of decls) 0 decls
script_fits decls e = decls_fit (plan_of decls) (record { places = []; locals = []; roots = []; executors = 0; actors = 0 }) 0 decls e

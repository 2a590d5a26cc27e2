-- Where the names of a script are in order, few executors and actors are declared.
use Rattle.script_compiler.proofs.Prelude.{◌≡◌, ◌<◌, ◌≤◌, ◌+◌, ℕ, suc, nat_le, List, [], ◌∷◌, length, None, ap, ◌∙◌, arith, leb-false, ACTORS, EXECUTORS, DeclTree, Executes, Binds, Acts, Roots, TooMany, DirectoryView, directory_of, executors_in, actors_in, SeenView, at_name, where_so, repeat_error, executor_error, actor_error, decl_error, past_decl, seen_after, declarations_error, names_error, nothing_left_out}
use Rattle.script_compiler.proofs.Clear.{earlier_none, at_name_none, not_so}

pub below : (limit n at : ℕ) → at_name at (where_so (nat_le limit n) TooMany) ≡ None → n < limit
below limit n at e = leb-false limit n (not_so (nat_le limit n) TooMany (at_name_none at _ e))

-- the errors of the first declaration and of those after it
few_executors : (d : DirectoryView) (seen : SeenView) (at : ℕ) (xs : List DeclTree) → declarations_error d seen at xs ≡ None → seen.executors ≤ EXECUTORS → length (executors_in xs) + seen.executors ≤ EXECUTORS
few_executors d seen at [] e few = let same : 0 + seen.executors ≤ EXECUTORS = omega (arith, few) in same
few_executors d seen at (Executes x ∷ xs) e few =
    let parts = earlier_none (executor_error seen at x) _ e in
    let named = earlier_none (repeat_error seen.places at x.name) _ parts.0 in
    let own = earlier_none (at_name at (where_so (nat_le EXECUTORS seen.executors) TooMany)) _ named.1 in
    let less : seen.executors < EXECUTORS = below EXECUTORS seen.executors at own.0 in
    let rest : length (executors_in xs) + suc seen.executors ≤ EXECUTORS = few_executors d (seen_after seen (Executes x)) (past_decl (Executes x) at) xs parts.1 less in
    omega (arith, rest)
few_executors d seen at (Binds l ∷ xs) e few = few_executors d (seen_after seen (Binds l)) (past_decl (Binds l) at) xs (earlier_none (decl_error d seen at (Binds l)) _ e).1 few
few_executors d seen at (Acts a ∷ xs) e few = few_executors d (seen_after seen (Acts a)) (past_decl (Acts a) at) xs (earlier_none (decl_error d seen at (Acts a)) _ e).1 few
few_executors d seen at (Roots r ∷ xs) e few = few_executors d (seen_after seen (Roots r)) (past_decl (Roots r) at) xs (earlier_none (decl_error d seen at (Roots r)) _ e).1 few

few_actors : (d : DirectoryView) (seen : SeenView) (at : ℕ) (xs : List DeclTree) → declarations_error d seen at xs ≡ None → seen.actors ≤ ACTORS → length (actors_in xs) + seen.actors ≤ ACTORS
few_actors d seen at [] e few = let same : 0 + seen.actors ≤ ACTORS = omega (arith, few) in same
few_actors d seen at (Executes x ∷ xs) e few = few_actors d (seen_after seen (Executes x)) (past_decl (Executes x) at) xs (earlier_none (decl_error d seen at (Executes x)) _ e).1 few
few_actors d seen at (Binds l ∷ xs) e few = few_actors d (seen_after seen (Binds l)) (past_decl (Binds l) at) xs (earlier_none (decl_error d seen at (Binds l)) _ e).1 few
few_actors d seen at (Acts a ∷ xs) e few =
    let parts = earlier_none (actor_error d seen at a) _ e in
    let named = earlier_none (repeat_error seen.places at a.name) _ parts.0 in
    let own = earlier_none (at_name at (where_so (nat_le ACTORS seen.actors) TooMany)) _ named.1 in
    let less : seen.actors < ACTORS = below ACTORS seen.actors at own.0 in
    let rest : length (actors_in xs) + suc seen.actors ≤ ACTORS = few_actors d (seen_after seen (Acts a)) (past_decl (Acts a) at) xs parts.1 less in
    omega (arith, rest)
few_actors d seen at (Roots r ∷ xs) e few = few_actors d (seen_after seen (Roots r)) (past_decl (Roots r) at) xs (earlier_none (decl_error d seen at (Roots r)) _ e).1 few

pub executors_are_few : (d : DirectoryView) (xs : List DeclTree) → declarations_error d (record { places = []; locals = []; roots = []; executors = 0; actors = 0 }) 0 xs ≡ None → length (executors_in xs) ≤ EXECUTORS
executors_are_few d xs e = let few = few_executors d (record { places = []; locals = []; roots = []; executors = 0; actors = 0 }) 0 xs e (omega arith) in omega (arith, few)

pub actors_are_few : (d : DirectoryView) (xs : List DeclTree) → declarations_error d (record { places = []; locals = []; roots = []; executors = 0; actors = 0 }) 0 xs ≡ None → length (actors_in xs) ≤ ACTORS
actors_are_few d xs e = let few = few_actors d (record { places = []; locals = []; roots = []; executors = 0; actors = 0 }) 0 xs e (omega arith) in omega (arith, few)

-- no executor is left out, and none stands twice
pub same_executors : (d : DirectoryView) (xs : List DeclTree) → d ≡ directory_of xs → names_error xs ≡ None → d.executors ≡ executors_in xs
same_executors d xs is e = ap (λ (o : DirectoryView). o.executors) (is ∙ nothing_left_out xs e)

-- Where the names of a script are in order, there are few actors and executors.
use Rattle.script_compiler.proofs.Prelude.{◌≡◌, ◌≤◌, suc, List, [], ◌∷◌, length, None, ap, refl, arith, ACTORS, EXECUTORS, length-map, DeclTree, Executes, Binds, Acts, Roots, directory_of, actors_in, names_error, script_in}
use Rattle.script_compiler.proofs.LoweredInOrder.{actors_are_few, executors_are_few}
use Rattle.script_compiler.proofs.ByKinds.{names_kinds}

as_many : (xs : List DeclTree) → length (script_in xs).actors ≡ length (actors_in xs)
as_many [] = refl
as_many (Executes x ∷ xs) = as_many xs
as_many (Binds l ∷ xs) = as_many xs
as_many (Acts a ∷ xs) = ap suc (as_many xs)
as_many (Roots r ∷ xs) = as_many xs

pub few_executors : (xs : List DeclTree) → names_error xs ≡ None → length (script_in xs).executors ≤ EXECUTORS
few_executors xs e = let few = executors_are_few (directory_of xs) xs e in omega (arith, few, ap length (names_kinds xs), length-map (script_in xs).executors (λ x. x.name))

pub few_actors : (xs : List DeclTree) → names_error xs ≡ None → length (script_in xs).actors ≤ ACTORS
few_actors xs e = let few = actors_are_few (directory_of xs) xs e in omega (arith, few, as_many xs)

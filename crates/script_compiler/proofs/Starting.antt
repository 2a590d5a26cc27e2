-- The first invariant that does not hold at the start, by rows that are made once.
use Rattle.script_compiler.proofs.Prelude.{◌≡◌, ℕ, zero, suc, ℤ, Option, Some, List, [], ◌∷◌, map, refl, ap, ◌∙◌, if◌then◌else◌, slice_get, Compiled, ExecutorView, ActorView, CompiledView, members_if, IsCompiled, executor_view, actor_view, rows_among, rows_in, rows_at, first_false_in}
use Rattle.script_code.specs.Value.{holds}
use Rattle.script_compiler.specs.Starts.{starts_at, first_false_from}

rows_found : (xs : List ExecutorView) (actors : List ActorView) (e : ℕ) → rows_at (rows_in xs actors) e ≡ rows_among actors (members_if (slice_get xs e))
rows_found [] actors e = refl
rows_found (x ∷ xs) actors zero = refl
rows_found (x ∷ xs) actors (suc e) = rows_found xs actors e

same_first : (v : CompiledView) (k : ℕ) (as' : List ActorView) → first_false_in (rows_in v.executors v.actors) k as' ≡ first_false_from v k as'
same_first v k [] = refl
same_first v k (a ∷ others) =
    ap (λ (rows : List (List ℤ)). if holds a.invariant rows then first_false_in (rows_in v.executors v.actors) (suc k) others else Some k) (rows_found v.executors v.actors a.executor)
    ∙ ap (λ (rest : Option ℕ). if holds a.invariant (starts_at v a.executor) then rest else Some k) (same_first v (suc k) others)

pub first_of : (c : Compiled) (v : CompiledView) (all : List (List (List ℤ))) (first : Option ℕ) → IsCompiled c v
    → all ≡ rows_in (map executor_view c.executors.items) (map actor_view c.actors.items)
    → first ≡ first_false_in all 0 (map actor_view c.actors.items)
    → first ≡ first_false_from v 0 v.actors
first_of c v all first is made found =
    found
    ∙ ap (λ (rows : List (List (List ℤ))). first_false_in rows 0 (map actor_view c.actors.items)) made
    ∙ ap (λ (as' : List ActorView). first_false_in (rows_in (map executor_view c.executors.items) as') 0 as') is.actors
    ∙ ap (λ (xs : List ExecutorView). first_false_in (rows_in xs v.actors) 0 v.actors) is.executors
    ∙ same_first v 0 v.actors

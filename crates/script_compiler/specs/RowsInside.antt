-- What fields start with, by executors. Only contracts inside this crate name these.
use Rattle.std.specs.Prelude.{ℕ, suc, ℤ, Option, Some, None, List, [], ◌∷◌, map, slice_get, unwrap_or, if◌then◌else◌}
use Rattle.std.specs.Global.{Vec}
use Rattle.script_code.specs.Value.{holds}
use Rattle.script_code.specs.Seen.{rows_of}
use Rattle.script_compiler.specs.Compiled.{ExecutorView, ActorView}
use Rattle.script_compiler.specs.Starts.{start_if}

-- the rows of these actors
abbrev pub rows_among : List ActorView → List ℕ → List (List ℤ)
rows_among actors members = map (λ k. start_if (slice_get actors k)) members

-- the rows of each executor's actors
abbrev pub rows_in : List ExecutorView → List ActorView → List (List (List ℤ))
rows_in executors actors = map (λ x. rows_among actors x.actors) executors

-- those of one executor
abbrev pub rows_at : List (List (List ℤ)) → ℕ → List (List ℤ)
rows_at all e = unwrap_or (slice_get all e) []

-- the numbers of rows of the code
abbrev pub all_rows_of : List (Vec (Vec ℤ)) → List (List (List ℤ))
all_rows_of all = map (λ rows. rows_of rows.items) all

-- the place of the first actor, from k on, whose invariant does not hold of its executor's rows
abbrev pub first_false_in : List (List (List ℤ)) → ℕ → List ActorView → Option ℕ
first_false_in all k [] = None
first_false_in all k (a ∷ others) = if holds a.invariant (rows_at all a.executor) then first_false_in all (suc k) others else Some k

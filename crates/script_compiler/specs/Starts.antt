-- Whether the invariants hold at the start. (Own.)
use Rattle.std.specs.Prelude.{ℕ, suc, ℤ, Bool, Option, Some, None, List, [], ◌∷◌, map, slice_get, if◌then◌else◌}
use Rattle.script_code.specs.Value.{holds}
use Rattle.script_compiler.specs.Compiled.{ActorView, CompiledView, members_if}

-- what an actor's fields start with
abbrev pub start_of : ActorView → List ℤ
start_of a = map (λ f. f.start) a.fields

-- what an actor's fields start with, where there is one, and else nothing
abbrev pub start_if : Option ActorView → List ℤ
start_if None = []
start_if (Some a) = start_of a

-- what the fields of an executor's actors start with, a list for each actor
abbrev pub starts_at : CompiledView → ℕ → List (List ℤ)
starts_at c e = map (λ k. start_if (slice_get c.actors k)) (members_if (slice_get c.executors e))

-- an actor's invariant holds at the start
abbrev pub starts_well : CompiledView → ActorView → Bool
starts_well c a = holds a.invariant (starts_at c a.executor)

-- the place of the first actor, from k on, whose invariant does not
abbrev pub first_false_from : CompiledView → ℕ → List ActorView → Option ℕ
first_false_from c k [] = None
first_false_from c k (a ∷ others) = if starts_well c a then first_false_from c (suc k) others else Some k

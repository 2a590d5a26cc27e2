-- Laws of cancellation (SE-0304), over what a log says.
use Rattle.std.specs.Prelude.{◌≡◌, ◌⊎◌, ℕ, ◌<◌, ◌||◌, IsTrue, Some, None, List, [], ◌∷◌, ◌++◌}
use Rattle.swift_types.specs.declared.id.TaskId.{TaskId}
use Rattle.swift_events.specs.declared.event.Event.{Event}
use Rattle.swift_events.specs.declared.life.Origin.TheVariants as origin
use Rattle.swift_events.specs.Events.{task_of}
use Rattle.swift_events.specs.Lives.{life_of, origin_in}
use Rattle.swift_events.specs.Relations.{parent_of, is_named, is_cancelled, is_cancelled_group}

-- the owner of each child has a smaller number than the child
abbrev pub OwnersAreOlder : List Event → Type 0
OwnersAreOlder log = (t : ℕ) (x : ℕ × ℕ) → parent_of t log ≡ Some x → x.0 < t

-- the event makes no task, or one that was not made before
abbrev pub MakesNew : List Event → Event → Type 0
MakesNew log e = (origin_in e ≡ None) ⊎ ((life_of (task_of e) log).origin ≡ None)

-- each of the events that follow a log makes no task, or one that was not made before it
abbrev pub AllMakeNew : List Event → List Event → Type 0
AllMakeNew log [] = Unit {0}
AllMakeNew log (e ∷ es) = MakesNew log e × AllMakeNew (log ++ e ∷ []) es

-- a task that was spawned or detached is cancelled by its own name alone, and not with its maker
abbrev pub NotCancelledWithMaker : Type 0
NotCancelledWithMaker = (log : List Event) (t : ℕ) (by : TaskId) → ((life_of t log).origin ≡ Some (origin.Spawned by)) ⊎ ((life_of t log).origin ≡ Some (origin.Detached by)) → is_cancelled t log ≡ is_named t log

-- a child is cancelled by its own name, or where its group is, by name or with its owner
abbrev pub CancelledWithGroup : Type 0
CancelledWithGroup = (log : List Event) (t : ℕ) (o : TaskId) (g : ℕ) → OwnersAreOlder log → (life_of t log).origin ≡ Some (origin.Child o g) → is_cancelled t log ≡ (is_named t log || is_cancelled_group o.0 g log)

-- a task that is cancelled stays so as the log grows
abbrev pub StaysCancelled : Type 0
StaysCancelled = (log more : List Event) (t : ℕ) → AllMakeNew log more → IsTrue (is_cancelled t log) → IsTrue (is_cancelled t (log ++ more))

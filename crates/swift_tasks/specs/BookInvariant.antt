-- What a book keeps. No public clause names these.
use Rattle.std.specs.Prelude.{◌≡◌, ℕ, Option, Some, None, List, map}
use Rattle.std.specs.List.{AllByRecursion}
use Rattle.swift_script.specs.Scripts.{ScriptView, root_count}
use Rattle.swift_turn.specs.Body.{IsRunning, idle}
use Rattle.swift_events.specs.declared.event.Event.{Event}
use Rattle.swift_history.specs.TurnEnds.{WaitingTaskView}
use Rattle.swift_tasks.specs.declared.held.WaitingTask.{WaitingTask}
use Rattle.swift_tasks.specs.Books.{HoldsWaiting}
use Rattle.swift_tasks.specs.CountedInside.{UnopenedAreNotClosed}

abbrev pub held_view : Option WaitingTask → Option WaitingTaskView
held_view None = None
held_view (Some h) = Some (record { number = h.number; frames = h.body.task })

abbrev pub held_views : List (Option WaitingTask) → List (Option WaitingTaskView)
held_views = map held_view

-- what is held is of the script, has not ended, and no turn is under way in it
abbrev pub FitsScript : ScriptView → Option WaitingTask → Type 0
FitsScript script None = Unit {0}
FitsScript script (Some h) = (h.body.script ≡ script) × IsRunning h.body × (h.body.phase ≡ idle)

-- a copy of what is held
pub record IsSameHeld (a b : Option WaitingTask) : Type 0 where
  pub view : held_view b ≡ held_view a
  pub fits : (script : ScriptView) → FitsScript script a → FitsScript script b

pub record BookInvariant (script : ScriptView) (roots : ℕ) (log : List Event) (held : List (Option WaitingTask)) : Type 0 where
  pub roots_are : roots ≡ root_count script
  pub holds : HoldsWaiting roots log held
  pub bodies : AllByRecursion (FitsScript script) held
  pub closed : UnopenedAreNotClosed log

-- What comes of a schedule (our own).
use Rattle.std.specs.Prelude.{◌≡◌, ℕ, true, false, None, Some, List, ◌++◌, is_some, slice_get, take}
use Rattle.swift_script.specs.Scripts.{ScriptView}
use Rattle.swift_events.specs.declared.event.Event.{Event}
use Rattle.swift_events.specs.Lives.{life_of}
use Rattle.swift_history.specs.Checks.{is_begun}
use Rattle.swift_explorer.specs.declared.moves.Move.{Move}
use Rattle.swift_explorer.specs.declared.moves.Move.TheVariants as step
use Rattle.swift_explorer.specs.declared.completion.Completion.{Completion}
use Rattle.swift_explorer.specs.declared.completion.Completion.TheVariants.{Whole, Stopped, Unfinished}
use Rattle.swift_explorer.specs.declared.completion.StepFault.{StepFault}
use Rattle.swift_explorer.specs.declared.completion.StepFault.TheVariants.{NotMade, Ended, UnderWay, NotBegun, Waits, Busy, Other}
use Rattle.swift_explorer.specs.Outcomes.{IsLogOf}

-- What is said of task `t`, which a step is of, is so by this log. That it waits is said where it was made, has not ended, and has no
-- turn under way; of another task only that it has one, and not where; and that there is another cause is always so.
abbrev pub IsFaultOf : List Event → ℕ → StepFault → Type 0
IsFaultOf log t NotMade = (life_of t log).origin ≡ None
IsFaultOf log t Ended = is_some (life_of t log).ending ≡ true
IsFaultOf log t UnderWay = is_begun (life_of t log).stage ≡ true
IsFaultOf log t NotBegun = is_begun (life_of t log).stage ≡ false
IsFaultOf log t Waits = (is_some (life_of t log).origin ≡ true) × (is_some (life_of t log).ending ≡ false) × (is_begun (life_of t log).stage ≡ false)
IsFaultOf log t (Busy u) = is_begun (life_of u.0 log).stage ≡ true
IsFaultOf log t Other = Unit {0}

-- of the task of a step
abbrev pub IsStepFault : List Event → Move → StepFault → Type 0
IsStepFault log step.Add why = Unit {0}
IsStepFault log (step.Begin t) why = IsFaultOf log t.0 why
IsStepFault log (step.Run t) why = IsFaultOf log t.0 why

-- The steps before this place can be done, and what is said of the one that stands there is so by their log.
pub record IsStopped (script : ScriptView) (schedule : List Move) (place : ℕ) (why : StepFault) : Type 0 where
  pub log : List Event
  pub before : IsLogOf script (take place schedule) log
  pub step : Move
  pub there : slice_get schedule place ≡ Some step
  pub because : IsStepFault log step why

-- These steps begin with those of the schedule, and can be done.
pub record IsWhole (script : ScriptView) (schedule whole : List Move) : Type 0 where
  pub rest : List Move
  pub begins : whole ≡ schedule ++ rest
  pub log : List Event
  pub done : IsLogOf script whole log

-- what is said to come of a schedule
abbrev pub IsCompletion : ScriptView → List Move → Completion → Type 0
IsCompletion script schedule (Whole whole) = IsWhole script schedule whole.items
IsCompletion script schedule (Stopped place why) = IsStopped script schedule place why
IsCompletion script schedule Unfinished = Unit {0}

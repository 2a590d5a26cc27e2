-- The turn that a schedule ends with (our own).
use Rattle.std.specs.Prelude.{◌≡◌, ◌-◌, ℕ, true, Option, Some, None, List, length, option_and_then, slice_get}
use Rattle.swift_script.specs.Scripts.{ScriptView}
use Rattle.swift_report.specs.declared.report.Report.{Report}
use Rattle.swift_explorer.specs.declared.moves.Move.{Move}
use Rattle.swift_explorer.specs.declared.moves.Move.TheVariants as step
use Rattle.swift_explorer.specs.FoundText.{turns_before}
use Rattle.run_pictures.specs.Breaking.{breaks_at}
use Rattle.nuchapay_tool.specs.declared.turn_names.TurnName.{TurnName}

-- the number of the task whose turn begins or runs in a step
abbrev pub task_of : Move → Option ℕ
task_of step.Add = None
task_of (step.Begin t) = Some t.0
task_of (step.Run t) = Some t.0

-- The last of these steps begins or runs this turn.
pub record EndsWith (steps : List Move) (turn : TurnName) : Type 0 where
  pub task : option_and_then task_of (slice_get steps (length steps - 1)) ≡ Some turn.task
  pub number : turn.number ≡ turns_before turn.task steps (length steps) - 1

-- The turn that these steps end with was undone by an invariant, in a report that they make.
pub record IsUndoneLast (script : ScriptView) (steps : List Move) (report : Report) : Type 0 where
  pub turn : TurnName
  pub last : EndsWith steps turn
  pub undone : breaks_at script turn.task turn.number report.checkpoints.items report.journals.items ≡ true

-- What commands say of a run.
use Rattle.std.specs.Prelude.{◌≡◌, ℕ, Bool, false, List, length}
use Rattle.swift_script.specs.Accepted.{IsAccepted}
use Rattle.swift_script.specs.Scripts.{ScriptView, executor_count, root_count}
use Rattle.swift_history.specs.Orderly.{IsOrderlyLegal}
use Rattle.swift_course.specs.Whole.{HasWhole}
use Rattle.swift_certificate.specs.Reports.{report_view}
use Rattle.swift_report.specs.declared.report.Report.{Report}
use Rattle.swift_workers.specs.Leaves.{AreEndings, AreReplayed}
use Rattle.swift_tool.specs.Run.{HoldInvariants, IsRunOf, end_well}
use Rattle.nuchapay_runs.specs.Notes.{IsAnnotated}
use Rattle.nuchapay_runs.specs.Explains.{Explains, Tells}
use Rattle.task_names.specs.Names.{task_name}
use Rattle.nuchapay_tool.specs.declared.turn_names.TurnName.{TurnName}
use Rattle.nuchapay_tool.specs.declared.turn_names.TurnWord.{TurnWord}
use Rattle.nuchapay_tool.specs.declared.turn_names.TurnWord.TheVariants.{Numbered, Named}
use Rattle.nuchapay.specs.declared.values.AskedTurn.{AskedTurn}
use Rattle.nuchapay.specs.declared.values.AskedTurn.TheVariants.{Turn, NoTask}

-- A report is that of a run of the script that these bytes spell: what `IsRunOf` says of the report of a text, of this one.
pub record IsReportOf (bytes : List ℕ) (script : ScriptView) (report : Report) : Type 0 where
  pub accepted : IsAccepted bytes script
  pub legal : IsOrderlyLegal script (report_view report)
  pub whole : HasWhole script (report_view report)
  pub replayed : AreReplayed script 0 report.checkpoints.items report.journals.items report.fields.items
  pub journals : length report.journals.items ≡ executor_count script
  pub checkpoints : length report.checkpoints.items ≡ executor_count script
  pub fields : length report.fields.items ≡ executor_count script
  pub invariants : HoldInvariants script 0 report.fields.items
  pub endings : AreEndings (root_count script) report.log.events report.endings.items

-- Without its notes, which are lines that begin with four spaces, this is the text of a run of the script that these bytes spell.
pub record IsNotedRunOf (bytes said : List ℕ) (well : Bool) : Type 0 where
  pub text : List ℕ
  pub is : IsRunOf bytes false text well
  pub noted : IsAnnotated text said

-- Some report is that of a run of the script that these bytes spell, and of it this holds.
pub record IsOfRun (bytes : List ℕ) (P : ScriptView → Report → Type 0) : Type 0 where
  pub script : ScriptView
  pub report : Report
  pub is : IsReportOf bytes script report
  pub holds : P script report

-- whether each task of a report has ended with a value
abbrev pub HasEndedWell : Bool → ScriptView → Report → Type 0
HasEndedWell well script report = well ≡ end_well report.endings.items

-- A word means this turn: the one that it numbers, or the one with its number of a task that has its name.
abbrev pub IsTurnMeant : ScriptView → Report → TurnWord → TurnName → Type 0
IsTurnMeant script report (Numbered name) turn = name ≡ turn
IsTurnMeant script report (Named name number) turn = (task_name script report.endings.items turn.task ≡ name.now) × (number ≡ turn.number)

-- What is said of the turn that a word means: it is that one, it stands where it is said to stand, and the text explains it.
abbrev pub IsAsked : TurnWord → ScriptView → Report → AskedTurn → Type 0
IsAsked word script report (Turn turn found) = IsTurnMeant script report word turn × Explains report turn.task turn.number found × Tells script report turn.task turn.number found
IsAsked word script report NoTask = Unit {0}

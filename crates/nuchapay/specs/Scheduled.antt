-- Runs by a schedule (our own).
use Rattle.std.specs.Prelude.{◌≡◌, ◌⊎◌, ◌<◌, ℕ, ◌+◌, Bool, IsTrue, Some, List, length, slice_get, take}
use Rattle.std.specs.Arc.{arc_value}
use Rattle.swift_script.specs.Accepted.{IsAccepted}
use Rattle.swift_script.specs.Scripts.{ScriptView}
use Rattle.swift_history.specs.Histories.{IsLegal}
use Rattle.swift_certificate.specs.Reports.{report_view}
use Rattle.swift_report.specs.declared.report.Report.{Report}
use Rattle.swift_explorer.specs.declared.exploration.FoundOutcomes.{FoundOutcomes}
use Rattle.swift_explorer.specs.declared.moves.Move.{Move}
use Rattle.swift_explorer.specs.declared.outcome.RunOutcome.{RunOutcome}
use Rattle.swift_explorer.specs.Outcomes.{IsBrokenAfter, IsLogOf, NeverBreaks}
use Rattle.nuchapay_tool.specs.declared.requests.ScheduleChoice.{ScheduleChoice}
use Rattle.nuchapay_tool.specs.declared.requests.ScheduleChoice.TheVariants as choice
use Rattle.swift_explorer.specs.FoundText.{schedule_text}
use Rattle.nuchapay.specs.declared.scheduled.BrokenLine.{BrokenLine}
use Rattle.nuchapay.specs.declared.scheduled.BrokenLine.TheVariants as line
use Rattle.nuchapay.specs.declared.scheduled.ChosenRun.{ChosenRun}
use Rattle.nuchapay.specs.declared.scheduled.ChosenRun.TheVariants as chosen
use Rattle.nuchapay.specs.declared.scheduled.NoRun.{NoRun}
use Rattle.nuchapay.specs.declared.scheduled.NoRun.TheVariants.{NoOutcome, NoneBroken, NotUndone, Word, OtherText, Step, Unfinished}
use Rattle.nuchapay.specs.declared.scheduled.ScheduledRun.{ScheduledRun}
use Rattle.nuchapay.specs.Schedules.{AreSpelled}
use Rattle.nuchapay.specs.LastTurns.{IsUndoneLast}
use Rattle.explorer_answers.specs.Found.{IsFound}
use Rattle.std.specs.declared.vec.Vec.{Vec}
use Rattle.std.specs.declared.alloc.Global.{Global}
use Rattle.explorer_files.specs.Saved.{IsSavedAs}
use Rattle.explorer_files.specs.declared.saved.SavedChoice.{SavedChoice}
use Rattle.explorer_files.specs.declared.saved.SavedChoice.TheVariants as meant
use Rattle.explorer_files.specs.declared.saved.SavedSchedule.TheVariants.{Steps}
use Rattle.nuchapay.specs.declared.scheduled.SavedRun.{SavedRun}
use Rattle.nuchapay.specs.declared.scheduled.SavedRun.TheVariants as kept

-- A report is that of a schedule: it is legal, and its log is that of the schedule's steps.
pub record IsScheduledReport (script : ScriptView) (schedule : List Move) (report : Report) : Type 0 where
  pub legal : IsLegal script (report_view report)
  pub log : IsLogOf script schedule report.log.events

-- A schedule is that of the outcome with this number, from 1, of those that a search has found which keeps at most `limit` histories.
pub record IsOfOutcome (script : ScriptView) (limit number : ℕ) (schedule : List Move) : Type 0 where
  pub found : FoundOutcomes
  pub is : IsFound script limit found
  pub place : ℕ
  pub numbered : place + 1 ≡ number
  pub outcome : RunOutcome
  pub there : slice_get found.outcomes.items place ≡ Some outcome
  pub same : schedule ≡ outcome.schedule.items

-- a schedule is the one that was asked for
abbrev pub IsChoice : ScriptView → ScheduleChoice → List Move → Type 0
IsChoice script (choice.Outcome limit number) schedule = IsOfOutcome script limit number schedule
IsChoice script (choice.Given words) schedule = AreSpelled words.now schedule
IsChoice script (choice.Broken limit) schedule = IsBrokenAfter script schedule

-- A run is one of this script by the schedule that was asked for: its first steps are those of that schedule, and its report is that of all
-- its steps.
pub record IsRunBy (script : ScriptView) (choice : ScheduleChoice) (run : ScheduledRun) : Type 0 where
  pub same : arc_value run.script ≡ script
  pub is : IsScheduledReport script run.schedule.items run.report
  pub chosen : IsChoice script choice (take run.given run.schedule.items)

-- no outcome that such a search has found has this number: there are `many`
pub record HasNoOutcome (script : ScriptView) (limit number many : ℕ) : Type 0 where
  pub found : FoundOutcomes
  pub is : IsFound script limit found
  pub counted : many ≡ length found.outcomes.items
  pub other : (number ≡ 0) ⊎ (many < number)

-- that an outcome is missing is said only where one was asked for
abbrev pub IsMissing : ScriptView → ℕ → ScheduleChoice → Type 0
IsMissing script many (choice.Outcome limit number) = HasNoOutcome script limit number many
IsMissing script many (choice.Given words) = ⊥
IsMissing script many (choice.Broken limit) = ⊥

-- What is said of why there is no run is so: no outcome has the number that was asked for; no turn breaks an invariant, in any order of
-- turns, where a search came to its end.
abbrev pub IsNoRun : ScriptView → NoRun → ScheduleChoice → Type 0
IsNoRun script (NoOutcome many) choice = IsMissing script many choice
IsNoRun script (NoneBroken all) choice = IsTrue all → NeverBreaks script
IsNoRun script NotUndone choice = Unit {0}
IsNoRun script (Word number fault) choice = Unit {0}
IsNoRun script OtherText choice = Unit {0}
IsNoRun script (Step number fault) choice = Unit {0}
IsNoRun script Unfinished choice = Unit {0}

-- the run that was asked for, or why there is none
abbrev pub IsRunOrNone : ScriptView → ScheduleChoice → ChosenRun → Type 0
IsRunOrNone script choice (chosen.Run run) = IsRunBy script choice run
IsRunOrNone script choice (chosen.None why) = IsNoRun script why choice

-- The run that was asked for, of the script that these bytes spell, or why there is none.
pub record IsChosen (bytes : List ℕ) (choice : ScheduleChoice) (found : ChosenRun) : Type 0 where
  pub script : ScriptView
  pub accepted : IsAccepted bytes script
  pub is : IsRunOrNone script choice found

-- a run of this script whose first steps are these
pub record IsRunAfter (script : ScriptView) (schedule : List Move) (run : ScheduledRun) : Type 0 where
  pub same : arc_value run.script ≡ script
  pub is : IsScheduledReport script run.schedule.items run.report
  pub first : take run.given run.schedule.items ≡ schedule

-- a run whose first steps are these, or why there is none, whatever was asked for
abbrev pub IsCompleted : ScriptView → List Move → ChosenRun → Type 0
IsCompleted script schedule (chosen.Run run) = IsRunAfter script schedule run
IsCompleted script schedule (chosen.None why) = (choice : ScheduleChoice) → IsNoRun script why choice

-- A line is that of a schedule to a turn that breaks an invariant, of the script that these bytes spell.
pub record IsLineOfBroken (bytes line : List ℕ) : Type 0 where
  pub script : ScriptView
  pub accepted : IsAccepted bytes script
  pub schedule : List Move
  pub broken : IsBrokenAfter script schedule
  pub printed : line ≡ schedule_text schedule

-- no turn of the script that these bytes spell breaks an invariant, if `all` is so
pub record NeverBreaksIf (bytes : List ℕ) (all : Bool) : Type 0 where
  pub script : ScriptView
  pub accepted : IsAccepted bytes script
  pub never : IsTrue all → NeverBreaks script

-- the line of a schedule to a turn that breaks an invariant; where a search that came to its end found none, no turn does
abbrev pub IsBrokenLine : List ℕ → BrokenLine → Type 0
IsBrokenLine bytes (line.Line text) = IsLineOfBroken bytes text.items
IsBrokenLine bytes (line.None all) = NeverBreaksIf bytes all

-- of a run by a schedule that is to lead to a turn that an invariant undoes, its last turn is one
abbrev pub IsAsMeant : SavedChoice → ScriptView → List Move → ChosenRun → Type 0
IsAsMeant (meant.Outcome number) script steps found = Unit {0}
IsAsMeant meant.Broken script steps (chosen.Run run) = IsUndoneLast script steps run.report
IsAsMeant meant.Broken script steps (chosen.None why) = Unit {0}

-- What comes of the schedule that a file has: a run whose first steps are its steps, and of the kind that is meant, or why there is none.
pub record IsFollowed (bytes file : List ℕ) (choice : SavedChoice) (script : ScriptView) (found : ChosenRun) : Type 0 where
  pub steps : Vec Move Global
  pub saved : IsSavedAs file bytes choice (Steps steps)
  pub run : IsCompleted script steps.items found
  pub meant : IsAsMeant choice script steps.items found

-- what comes of the schedule that is meant, or what the file has in its place
abbrev pub IsSavedOrNone : List ℕ → List ℕ → SavedChoice → ScriptView → SavedRun → Type 0
IsSavedOrNone bytes file choice script (kept.Followed run) = IsFollowed bytes file choice script run
IsSavedOrNone bytes file choice script (kept.NotThere found) = IsSavedAs file bytes choice found

-- The run by a schedule of a file, of the script that these bytes spell, or why there is none.
pub record IsSavedRun (bytes file : List ℕ) (choice : SavedChoice) (found : SavedRun) : Type 0 where
  pub script : ScriptView
  pub accepted : IsAccepted bytes script
  pub is : IsSavedOrNone bytes file choice script found

-- Outcomes (our own).
use Rattle.std.specs.Prelude.{◌≡◌, ◌+◌, ◌*◌, ◌<◌, List, [], ◌∷◌, ◌++◌, AllPairs, Contains, map}
use Rattle.script_code.specs.Seen.{rows_of}
use Rattle.swift_types.specs.declared.limits.TheConstants.{TASKS, MADE}
use Rattle.swift_script.specs.Scripts.{ScriptView, executor_count, root_count}
use Rattle.swift_events.specs.Events.{tasks_of}
use Rattle.swift_history.specs.Histories.{AllStand, Block, ReportView}
use Rattle.swift_events.specs.declared.event.Event.{Event}
use Rattle.swift_course.specs.Course.{standing, starts}
use Rattle.swift_history.specs.Orderly.{AllAllowed, IsOrderly, IsOrderlyLegal}
use Rattle.swift_digest.specs.Explored.{FoldsNone}
use Rattle.swift_laws.specs.Laws.{ActorsHaveExecutors}
use Rattle.swift_explorer.specs.declared.moves.Move.{Move}
use Rattle.swift_explorer.specs.declared.outcome.End.{End}
use Rattle.swift_explorer.specs.declared.outcome.End.TheVariants.{Reached}
use Rattle.swift_explorer.specs.declared.outcome.RunOutcome.{RunOutcome}
use Rattle.swift_explorer.specs.Steps.{AreSteps, IsBroken}

-- The schedule of an outcome leads to it: some legal report in order, in which no executor has folded turns, was made by what the
-- schedule's steps do, and has these endings and these fields.
pub record IsOutcomeOf (script : ScriptView) (outcome : RunOutcome) : Type 0 where
  pub report : ReportView
  pub legal : IsOrderlyLegal script report
  pub folds : FoldsNone report
  pub steps : AreSteps 0 outcome.schedule.items legal.legal.blocks
  pub endings : report.endings ≡ outcome.endings.items
  pub fields : report.fields ≡ map (λ rows. rows_of rows.items) outcome.fields.items

-- The last turn of a schedule breaks an invariant: what its steps do is a history in order, and its last turn ends so.
pub record IsBrokenAfter (script : ScriptView) (schedule : List Move) : Type 0 where
  pub blocks : List Block
  pub last : Block
  pub stand : AllStand script (starts script) [] (blocks ++ last ∷ [])
  pub orderly : AllAllowed (IsOrderly script) [] (blocks ++ last ∷ [])
  pub steps : AreSteps 0 schedule (blocks ++ last ∷ [])
  pub breaks : IsBroken last

-- A log is that of a schedule: a history in order, which is what the schedule's steps do, has written it.
pub record IsLogOf (script : ScriptView) (schedule : List Move) (log : List Event) : Type 0 where
  pub blocks : List Block
  pub stand : AllStand script (starts script) [] blocks
  pub orderly : AllAllowed (IsOrderly script) [] blocks
  pub steps : AreSteps 0 schedule blocks
  pub log_is : log ≡ (standing script blocks).log

-- of the outcome that was reached
abbrev pub IfReached : (RunOutcome → Type 0) → End → Type 0
IfReached P (Reached outcome) = P outcome
IfReached P _ = Unit {0}

-- an outcome tells how the tasks of a report have ended, and which fields it has
abbrev pub Tells : RunOutcome → ReportView → Type 0
Tells outcome report = (report.endings ≡ outcome.endings.items) × (report.fields ≡ map (λ rows. rows_of rows.items) outcome.fields.items)

-- Two outcomes differ: some task has ended otherwise, or some field is another.
abbrev pub Differ : RunOutcome → RunOutcome → Type 0
Differ o p = o.endings.items ≡ p.endings.items → map (λ rows. rows_of rows.items) o.fields.items ≡ map (λ rows. rows_of rows.items) p.fields.items → ⊥

-- each outcome of a list is there once
abbrev pub EachOnce : List RunOutcome → Type 0
EachOnce outcomes = AllPairs Differ outcomes

-- One of these outcomes tells of each legal report in order, in which no executor has folded turns, where each actor of the script has an
-- executor.
abbrev pub HasEachOutcome : ScriptView → List RunOutcome → Type 0
HasEachOutcome script outcomes = ActorsHaveExecutors script → (report : ReportView) → IsOrderlyLegal script report → FoldsNone report → (o : RunOutcome) × Contains outcomes o × Tells o report

-- No turn of such a report breaks an invariant.
abbrev pub NeverBreaks : ScriptView → Type 0
NeverBreaks script = ActorsHaveExecutors script → (report : ReportView) (orderly : IsOrderlyLegal script report) → FoldsNone report → (b : Block) → Contains orderly.legal.blocks b → IsBroken b → ⊥

-- Some history in order has so many tasks that a turn may be given less room than 16: with 16 more for each executor, and 16 besides, there
-- are more than 1,024.
pub record RunsShort (script : ScriptView) : Type 0 where
  pub blocks : List Block
  pub stand : AllStand script (starts script) [] blocks
  pub orderly : AllAllowed (IsOrderly script) [] blocks
  pub many : TASKS < tasks_of (root_count script) (standing script blocks).log + MADE * (executor_count script + 1)

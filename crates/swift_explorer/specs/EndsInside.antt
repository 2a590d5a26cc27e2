-- How a history that was followed has ended. No public clause names these.
use Rattle.std.specs.Prelude.{◌≡◌, ◌<◌, ℕ, Some, List, length, Contains}
use Rattle.swift_types.specs.declared.outcome.Ending.{Ending}
use Rattle.swift_script.specs.Scripts.{ScriptView, executor_count}
use Rattle.swift_events.specs.declared.event.Event.{Event}
use Rattle.swift_events.specs.declared.life.Origin.{Origin}
use Rattle.swift_events.specs.Lives.{life_of}
use Rattle.swift_history.specs.Histories.{Block, ReportView}
use Rattle.swift_course.specs.Course.{starts}
use Rattle.swift_digest.specs.Explored.{IsOutcome, state_of}
use Rattle.swift_explorer.specs.declared.outcome.End.{End}
use Rattle.swift_explorer.specs.declared.outcome.End.TheVariants.{NotYet, Reached, Unknown}
use Rattle.swift_explorer.specs.declared.outcome.RunOutcome.{RunOutcome}
use Rattle.swift_explorer.specs.Outcomes.{Tells}

-- a task comes from there and has ended so
abbrev pub IsEndedAs : List Event → ℕ → Origin × Ending → Type 0
IsEndedAs log t x = ((life_of t log).origin ≡ Some x.0) × ((life_of t log).ending ≡ Some x.1)

-- one of the first tasks has not ended, or was not made
abbrev pub SomeGoesOn : List Event → ℕ → Type 0
SomeGoesOn log tasks = (t : ℕ) × (t < tasks) × ((x : Origin × Ending) → IsEndedAs log t x → ⊥)

-- a report says where these blocks lead
pub record IsReportAfter (script : ScriptView) (blocks : List Block) (report : ReportView) : Type 0 where
  pub outcome : IsOutcome script (state_of script (starts script) blocks) report
  pub many : length report.fields ≡ executor_count script

-- what is known of the end of these blocks is so
abbrev pub IsKnownEnd : ScriptView → List Block → End → Type 0
IsKnownEnd script blocks NotYet = (report : ReportView) → IsReportAfter script blocks report → ⊥
IsKnownEnd script blocks Unknown = Unit {0}
IsKnownEnd script blocks (Reached outcome) = (report : ReportView) → IsReportAfter script blocks report → Tells outcome report

-- where a report says where these blocks lead, one of the outcomes tells of it
abbrev pub HasEnd : ScriptView → List RunOutcome → List Block → Type 0
HasEnd script outcomes blocks = (report : ReportView) → IsReportAfter script blocks report → (o : RunOutcome) × Contains outcomes o × Tells o report

-- Structured concurrency (SE-0304): when a task has ended, so have the tasks that it has waited for, and the children of its groups.
use Rattle.std.specs.Prelude.{◌≡◌, ◌≢◌, ℕ, IsTrue, is_some, Some, List, ◌++◌, Contains}
use Rattle.swift_types.specs.declared.id.TaskId.{TaskId}
use Rattle.swift_types.specs.declared.priority.Priority.{Priority}
use Rattle.swift_script.specs.Scripts.{ScriptView}
use Rattle.swift_events.specs.declared.event.Event.{Event}
use Rattle.swift_events.specs.declared.event.Event.TheVariants.{Child, Wait}
use Rattle.swift_events.specs.declared.life.JobStage.TheVariants.{Waits, Closes}
use Rattle.swift_events.specs.Lives.{life_of}
use Rattle.swift_escalation.specs.Waits.{Reaches}
use Rattle.swift_events.specs.Relations.{is_closed, links_of}
use Rattle.swift_history.specs.Histories.{IsLegal, ReportView}

-- a task has ended by then
abbrev pub HasEnded : ℕ → List Event → Type 0
HasEnded t log = IsTrue (is_some (life_of t log).ending)

-- a prefix of a report's log, as it stood at some point
abbrev pub IsPrefix : ReportView → List Event → Type 0
IsPrefix report front = (back : List Event) × (report.log ≡ front ++ back)

-- A task that has waited for another, and waits for it no more, does so since that has ended.
abbrev pub WaitersGoOnAfter : Type 0
WaitersGoOnAfter = (script : ScriptView) (report : ReportView) (front : List Event) (t u : TaskId)
    → IsLegal script report → IsPrefix report front → Contains front (Wait t u) → (life_of t.0 front).stage ≢ Some (Waits u) → HasEnded u.0 front

-- A task that has closed a group, and waits for its children no more, does so since each of them has ended.
abbrev pub OwnersGoOnAfter : Type 0
OwnersGoOnAfter = (script : ScriptView) (report : ReportView) (front : List Event) (t u : TaskId) (g : ℕ) (p : Priority)
    → IsLegal script report → IsPrefix report front → Contains front (Child u t g p) → IsTrue (is_closed t.0 g front) → (life_of t.0 front).stage ≢ Some (Closes g) → HasEnded u.0 front

-- At each point of the log, each task that an ended task has waited for has ended.
abbrev pub EndedWaitForNone : Type 0
EndedWaitForNone = (script : ScriptView) (report : ReportView) (front : List Event) (t u : TaskId)
    → IsLegal script report → IsPrefix report front → HasEnded t.0 front → Contains front (Wait t u) → HasEnded u.0 front

-- At each point of the log, each child of a group that an ended task has closed has ended.
abbrev pub EndedLeaveNoneClosed : Type 0
EndedLeaveNoneClosed = (script : ScriptView) (report : ReportView) (front : List Event) (t u : TaskId) (g : ℕ) (p : Priority)
    → IsLegal script report → IsPrefix report front → HasEnded t.0 front → IsTrue (is_closed t.0 g front) → Contains front (Child u t g p) → HasEnded u.0 front

-- At each point of the log, each child that was added to a group of an ended task has ended.
abbrev pub EndedLeaveNoChildren : Type 0
EndedLeaveNoChildren = (script : ScriptView) (report : ReportView) (front : List Event) (t u : TaskId) (g : ℕ) (p : Priority)
    → IsLegal script report → IsPrefix report front → HasEnded t.0 front → Contains front (Child u t g p) → HasEnded u.0 front

-- At each point of the log, each task that is reached from an ended task along children and waits has ended.
abbrev pub EndedReachEnded : Type 0
EndedReachEnded = (script : ScriptView) (report : ReportView) (front : List Event) (n : ℕ) (t u : TaskId)
    → IsLegal script report → IsPrefix report front → HasEnded t.0 front → Reaches (links_of front) n t u → HasEnded u.0 front

-- What a search of all histories has to find where it takes the begin and the run of a turn that looks away for one step (our own).
use Rattle.std.specs.Prelude.{◌≡◌, ℕ, ◌+◌, ◌*◌, ◌≤◌, true, false, List, [], ◌∷◌, ◌++◌, Contains}
use Rattle.swift_types.specs.declared.limits.TheConstants.{TASKS, MADE}
use Rattle.swift_script.specs.Scripts.{ScriptView, root_count, executor_count}
use Rattle.swift_interpreter.specs.Turn.{ExitView}
use Rattle.swift_journal.specs.Records.{RecordView}
use Rattle.swift_journal.specs.Checkpoints.{CheckpointView}
use Rattle.swift_events.specs.Events.{tasks_of}
use Rattle.swift_history.specs.Histories.{Block, added, begun, ran, at_first, after_blocks, AllStand, ReportView}
use Rattle.swift_history.specs.Orderly.{AllAllowed, IsOrderly, IsOrderlyLegal}
use Rattle.swift_laws.specs.Laws.{ActorsHaveExecutors}
use Rattle.swift_digest.specs.Futures.{LeadAlike}
use Rattle.swift_digest.specs.Explored.{StartsFresh, IsOutcome, state_of, FoldsNone}
use Rattle.swift_reordering.specs.Away.{turn_looks_away}

-- One step after a history: a root is added; a turn that does not look away begins; a turn that has begun runs; or a turn that looks away
-- begins and runs.
abbrev pub IsFusedStep : ScriptView → List Block → List Block → Type 0
IsFusedStep script before (added r ∷ []) = Unit {0}
IsFusedStep script before (begun t n env ∷ []) = turn_looks_away script (after_blocks script (at_first script) before) t ≡ false
IsFusedStep script before (ran e r ∷ []) = Unit {0}
IsFusedStep script before (begun t n env ∷ ran e r ∷ []) = (turn_looks_away script (after_blocks script (at_first script) before) t ≡ true) × (r.task ≡ t)
IsFusedStep script before _ = ⊥

-- such a step may follow a history, each of its blocks in order
pub record MayStep (script : ScriptView) (checkpoints : List CheckpointView) (before step : List Block) : Type 0 where
  pub fused : IsFusedStep script before step
  pub stands : AllStand script checkpoints before step
  pub orderly : AllAllowed (IsOrderly script) before step

-- so few tasks that turns at all executors, and one more, may each make 16
abbrev pub HasRoom : ScriptView → List Block → Type 0
HasRoom script before = tasks_of (root_count script) (after_blocks script (at_first script) before).log + MADE * (executor_count script + 1) ≤ TASKS

-- A list of histories is closed under such steps: the empty one leads alike to one of them, and so does each of them with one more step. In
-- each of them there is room.
pub record AreClosed (script : ScriptView) (histories : List (List Block)) : Type 0 where
  pub stand : (checkpoints : List CheckpointView) (h : List Block) → StartsFresh script checkpoints → Contains histories h → AllStand script checkpoints [] h
  pub room : (h : List Block) → Contains histories h → HasRoom script h
  pub first : (checkpoints : List CheckpointView) → StartsFresh script checkpoints → (k : List Block) × Contains histories k × LeadAlike script checkpoints [] k
  pub next : (checkpoints : List CheckpointView) (h step : List Block) → StartsFresh script checkpoints → Contains histories h → MayStep script checkpoints h step
      → (k : List Block) × Contains histories k × LeadAlike script checkpoints (h ++ step) k

-- A list that is closed under such steps has the outcome of each legal report in order without folded turns.
abbrev pub ClosedHasEachOutcome : Type 0
ClosedHasEachOutcome = (script : ScriptView) (histories : List (List Block)) (report : ReportView) → ActorsHaveExecutors script → AreClosed script histories
    → IsOrderlyLegal script report → FoldsNone report → (h : List Block) × Contains histories h × IsOutcome script (state_of script report.checkpoints h) report

-- one of these blocks is a turn that has run on this executor and has ended so
pub record HasExit (blocks : List Block) (executor : ℕ) (exit : ExitView) : Type 0 where
  pub turn : RecordView
  pub there : Contains blocks (ran executor turn)
  pub exit_is : turn.exit ≡ exit

-- a step after one of the histories has a turn on this executor that ends so
pub record IsTried (script : ScriptView) (checkpoints : List CheckpointView) (histories : List (List Block)) (executor : ℕ) (exit : ExitView) : Type 0 where
  pub before : List Block
  pub step : List Block
  pub kept : Contains histories before
  pub may : MayStep script checkpoints before step
  pub has : HasExit step executor exit

-- Each turn of such a report ends as one does of a step after one of them.
abbrev pub ClosedHasEachExit : Type 0
ClosedHasEachExit = (script : ScriptView) (histories : List (List Block)) (report : ReportView) → ActorsHaveExecutors script → AreClosed script histories
    → (orderly : IsOrderlyLegal script report) → FoldsNone report → (e : ℕ) (r : RecordView) → Contains orderly.legal.blocks (ran e r) → IsTried script report.checkpoints histories e r.exit

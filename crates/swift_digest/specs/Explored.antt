-- What a search of all histories has to find so that it has missed no outcome (our own). It leaves out histories in which an
-- executor has folded turns.
use Rattle.std.specs.Prelude.{◌≡◌, ℕ, ℤ, ◌+◌, Option, Some, List, [], ◌∷◌, ◌++◌, length, slice_get, Contains}
use Rattle.swift_types.specs.declared.outcome.Ending.{Ending}
use Rattle.swift_events.specs.declared.life.Origin.{Origin}
use Rattle.swift_script.specs.Scripts.{ScriptView, root_count, executor_count, executor_start}
use Rattle.swift_journal.specs.Checkpoints.{CheckpointView}
use Rattle.swift_laws.specs.Laws.{ActorsHaveExecutors}
use Rattle.std.specs.Option.{option_map}
use Rattle.swift_history.specs.Histories.{Block, folded, at_first, after_blocks, fields_of, Stands, AllStand, ReportView, IsLegal}
use Rattle.swift_history.specs.Orderly.{AllAllowed, IsOrderly, IsOrderlyLegal}
use Rattle.swift_digest.specs.Digests.{Digest, digest_of}
use Rattle.swift_digest.specs.Plans.{JobPlan, WaitingTaskPlan, job_plan, held_plans}
use Rattle.swift_digest.specs.Futures.{LeadAlike}

-- Where a history leads, as far as its future depends on it.
pub record ExploredState : Type 0 where
  pub digest : Digest
  pub held : List (Option WaitingTaskPlan)
  pub jobs : ℕ → Option JobPlan
  pub fields : ℕ → List (List ℤ)

-- the state to which the history `bs` leads from these checkpoints
abbrev pub state_of : ScriptView → List CheckpointView → List Block → ExploredState
state_of script checkpoints bs =
    let s = after_blocks script (at_first script) bs in
    record { digest = digest_of s.log; held = held_plans script s.held; jobs = λ t. option_map (job_plan script) (s.jobs t); fields = λ e. fields_of script checkpoints e bs }

-- a checkpoint for each executor, with the fields that the script gives and no folded turn
pub record StartsFresh (script : ScriptView) (checkpoints : List CheckpointView) : Type 0 where
  pub count : length checkpoints ≡ executor_count script
  pub each : (e : ℕ) (c : CheckpointView) → slice_get checkpoints e ≡ Some c → (c.fields ≡ executor_start script e) × (c.folded ≡ [])

-- the block is no turn that was folded
abbrev pub IsNotFolded : Block → Type 0
IsNotFolded (folded e f) = ⊥
IsNotFolded _ = Unit {0}

-- A list of states is closed: it has the first one, and whatever one more allowed block leads to from one that it has.
pub record AreExplored (script : ScriptView) (Allowed : List Block → Block → Type 0) (states : List ExploredState) : Type 0 where
  pub first : (checkpoints : List CheckpointView) → StartsFresh script checkpoints → Contains states (state_of script checkpoints [])
  pub next : (checkpoints : List CheckpointView) (bs : List Block) (b : Block) → StartsFresh script checkpoints → AllStand script checkpoints [] bs → AllAllowed Allowed [] bs
      → IsNotFolded b → Stands script checkpoints bs b → Allowed bs b → Contains states (state_of script checkpoints bs) → Contains states (state_of script checkpoints (bs ++ b ∷ []))

-- The outcome of a report is that of a state: as many tasks, each from there and with that ending, and the fields of each executor.
pub record IsOutcome (script : ScriptView) (x : ExploredState) (report : ReportView) : Type 0 where
  pub tasks : length report.endings ≡ root_count script + x.digest.made
  pub endings : (t : ℕ) (y : Origin × Ending) → slice_get report.endings t ≡ Some y → ((x.digest.cards t).life.origin ≡ Some y.0) × ((x.digest.cards t).life.ending ≡ Some y.1)
  pub fields : (e : ℕ) (f : List (List ℤ)) → slice_get report.fields e ≡ Some f → f ≡ x.fields e

-- no executor of a report has folded a turn: none has run 4,096 of them
abbrev pub FoldsNone : ReportView → Type 0
FoldsNone report = (e : ℕ) (c : CheckpointView) → slice_get report.checkpoints e ≡ Some c → c.folded ≡ []

-- Each block is allowed.
abbrev pub IsAnyBlock : List Block → Block → Type 0
IsAnyBlock before b = Unit {0}

-- A closed list of states has the outcome of each legal report without folded turns.
abbrev pub ExploredHasEachOutcome : Type 0
ExploredHasEachOutcome = (script : ScriptView) (states : List ExploredState) (report : ReportView) → ActorsHaveExecutors script → AreExplored script IsAnyBlock states
    → IsLegal script report → FoldsNone report → (x : ExploredState) × Contains states x × IsOutcome script x report

-- A list that is closed under blocks in order has the outcome of each such report that blocks in order have made; it may be shorter.
abbrev pub ExploredHasEachOrderlyOutcome : Type 0
ExploredHasEachOrderlyOutcome = (script : ScriptView) (states : List ExploredState) (report : ReportView) → ActorsHaveExecutors script → AreExplored script (IsOrderly script) states
    → IsOrderlyLegal script report → FoldsNone report → (x : ExploredState) × Contains states x × IsOutcome script x report

-- A list of histories is closed: the empty one leads alike to one of them, and so does each of them with one more block in order.
-- So of histories that lead alike a search keeps one.
pub record AreRepresented (script : ScriptView) (histories : List (List Block)) : Type 0 where
  pub stand : (checkpoints : List CheckpointView) (h : List Block) → StartsFresh script checkpoints → Contains histories h → AllStand script checkpoints [] h
  pub first : (checkpoints : List CheckpointView) → StartsFresh script checkpoints → (k : List Block) × Contains histories k × LeadAlike script checkpoints [] k
  pub next : (checkpoints : List CheckpointView) (h : List Block) (b : Block) → StartsFresh script checkpoints → Contains histories h
      → IsNotFolded b → Stands script checkpoints h b → IsOrderly script h b → (k : List Block) × Contains histories k × LeadAlike script checkpoints (h ++ b ∷ []) k

-- A closed list of histories has the outcome of each legal report in order without folded turns.
abbrev pub RepresentedHasEachOutcome : Type 0
RepresentedHasEachOutcome = (script : ScriptView) (histories : List (List Block)) (report : ReportView) → ActorsHaveExecutors script → AreRepresented script histories
    → IsOrderlyLegal script report → FoldsNone report → (h : List Block) × Contains histories h × IsOutcome script (state_of script report.checkpoints h) report

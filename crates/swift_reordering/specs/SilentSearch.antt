-- What a search of all histories has to find where it takes a silent turn alone (our own).
use Rattle.std.specs.Prelude.{◌≡◌, ◌⊎◌, ℕ, Bool, true, List, [], ◌∷◌, ◌++◌, Contains}
use Rattle.swift_types.specs.declared.env.Env.{Env}
use Rattle.swift_script.specs.Scripts.{ScriptView, executor_invariants}
use Rattle.swift_interpreter.specs.Turn.{ExitView, all_hold}
use Rattle.swift_journal.specs.Records.{RecordView}
use Rattle.swift_journal.specs.Checkpoints.{CheckpointView}
use Rattle.swift_history.specs.Histories.{Block, begun, ran, at_first, after_blocks, checkpoint_at, AllStand, ReportView}
use Rattle.swift_history.specs.Orderly.{AllAllowed, IsOrderly, IsOrderlyLegal}
use Rattle.swift_laws.specs.Laws.{ActorsHaveExecutors}
use Rattle.swift_digest.specs.Futures.{LeadAlike}
use Rattle.swift_digest.specs.Explored.{StartsFresh, IsOutcome, state_of, FoldsNone}
use Rattle.swift_reordering.specs.Away.{turn_looks_away}
use Rattle.swift_reordering.specs.Fused.{RoomNeverBinds}
use Rattle.swift_reordering.specs.FusedSteps.{MayStep}
use Rattle.swift_reordering.specs.SilentTurns.{IsSilentTurn}

-- A silent turn that looks away may begin after a history, in order, and run; that leads alike to one of the histories. It ends as `tried` says
-- that some turn does.
pub record GoesSilently (script : ScriptView) (checkpoints : List CheckpointView) (tried : ℕ → ExitView → Bool) (histories : List (List Block)) (h : List Block) : Type 0 where
  pub t : ℕ
  pub n : ℕ
  pub env : Env
  pub e : ℕ
  pub r : RecordView
  pub silent : IsSilentTurn script checkpoints h t n env e r
  pub orderly : IsOrderly script h (begun t n env)
  pub away : turn_looks_away script (after_blocks script (at_first script) h) t ≡ true
  pub kept : List Block
  pub is_kept : Contains histories kept
  pub lead : LeadAlike script checkpoints ((h ++ begun t n env ∷ []) ++ ran e r ∷ []) kept
  pub ends : tried e r.exit ≡ true

-- A step leads alike to one of the histories, and its turns end as `tried` says that some do.
pub record GoesOnIn (script : ScriptView) (checkpoints : List CheckpointView) (tried : ℕ → ExitView → Bool) (histories : List (List Block)) (h step : List Block) : Type 0 where
  pub kept : List Block
  pub is_kept : Contains histories kept
  pub lead : LeadAlike script checkpoints (h ++ step) kept
  pub ends : (e : ℕ) (r : RecordView) → Contains step (ran e r) → tried e r.exit ≡ true

-- A list of histories in order is closed: the empty one leads alike to one of them, and from each of them either each step does, or a silent
-- turn. On which executors the turns of these steps run and how they end is among what `tried` says.
pub record AreClosedSilently (script : ScriptView) (tried : ℕ → ExitView → Bool) (histories : List (List Block)) : Type 0 where
  pub stand : (checkpoints : List CheckpointView) (h : List Block) → StartsFresh script checkpoints → Contains histories h → AllStand script checkpoints [] h
  pub orderly : (h : List Block) → Contains histories h → AllAllowed (IsOrderly script) [] h
  pub first : (checkpoints : List CheckpointView) → StartsFresh script checkpoints → (k : List Block) × Contains histories k × LeadAlike script checkpoints [] k
  pub next : (checkpoints : List CheckpointView) (h : List Block) → StartsFresh script checkpoints → Contains histories h
      → ((step : List Block) → MayStep script checkpoints h step → GoesOnIn script checkpoints tried histories h step) ⊎ GoesSilently script checkpoints tried histories h

-- the invariants of each executor's actors hold of the fields at the start of a report
abbrev pub InvariantsStart : ScriptView → ReportView → Type 0
InvariantsStart script report = (e : ℕ) → all_hold (executor_invariants script e) (checkpoint_at report.checkpoints e).fields ≡ true

-- Such a list has the outcome of each legal report in order without folded turns in which room never binds, where the invariants hold at its
-- start.
abbrev pub ClosedSilentlyHasEachOutcome : Type 0
ClosedSilentlyHasEachOutcome = (script : ScriptView) (tried : ℕ → ExitView → Bool) (histories : List (List Block)) (report : ReportView) → ActorsHaveExecutors script → AreClosedSilently script tried histories
    → InvariantsStart script report → IsOrderlyLegal script report → FoldsNone report → RoomNeverBinds script report → (h : List Block) × Contains histories h × IsOutcome script (state_of script report.checkpoints h) report

-- And each turn of such a report ends as was tried.
abbrev pub ClosedSilentlyHasEachExit : Type 0
ClosedSilentlyHasEachExit = (script : ScriptView) (tried : ℕ → ExitView → Bool) (histories : List (List Block)) (report : ReportView) → ActorsHaveExecutors script → AreClosedSilently script tried histories
    → InvariantsStart script report → (orderly : IsOrderlyLegal script report) → FoldsNone report → RoomNeverBinds script report → (e : ℕ) (r : RecordView) → Contains orderly.legal.blocks (ran e r) → tried e r.exit ≡ true

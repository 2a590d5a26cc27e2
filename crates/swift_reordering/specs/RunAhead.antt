-- What a search of all histories has to find where it runs silent turns ahead, after each step (our own).
use Rattle.std.specs.Prelude.{◌≡◌, ℕ, Bool, true, List, [], ◌∷◌, ◌++◌, Contains}
use Rattle.swift_types.specs.declared.env.Env.{Env}
use Rattle.swift_script.specs.Scripts.{ScriptView}
use Rattle.swift_interpreter.specs.Turn.{ExitView}
use Rattle.swift_journal.specs.Records.{RecordView}
use Rattle.swift_journal.specs.Checkpoints.{CheckpointView}
use Rattle.swift_history.specs.Histories.{Block, begun, ran, at_first, after_blocks, AllStand, ReportView}
use Rattle.swift_history.specs.Orderly.{IsOrderlyLegal}
use Rattle.swift_laws.specs.Laws.{ActorsHaveExecutors}
use Rattle.swift_digest.specs.Futures.{LeadAlike}
use Rattle.swift_digest.specs.Explored.{StartsFresh, IsOutcome, state_of, FoldsNone}
use Rattle.swift_reordering.specs.Away.{turn_looks_away}
use Rattle.swift_reordering.specs.FusedSteps.{MayStep, HasRoom}
use Rattle.swift_reordering.specs.SilentTurns.{IsSilentTurn}
use Rattle.swift_reordering.specs.SilentSearch.{InvariantsStart}

-- a turn of a task, which begins and runs at once
pub record OneTurn : Type 0 where
  pub task : ℕ
  pub number : ℕ
  pub env : Env
  pub executor : ℕ
  pub turn : RecordView

-- a history, and a turn after it
abbrev pub after_turn : List Block → OneTurn → List Block
after_turn h x = (h ++ begun x.task x.number x.env ∷ []) ++ ran x.executor x.turn ∷ []

-- a history, and turns after it
abbrev pub after_turns : List Block → List OneTurn → List Block
after_turns h [] = h
after_turns h (x ∷ xs) = after_turns (after_turn h x) xs

-- a turn may run after a history; it is silent, and looks away
pub record RunsSilently (script : ScriptView) (checkpoints : List CheckpointView) (h : List Block) (x : OneTurn) : Type 0 where
  pub silent : IsSilentTurn script checkpoints h x.task x.number x.env x.executor x.turn
  pub away : turn_looks_away script (after_blocks script (at_first script) h) x.task ≡ true

-- each of these may, one after the other
abbrev pub AllRunSilently : ScriptView → List CheckpointView → List Block → List OneTurn → Type 0
AllRunSilently script checkpoints h [] = Unit {0}
AllRunSilently script checkpoints h (x ∷ xs) = RunsSilently script checkpoints h x × AllRunSilently script checkpoints (after_turn h x) xs

-- two histories lead alike, each as the other
abbrev pub LeadAsOne : ScriptView → List CheckpointView → List Block → List Block → Type 0
LeadAsOne script checkpoints h k = LeadAlike script checkpoints h k × LeadAlike script checkpoints k h

-- each of these turns ends as `tried` says that some do
abbrev pub AllEndAsTried : (ℕ → ExitView → Bool) → List OneTurn → Type 0
AllEndAsTried tried [] = Unit {0}
AllEndAsTried tried (x ∷ xs) = (tried x.executor x.turn.exit ≡ true) × AllEndAsTried tried xs

-- A step and silent turns after it lead as one of the histories does, and all these turns end as `tried` says that some do.
pub record GoesAhead (script : ScriptView) (checkpoints : List CheckpointView) (tried : ℕ → ExitView → Bool) (histories : List (List Block)) (h step : List Block) : Type 0 where
  pub turns : List OneTurn
  pub silent : AllRunSilently script checkpoints (h ++ step) turns
  pub kept : List Block
  pub is_kept : Contains histories kept
  pub lead : LeadAsOne script checkpoints (after_turns (h ++ step) turns) kept
  pub ends : (e : ℕ) (r : RecordView) → Contains step (ran e r) → tried e r.exit ≡ true
  pub also : AllEndAsTried tried turns

-- A list of histories is closed: the empty one leads as one of them does, and from each of them each step does, with silent turns after it;
-- and in each of them there is room. On which executors turns run and how they end is among what `tried` says.
pub record AreClosedAhead (script : ScriptView) (tried : ℕ → ExitView → Bool) (histories : List (List Block)) : Type 0 where
  pub stand : (checkpoints : List CheckpointView) (h : List Block) → StartsFresh script checkpoints → Contains histories h → AllStand script checkpoints [] h
  pub room : (h : List Block) → Contains histories h → HasRoom script h
  pub first : (checkpoints : List CheckpointView) → StartsFresh script checkpoints → (k : List Block) × Contains histories k × LeadAsOne script checkpoints [] k
  pub next : (checkpoints : List CheckpointView) (h step : List Block) → StartsFresh script checkpoints → Contains histories h → MayStep script checkpoints h step → GoesAhead script checkpoints tried histories h step

-- Such a list has the outcome of each legal report in order without folded turns, where the invariants hold at its start.
abbrev pub ClosedAheadHasEachOutcome : Type 0
ClosedAheadHasEachOutcome = (script : ScriptView) (tried : ℕ → ExitView → Bool) (histories : List (List Block)) (report : ReportView) → ActorsHaveExecutors script → AreClosedAhead script tried histories
    → InvariantsStart script report → IsOrderlyLegal script report → FoldsNone report → (h : List Block) × Contains histories h × IsOutcome script (state_of script report.checkpoints h) report

-- And each turn of such a report ends as was tried.
abbrev pub ClosedAheadHasEachExit : Type 0
ClosedAheadHasEachExit = (script : ScriptView) (tried : ℕ → ExitView → Bool) (histories : List (List Block)) (report : ReportView) → ActorsHaveExecutors script → AreClosedAhead script tried histories
    → InvariantsStart script report → (orderly : IsOrderlyLegal script report) → FoldsNone report → (e : ℕ) (r : RecordView) → Contains orderly.legal.blocks (ran e r) → tried e r.exit ≡ true

-- A silent turn may run before or after a block of another task (our own).
use Rattle.std.specs.Prelude.{◌≡◌, ◌≢◌, ◌⊎◌, ◌||◌, ℕ, ◌+◌, true, Some, List, [], ◌∷◌, ◌++◌, length, Contains}
use Rattle.std.specs.List.{AllByRecursion}
use Rattle.swift_types.specs.declared.env.Env.{Env}
use Rattle.swift_script.specs.Scripts.{ScriptView, executor_invariants}
use Rattle.swift_interpreter.specs.Turn.{all_hold}
use Rattle.swift_journal.specs.Records.{RecordView}
use Rattle.swift_journal.specs.Checkpoints.{CheckpointView}
use Rattle.swift_events.specs.declared.life.JobStage.TheVariants.{Given}
use Rattle.swift_history.specs.Histories.{Block, begun, ran, at_first, after_blocks, checkpoint_at, Stands, AllStand}
use Rattle.swift_history.specs.Orderly.{AllAllowed, IsOrderly}
use Rattle.swift_laws.specs.Laws.{ActorsHaveExecutors}
use Rattle.swift_digest.specs.Digests.{digest_of}
use Rattle.swift_digest.specs.Futures.{LeadAlike}
use Rattle.swift_digest.specs.Explored.{IsNotFolded}
use Rattle.swift_reordering.specs.Fused.{RunsNext, BeginLate}
use Rattle.swift_reordering.specs.FusedSteps.{HasExit}
use Rattle.swift_reordering.specs.Blurred.{stage_at}
use Rattle.swift_reordering.specs.Silent.{goes_on_alone, frame_is_silent}
use Rattle.swift_reordering.specs.Unnamed.{ends_task, IsApart, IsUnnamed}
use Rattle.swift_reordering.specs.Waiting.{IsOfOther}

-- Task `t` may begin after these blocks, and then run on executor `e` as this record says; its turn is silent, and it goes on at once, or it
-- ends, and is a root that no line names.
pub record IsSilentTurn (script : ScriptView) (checkpoints : List CheckpointView) (before : List Block) (t n : ℕ) (env : Env) (e : ℕ) (r : RecordView) : Type 0 where
  pub begins : Stands script checkpoints before (begun t n env)
  pub runs : Stands script checkpoints (before ++ begun t n env ∷ []) (ran e r)
  pub given : stage_at (after_blocks script (at_first script) before).log t ≡ Some Given
  pub own : r.task ≡ t
  pub number : r.number ≡ n
  pub quiet : frame_is_silent script r.frame ≡ true
  pub alone : (goes_on_alone runs.stands.runs.0 r.exit || ends_task runs.stands.runs.0 r.exit) ≡ true
  pub unnamed : ends_task runs.stands.runs.0 r.exit ≡ true → IsUnnamed script t
  pub apart : ends_task runs.stands.runs.0 r.exit ≡ true → IsApart t (digest_of (after_blocks script (at_first script) before).log)

-- It may do so after block `b` too, in another environment, and `b` may stand after it, in order where it was so before; each of the two
-- ways leads as the other does.
pub record Commutes (script : ScriptView) (checkpoints : List CheckpointView) (before : List Block) (t n : ℕ) (env : Env) (e : ℕ) (r : RecordView) (b : Block) : Type 0 where
  pub other : Env
  pub later : IsSilentTurn script checkpoints (before ++ b ∷ []) t n other e (record r { env = other })
  pub first : Stands script checkpoints ((before ++ begun t n env ∷ []) ++ ran e r ∷ []) b
  pub jobs : (u : ℕ) → u ≢ t
      → (after_blocks script (at_first script) ((before ++ begun t n env ∷ []) ++ ran e r ∷ [])).jobs u ≡ (after_blocks script (at_first script) before).jobs u
  pub orderly : IsOrderly script before b → IsOrderly script ((before ++ begun t n env ∷ []) ++ ran e r ∷ []) b
  pub lead : LeadAlike script checkpoints (((before ++ b ∷ []) ++ begun t n other ∷ []) ++ ran e (record r { env = other }) ∷ []) (((before ++ begun t n env ∷ []) ++ ran e r ∷ []) ++ b ∷ [])
  pub back : LeadAlike script checkpoints (((before ++ begun t n env ∷ []) ++ ran e r ∷ []) ++ b ∷ []) (((before ++ b ∷ []) ++ begun t n other ∷ []) ++ ran e (record r { env = other }) ∷ [])

-- So it is with each block of another task, where the invariants hold at the start.
abbrev pub SilentTurnsCommute : Type 0
SilentTurnsCommute = (script : ScriptView) (checkpoints : List CheckpointView) (before : List Block) (t n : ℕ) (env : Env) (e : ℕ) (r : RecordView) (b : Block)
    → AllStand script checkpoints [] before → IsSilentTurn script checkpoints before t n env e r → all_hold (executor_invariants script e) (checkpoint_at checkpoints e).fields ≡ true
    → Stands script checkpoints before b → IsOfOther t b → Commutes script checkpoints before t n env e r b

-- Before any other block of task `t` these blocks have one in which it begins, and the next one is its turn.
abbrev pub OwnNext : ℕ → List Block → Type 0
OwnNext t [] = ⊥
OwnNext t (begun u m env ∷ bs) = ((u ≡ t) × RunsNext t bs) ⊎ ((u ≢ t) × OwnNext t bs)
OwnNext t (b ∷ bs) = IsOfOther t b × OwnNext t bs

-- The turn runs first, and then come as many blocks as are left, so that they lead alike.
pub record GoesFirst (script : ScriptView) (checkpoints : List CheckpointView) (before rest : List Block) (t n : ℕ) (env : Env) (e : ℕ) (r : RecordView) : Type 0 where
  pub others : List Block
  pub stand : AllStand script checkpoints before (begun t n env ∷ ran e r ∷ others)
  pub many : length others + 2 ≡ length rest
  pub lead : LeadAlike script checkpoints (before ++ rest) (before ++ begun t n env ∷ ran e r ∷ others)
  -- they are in order, and turns that look away begin late
  pub orderly : AllAllowed (IsOrderly script) ((before ++ begun t n env ∷ []) ++ ran e r ∷ []) others
  pub late : BeginLate script ((before ++ begun t n env ∷ []) ++ ran e r ∷ []) others
  pub next : (u : ℕ) → u ≢ t → RunsNext u rest → RunsNext u others
  pub plain : AllByRecursion IsNotFolded rest → AllByRecursion IsNotFolded others
  -- and each turn ends as it did
  pub exits : (k : ℕ) (q : RecordView) → Contains rest (ran k q) → HasExit (ran e r ∷ others) k q.exit

-- A silent turn may go before all that stands before it in a history in order.
abbrev pub SilentTurnsMayGoFirst : Type 0
SilentTurnsMayGoFirst = (script : ScriptView) (checkpoints : List CheckpointView) (before rest : List Block) (t n : ℕ) (env : Env) (e : ℕ) (r : RecordView) → ActorsHaveExecutors script
    → AllStand script checkpoints [] (before ++ rest) → AllAllowed (IsOrderly script) [] (before ++ rest)
    → BeginLate script before rest → IsSilentTurn script checkpoints before t n env e r → all_hold (executor_invariants script e) (checkpoint_at checkpoints e).fields ≡ true → OwnNext t rest
    → GoesFirst script checkpoints before rest t n env e r

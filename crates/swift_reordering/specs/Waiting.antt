-- The begin of a turn that looks away may wait for a block of another task (our own).
use Rattle.std.specs.Prelude.{◌≡◌, ◌≢◌, ℕ, true, Some, List, [], ◌∷◌, ◌++◌}
use Rattle.swift_types.specs.declared.env.Env.{Env}
use Rattle.swift_script.specs.Scripts.{ScriptView}
use Rattle.swift_journal.specs.Checkpoints.{CheckpointView}
use Rattle.swift_events.specs.declared.life.JobStage.TheVariants.{Begun}
use Rattle.swift_history.specs.Histories.{Block, added, begun, ran, folded, at_first, after_blocks, AllStand}
use Rattle.swift_history.specs.Orderly.{AllAllowed, IsOrderly}
use Rattle.swift_laws.specs.Laws.{ActorsHaveExecutors}
use Rattle.swift_reordering.specs.Away.{turn_looks_away}
use Rattle.swift_reordering.specs.Blurred.{stage_at, LeadClose}
use Rattle.swift_reordering.specs.FusedSteps.{HasRoom}

-- a root is added, or a turn of another task than `t` begins or runs
abbrev pub IsOfOther : ℕ → Block → Type 0
IsOfOther t (added r) = Unit {0}
IsOfOther t (begun u n env) = u ≢ t
IsOfOther t (ran e r) = r.task ≢ t
IsOfOther t (folded e f) = ⊥

-- Task `t` begins in some environment after block `b`, in order, and the two histories lead to one standing and to the same fields, but for
-- the environment in which `t` has begun.
pub record BeginsAfter (script : ScriptView) (checkpoints : List CheckpointView) (before : List Block) (t n : ℕ) (env : Env) (b : Block) : Type 0 where
  pub other : Env
  pub stand : AllStand script checkpoints [] (before ++ b ∷ begun t n other ∷ [])
  pub orderly : AllAllowed (IsOrderly script) [] (before ++ b ∷ begun t n other ∷ [])
  pub close : LeadClose script checkpoints (before ++ begun t n env ∷ b ∷ []) (before ++ b ∷ begun t n other ∷ [])
  pub own : (stage_at (after_blocks script (at_first script) (before ++ begun t n env ∷ b ∷ [])).log t ≡ Some (Begun env))
      × (stage_at (after_blocks script (at_first script) (before ++ b ∷ begun t n other ∷ [])).log t ≡ Some (Begun other))
  pub others : (u : ℕ) → u ≢ t
      → stage_at (after_blocks script (at_first script) (before ++ begun t n env ∷ b ∷ [])).log u ≡ stage_at (after_blocks script (at_first script) (before ++ b ∷ begun t n other ∷ [])).log u

-- So it does where `t` looks away and has begun right before `b`, and there is room.
abbrev pub BeginsMayWait : Type 0
BeginsMayWait = (script : ScriptView) (checkpoints : List CheckpointView) (before : List Block) (t n : ℕ) (env : Env) (b : Block) → ActorsHaveExecutors script
    → AllStand script checkpoints [] (before ++ begun t n env ∷ b ∷ []) → AllAllowed (IsOrderly script) [] (before ++ begun t n env ∷ b ∷ [])
    → turn_looks_away script (after_blocks script (at_first script) before) t ≡ true → IsOfOther t b → HasRoom script (before ++ begun t n env ∷ b ∷ [])
    → BeginsAfter script checkpoints before t n env b

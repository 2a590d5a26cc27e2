-- Histories in which turns that look away begin as late as they can (our own).
use Rattle.std.specs.Prelude.{◌≡◌, ℕ, ◌+◌, ◌*◌, ◌≤◌, true, false, Option, Some, None, List, [], ◌∷◌, ◌++◌, length}
use Rattle.std.specs.List.{filter_map}
use Rattle.swift_types.specs.declared.limits.TheConstants.{TASKS, MADE}
use Rattle.swift_types.specs.declared.priority.Priority.TheVariants.{Background}
use Rattle.swift_types.specs.declared.env.Env.{Env}
use Rattle.swift_script.specs.Scripts.{ScriptView, executor_count}
use Rattle.swift_history.specs.Histories.{Block, begun, ran, at_first, after_blocks, ReportView}
use Rattle.swift_history.specs.Orderly.{IsOrderlyLegal}
use Rattle.swift_laws.specs.Laws.{ActorsHaveExecutors}
use Rattle.swift_digest.specs.Explored.{FoldsNone}
use Rattle.swift_reordering.specs.Away.{turn_looks_away}

-- the first of these blocks is a turn of task `t`, which runs
abbrev pub RunsNext : ℕ → List Block → Type 0
RunsNext t (ran e r ∷ bs) = r.task ≡ t
RunsNext t _ = ⊥

-- Where a turn that looks away begins in one of these blocks, it runs in the next one.
abbrev pub BeginLate : ScriptView → List Block → List Block → Type 0
BeginLate script before [] = Unit {0}
BeginLate script before (begun t n env ∷ bs) =
    (turn_looks_away script (after_blocks script (at_first script) before) t ≡ true → RunsNext t bs) × BeginLate script (before ++ begun t n env ∷ []) bs
BeginLate script before (b ∷ bs) = BeginLate script (before ++ b ∷ []) bs

-- any environment
abbrev pub no_env : Env
no_env = record { priority = Background; cancelled = false; room = 0 }

-- what a block does, but for the environment in which a turn has begun; a begin does nothing else
abbrev pub done_in : Block → Option Block
done_in (begun t n env) = None
done_in (ran e r) = Some (ran e (record r { env = no_env }))
done_in b = Some b

-- what blocks do, in order, but for when turns begin and in which environments
abbrev pub done_by : List Block → List Block
done_by bs = filter_map done_in bs

-- A run of so many tasks has room for 16 more in each turn, whichever turns of its executors are under way.
abbrev pub RoomNeverBinds : ScriptView → ReportView → Type 0
RoomNeverBinds script report = length report.endings + MADE * (executor_count script + 1) ≤ TASKS

-- Another report in order, of the same endings and fields and the same turns in the same order, in which each turn that looks away begins
-- right before it runs. A turn that looks away and began in another environment has that one in its record.
pub record IsFused (script : ScriptView) (report : ReportView) (orderly : IsOrderlyLegal script report) : Type 0 where
  pub other : ReportView
  pub legal : IsOrderlyLegal script other
  pub folds : FoldsNone other
  pub checkpoints : other.checkpoints ≡ report.checkpoints
  pub endings : other.endings ≡ report.endings
  pub fields : other.fields ≡ report.fields
  pub done : done_by orderly.legal.blocks ≡ done_by legal.legal.blocks
  pub late : BeginLate script [] legal.legal.blocks

-- There is one for each report in order whose executors have folded no turn, and in which room never binds.
abbrev pub EachIsFused : Type 0
EachIsFused = (script : ScriptView) (report : ReportView) (orderly : IsOrderlyLegal script report) → ActorsHaveExecutors script → FoldsNone report → RoomNeverBinds script report → IsFused script report orderly

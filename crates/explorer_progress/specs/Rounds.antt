-- Turns that repeat (our own).
use Rattle.std.specs.Prelude.{◌≡◌, ℕ, ◌+◌, ◌-◌, ◌<◌, ◌≤◌, ◌==◌, ℤ, if◌then◌else◌, Bool, true, false, Option, Some, None, List, [], ◌∷◌, ◌++◌, count_by, filter_map, length, option_map, slice_get, take, unwrap_or}
use Rattle.swift_types.specs.declared.outcome.Fault.TheVariants.{Turns}
use Rattle.swift_types.specs.declared.outcome.Resume.TheVariants.{Fault}
use Rattle.swift_script.specs.Scripts.{ScriptView}
use Rattle.swift_journal.specs.Checkpoints.{CheckpointRoomView}
use Rattle.swift_journal.specs.Records.{RecordView}
use Rattle.swift_report.specs.declared.report.Report.{Report}
use Rattle.swift_explorer.specs.declared.moves.Move.{Move}
use Rattle.swift_explorer.specs.declared.moves.Move.TheVariants as step
use Rattle.run_pictures.specs.Values.{ValuesView, values_from}
use Rattle.run_pictures.specs.declared.values.change.Change.{Change}
use Rattle.explorer_progress.specs.declared.hint.NoProgress.{NoProgress}
use Rattle.explorer_progress.specs.declared.hint.RepeatedTask.{RepeatedTask}

-- the task of the turn that a step runs
abbrev pub run_of : Move → Option ℕ
run_of step.Add = None
run_of (step.Begin t) = None
run_of (step.Run t) = Some t.0

-- the tasks of the turns that steps run, in order
abbrev pub runs_of : List Move → List ℕ
runs_of steps = filter_map run_of steps

-- the journal of an executor
abbrev pub journal_at : Report → ℕ → List RecordView
journal_at report e = unwrap_or (slice_get report.journals.items e) []

-- the fields of a checkpoint; none where there is no checkpoint
abbrev pub fields_in : Option CheckpointRoomView → List (List ℤ)
fields_in None = []
fields_in (Some c) = c.view.fields

-- what the turns of an executor's journal did to its fields, each played on those that the turns before it leave
abbrev pub played_at : ScriptView → Report → ℕ → List ValuesView
played_at script report e = values_from script (fields_in (slice_get report.checkpoints.items e)) (journal_at report e)

-- which fields the turn at a place of an executor's journal changed, from which values to which
abbrev pub changes_at : ScriptView → Report → ℕ → ℕ → Option (List Change)
changes_at script report e place = option_map (λ did. did.changes) (slice_get (played_at script report e) place)

-- The turn that steps run at place `k` of their turns: this record, at a place of the journal of an executor. It has the number that the
-- turn has among those of its task.
pub record IsTurn (report : Report) (steps : List Move) (k executor place : ℕ) (r : RecordView) : Type 0 where
  pub written : slice_get (journal_at report executor) place ≡ Some r
  pub task : slice_get (runs_of steps) k ≡ Some r.task
  pub number : r.number ≡ count_by (λ t. t == r.task) (take k (runs_of steps))

-- of some place
abbrev pub IsSomeTurn : Report → List Move → ℕ → RecordView → Type 0
IsSomeTurn report steps k r = (executor place : ℕ) × IsTurn report steps k executor place r

-- The turn at place `k` does what the one `turns` places before it did. Their records say the same but for their numbers: one task, one
-- frame, what it began with and how it ended. Neither makes or cancels a task, and both change the same fields from the same values to
-- the same.
pub record Repeats (script : ScriptView) (report : Report) (steps : List Move) (turns k : ℕ) : Type 0 where
  pub executor : ℕ
  pub before : ℕ
  pub place : ℕ
  pub earlier : RecordView
  pub later : RecordView
  pub first : IsTurn report steps (k - turns) executor before earlier
  pub again : IsTurn report steps k executor place later
  pub same : later ≡ record earlier { number = later.number }
  pub alone : earlier.effects ≡ []
  pub changes : changes_at script report executor place ≡ changes_at script report executor before

-- a task is among those that are told
abbrev pub is_told : ℕ → List RepeatedTask → Bool
is_told t [] = false
is_told t (one ∷ rest) = if one.task.0 == t then true else is_told t rest

-- what is told of a turn: its task, and its method
abbrev pub told : RecordView → RepeatedTask
told r = record { task = record { 0 = r.task }; method = record { 0 = r.frame.method } }

-- these tasks, and that of a turn where it is not among them
abbrev pub with_task : List RepeatedTask → RecordView → List RepeatedTask
with_task tasks r = if is_told r.task tasks then tasks else tasks ++ told r ∷ []

-- the tasks of turns, each once, and each with the method of its first turn, after those that are told
abbrev pub tasks_of : List RepeatedTask → List RecordView → List RepeatedTask
tasks_of tasks [] = tasks
tasks_of tasks (r ∷ rs) = tasks_of (with_task tasks r) rs

-- a turn begins with the fault of a task that has had all its turns
abbrev pub IsAtLimit : RecordView → Type 0
IsAtLimit r = r.resume ≡ Fault Turns

-- The last turns of a hint's schedule are a round, of the tasks that it tells. As the steps `whole` go on, these turns repeat, one after
-- the other: for as many turns more, at least, as there are tasks, and until some task has had all its turns.
pub record IsRound (script : ScriptView) (report : Report) (whole : List Move) (hint : NoProgress) : Type 0 where
  pub some : 1 ≤ hint.turns
  pub from : ℕ
  pub last : length (runs_of hint.schedule.items) ≡ from + hint.turns
  pub round : List RecordView
  pub many : length round ≡ hint.turns
  pub turns : (k : ℕ) (r : RecordView) → slice_get round k ≡ Some r → IsSomeTurn report whole (from + k) r
  pub tasks : hint.tasks.items ≡ tasks_of [] round
  pub to : ℕ
  pub long : from + hint.turns + length report.endings.items ≤ to
  pub again : (k : ℕ) → from + hint.turns ≤ k → k < to → Repeats script report whole hint.turns k
  pub limit : RecordView
  pub ends : IsSomeTurn report whole to limit
  pub at_limit : IsAtLimit limit

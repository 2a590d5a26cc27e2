-- Keys of histories and of outcomes. No public clause names these.
use Rattle.std.specs.Prelude.{◌≡◌, ℕ, ℤ, Bool, Option, List, [], ◌∷◌, ◌++◌, length, map}
use Rattle.std.specs.Option.{option_map}
use Rattle.script_code.specs.Seen.{rows_of}
use Rattle.swift_types.specs.declared.outcome.Ending.{Ending}
use Rattle.swift_types.specs.declared.outcome.Resume.{Resume}
use Rattle.swift_script.specs.Scripts.{ScriptView, root_count}
use Rattle.swift_interpreter.specs.Frames.{FrameView}
use Rattle.swift_turn.specs.Body.{TaskView}
use Rattle.swift_events.specs.declared.life.Origin.{Origin}
use Rattle.swift_events.specs.Events.{tasks_of}
use Rattle.swift_history.specs.Histories.{Block}
use Rattle.swift_history.specs.TurnEnds.{JobFacts}
use Rattle.swift_tasks.specs.Books.{jobs_held}
use Rattle.swift_digest.specs.Digests.{digest_of}
use Rattle.swift_explorer.specs.Numbers.{pair_numbers, option_numbers, list_numbers, number_numbers, flag_numbers, resume_numbers, origin_numbers, ending_numbers}
use Rattle.swift_explorer.specs.FrameNumbers.{bindings_numbers, fields_numbers, frame_numbers}
use Rattle.swift_explorer.specs.DigestNumbers.{IsWritten}
use Rattle.swift_explorer.specs.Bytes.{all_packed}
use Rattle.swift_steps.specs.declared.next_turn.NextTurn.{NextTurn}
use Rattle.swift_explorer.specs.declared.history.SearchedHistory.{SearchedHistory}
use Rattle.swift_explorer.specs.declared.outcome.RunOutcome.{RunOutcome}
use Rattle.swift_explorer.specs.HistoryInside.{IsHistory, rows_at}

-- a frame with the counts of this one, as it gets them when it goes on
abbrev pub with_counts : FrameView → FrameView → FrameView
with_counts p q = record q { made = p.made; opened = p.opened }

-- the frames of a task as they are left one after the other: each caller has the counts of the frame that runs
abbrev pub frames_left : List FrameView → List FrameView
frames_left [] = []
frames_left (p ∷ callers) = p ∷ map (with_counts p) callers

-- a task with its frames so
abbrev pub task_left : TaskView → TaskView
task_left v = record { frames = frames_left v.frames; outer = v.outer }

-- the bindings and the frames of a task as numbers
abbrev pub body_numbers : TaskView → List ℤ
body_numbers v = bindings_numbers v.outer ++ list_numbers frame_numbers v.frames

-- what the next turn of a task begins with: its number, what it resumes with, and the task's frames
pub record ReadyView : Type 0 where
  pub number : ℕ
  pub resume : Resume
  pub frames : TaskView

-- what the next turn of a task begins with, with its frames as they are left
abbrev pub ready_view : NextTurn → ReadyView
ready_view g = record { number = g.number; resume = g.resume; frames = task_left g.body.task }

-- the same as numbers
abbrev pub ready_numbers : ReadyView → List ℤ
ready_numbers g = number_numbers g.number ++ (resume_numbers g.resume ++ body_numbers g.frames)

-- a job, with its frames as they are left
abbrev pub job_left : JobFacts → JobFacts
job_left j = record j { frames = task_left j.frames }

-- a job as numbers
abbrev pub job_numbers : JobFacts → List ℤ
job_numbers j = number_numbers j.task ++ (number_numbers j.number ++ (resume_numbers j.resume ++ body_numbers j.frames))

-- The numbers of all but the digest: what the tasks that wait will go on with, which executors have run a turn, the fields, and what the
-- other tasks go on with.
abbrev pub rest_numbers : List JobFacts → List Bool → List (List (List ℤ)) → List (Option ReadyView) → List ℤ
rest_numbers waiting used fields ready =
    list_numbers job_numbers waiting ++ (list_numbers flag_numbers used ++ (fields_numbers fields ++ list_numbers (option_numbers ready_numbers) ready))

-- the numbers of a history that is followed, without its digest
abbrev pub rest_of : SearchedHistory → List ℤ
rest_of x = rest_numbers (map job_left (jobs_held 0 x.steps.book.held)) x.used.items (rows_at x) (map (option_map ready_view) x.steps.tasks.items)

-- These numbers decide how a history that is followed may go on: its digest comes last. It has a place for each task, as one may wait.
pub record IsNumbered (x : SearchedHistory) (numbers : List ℤ) : Type 0 where
  pub written : IsWritten (digest_of x.steps.book.log) (rest_of x) numbers
  pub places : length x.steps.book.held ≡ tasks_of (root_count x.steps.book.script) x.steps.book.log

-- these are the numbers of a history of these blocks
abbrev pub IsKeyFor : ScriptView → List Block → List ℤ → Type 0
IsKeyFor script blocks key = (x : SearchedHistory) × IsHistory script blocks x × IsNumbered x key

-- where a task comes from and how it has ended
abbrev pub end_numbers : Origin × Ending → List ℤ
end_numbers = pair_numbers origin_numbers ending_numbers

-- the bytes of an outcome: the endings of its tasks, and the fields
abbrev pub outcome_bytes : RunOutcome → List ℕ
outcome_bytes o = all_packed (list_numbers end_numbers o.endings.items ++ fields_numbers (map (λ rows. rows_of rows.items) o.fields.items))

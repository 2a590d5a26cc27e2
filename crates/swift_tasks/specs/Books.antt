-- A book of tasks, as callers see it.
use Rattle.std.specs.Prelude.{◌≡◌, ℕ, ◌+◌, true, is_some, Option, Some, None, List, [], ◌∷◌, ◌++◌, length, replicate, slice_index_or}
use Rattle.swift_types.specs.declared.outcome.Resume.TheVariants.{Go}
use Rattle.swift_script.specs.Scripts.{ScriptView, root_count}
use Rattle.swift_job.specs.Job.{JobView}
use Rattle.swift_interpreter.specs.Frames.{FrameView}
use Rattle.swift_interpreter.specs.Turn.{EffectView, ExitView}
use Rattle.swift_turn.specs.Body.{BodyView, IsRunning, advanced, idle}
use Rattle.swift_events.specs.declared.event.Event.{Event}
use Rattle.swift_events.specs.Events.{tasks_of}
use Rattle.swift_events.specs.Lives.{life_of, is_open, is_waiting}
use Rattle.swift_history.specs.Histories.{begun_priority}
use Rattle.swift_history.specs.TurnEnds.{JobFacts, WaitingTaskView, TurnEnd, turn_end}

-- A book: its script, what happened so far, and the tasks that wait, by the number of the task.
pub record BookView : Type 0 where
  pub script : ScriptView
  pub log : List Event
  pub held : List (Option WaitingTaskView)

-- the book of a run that has not begun
abbrev pub empty_book : ScriptView → BookView
empty_book script = record { script = script; log = []; held = replicate (root_count script) None }

-- a job's body is of the script, has not ended, and no turn is under way in it
pub record IsJobOf (script : ScriptView) (j : JobView BodyView) : Type 0 where
  pub script_is : j.body.script ≡ script
  pub runs : IsRunning j.body
  pub rests : j.body.phase ≡ idle

-- A task is held exactly where the log says that it waits, and only a task that was made and has not ended waits.
pub record HoldsWaiting {A : Type 0} (roots : ℕ) (log : List Event) (held : List (Option A)) : Type 0 where
  pub size : length held ≡ tasks_of roots log
  pub waits : (t : ℕ) → is_some (slice_index_or held t None) ≡ is_waiting (life_of t log)
  pub alive : (t : ℕ) → is_waiting (life_of t log) ≡ true → is_open (life_of t log) ≡ true

-- the end of the turn of a job with these frames; nothing changes where there is no frame
abbrev pub end_of_frames : BookView → JobView BodyView → List EffectView → ExitView → List FrameView → TurnEnd
end_of_frames b j effects exit [] = record { log = b.log; held = b.held; jobs = [] }
end_of_frames b j effects exit (p ∷ callers) =
    turn_end b.script b.log b.held j.task.0 j.number (begun_priority (life_of j.task.0 b.log).stage) effects exit (advanced b.script p callers j.body.task.outer exit)

-- the end of the turn of a job: what it leaves of a book, and the jobs that it makes
abbrev pub end_of_turn : BookView → JobView BodyView → List EffectView → ExitView → TurnEnd
end_of_turn b j effects exit = end_of_frames b j effects exit j.body.task.frames

-- the log, the tasks that wait and the jobs are those after the end of that turn; these jobs were there before
pub record IsEndOf (b : BookView) (jobs : List JobFacts) (j : JobView BodyView) (effects : List EffectView) (exit : ExitView) (log : List Event) (held : List (Option WaitingTaskView)) (jobs' : List JobFacts) : Type 0 where
  pub log_is : log ≡ (end_of_turn b j effects exit).log
  pub held_is : held ≡ (end_of_turn b j effects exit).held
  pub jobs_are : jobs' ≡ jobs ++ (end_of_turn b j effects exit).jobs

-- the jobs of the tasks that wait, by the number of the task; the first task here has this number
abbrev pub jobs_held : ℕ → List (Option WaitingTaskView) → List JobFacts
jobs_held t [] = []
jobs_held t (None ∷ hs) = jobs_held (t + 1) hs
jobs_held t (Some h ∷ hs) = record { task = t; number = h.number; resume = Go; frames = h.frames } ∷ jobs_held (t + 1) hs

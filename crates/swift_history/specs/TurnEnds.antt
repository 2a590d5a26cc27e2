-- What the end of a turn writes, and the jobs that it makes (SE-0304 for tasks and groups, SE-0306 for calls, SE-0311 for
-- bindings; the order is our own).
use Rattle.std.specs.Prelude.{ℕ, ◌+◌, ◌-◌, ◌==◌, ◌&&◌, nat_lt, if◌then◌else◌, is_some, Bool, true, false, Option, Some, None, List, [], ◌∷◌, ◌++◌, length, map, replicate, slice_get, slice_set, slice_index_or, unwrap_or, ℤ}
use Rattle.swift_types.specs.declared.limits.TheConstants.{TURNS}
use Rattle.swift_types.specs.declared.id.TaskId.{TaskId}
use Rattle.swift_types.specs.declared.outcome.Ending.{Ending}
use Rattle.swift_types.specs.declared.outcome.Ending.TheVariants as ending
use Rattle.swift_types.specs.declared.outcome.Fault.{Fault}
use Rattle.swift_types.specs.declared.outcome.Fault.TheVariants.{Empty, Turns}
use Rattle.swift_types.specs.declared.outcome.Resume.{Resume}
use Rattle.swift_types.specs.declared.outcome.Resume.TheVariants.{Start, Go, Value, Fault as Raise}
use Rattle.swift_types.specs.declared.priority.Priority.{Priority}
use Rattle.swift_types.specs.declared.priority.Priority.TheVariants.{Background}
use Rattle.swift_groups.specs.declared.answer.NextResult.{NextResult as Answer}
use Rattle.swift_groups.specs.declared.answer.NextResult.TheVariants as answer
use Rattle.swift_groups.specs.declared.answer.Close.{Close as Closing}
use Rattle.swift_groups.specs.declared.answer.Close.TheVariants as closing
use Rattle.swift_groups.specs.Next.{next_of}
use Rattle.swift_groups.specs.Close.{close_of}
use Rattle.swift_script.specs.Scripts.{ScriptView, root_count, root_method, root_args, root_priority}
use Rattle.swift_interpreter.specs.declared.effect.TaskName.{TaskName}
use Rattle.swift_interpreter.specs.declared.effect.TaskName.TheVariants.{Root as RootName, Own}
use Rattle.swift_interpreter.specs.Turn.{InvocationView, EffectView, spawning, detaching, opening as opening_group, adding, cancelling_task, cancelling_group, ExitView, waiting, asking_next, closing as closing_group}
use Rattle.swift_turn.specs.declared.step.Step.{Step}
use Rattle.swift_turn.specs.declared.step.Step.TheVariants.{Run, Ended, Await}
use Rattle.swift_turn.specs.Body.{TaskView, Advanced, advanced, opening}
use Rattle.swift_events.specs.declared.event.Event.{Event}
use Rattle.swift_events.specs.declared.event.Event.TheVariants.{Root, Apply, Free, Open, Child, Skip, CancelTask, CancelGroup, Wait, Next, Close, End, Give}
use Rattle.swift_events.specs.declared.life.JobStage.{JobStage}
use Rattle.swift_events.specs.declared.life.JobStage.TheVariants.{Asks, Closes}
use Rattle.swift_events.specs.Events.{tasks_of}
use Rattle.swift_events.specs.Lives.{life_of}
use Rattle.swift_events.specs.Relations.{own_tasks, waiters_of, opened_by, group_of, is_cancelled_group, parent_of}

-- a task's number, as a name
abbrev pub task : ℕ → TaskId
task t = record { 0 = t }

-- A job, as the log and the turns see it: its turn's number, what that begins with, and the task's frames and bindings.
pub record JobFacts : Type 0 where
  pub task : ℕ
  pub number : ℕ
  pub resume : Resume
  pub frames : TaskView

-- A task that waits: the number of its next turn, its frames and bindings.
pub record WaitingTaskView : Type 0 where
  pub number : ℕ
  pub frames : TaskView

-- a turn numbered 1,000 or more begins with the fault `turns`, whatever it was to begin with
abbrev pub resume_at : ℕ → Resume → Resume
resume_at n resume = if nat_lt n TURNS then resume else Raise Turns

-- an ending, as what waits for it is resumed with
abbrev pub resume_of : Ending → Resume
resume_of (ending.Value v) = Value v
resume_of (ending.Fault f) = Raise f

-- a task that begins: its first frame, and the bindings that it finds
abbrev pub beginning : ScriptView → ℕ → List ℤ → List (ℕ × ℤ) → TaskView
beginning script m args bindings = record { frames = opening script m args 0 0 ∷ []; outer = bindings }

-- the first job of task `t`: its turn 0 starts method `m` with these arguments and bindings
abbrev pub first_job : ScriptView → ℕ → ℕ → List ℤ → List (ℕ × ℤ) → JobFacts
first_job script t m args bindings = record { task = t; number = 0; resume = Start; frames = beginning script m args bindings }

-- the events by which jobs are given, in order
abbrev pub gives : List JobFacts → List Event
gives jobs = map (λ j. Give (task j.task) j.number j.resume) jobs

-- a root is added: its task has its number, and no bindings
abbrev pub root_job : ScriptView → ℕ → JobFacts
root_job script r = first_job script r (root_method script r) (root_args script r) []

-- what adding root `r` writes: the root with its priority, and its first job
abbrev pub root_events : ScriptView → ℕ → List Event
root_events script r = Root (task r) (root_priority script r) ∷ gives (root_job script r ∷ [])

-- the task that a task names: a root's, or the one of that number among those that it has spawned or detached
abbrev pub named_task : ℕ → TaskName → List Event → TaskId
named_task t (RootName r) log = task r.0
named_task t (Own k) log = unwrap_or (slice_get (own_tasks t log) k) (task 0)

-- a cancel of a task that has ended does nothing
abbrev pub cancel_events : TaskId → List Event → List Event
cancel_events t log = if is_some (life_of t.0 log).ending then [] else CancelTask t ∷ []

-- a child that is to be left out where its group is cancelled
abbrev pub is_left_out : ℕ → ℕ → Bool → List Event → Bool
is_left_out t g unless log = unless && is_cancelled_group t g log

-- What an effect of a task writes, at its place in the log. A task that is spawned has its maker's priority at the start of
-- the turn where none is given; a child has its owner's beside the one that is given.
abbrev pub effect_events : ℕ → ℕ → Priority → List Event → EffectView → List Event
effect_events roots t own log (spawning i p bindings) = Free (task (tasks_of roots log)) (task t) (unwrap_or p own) false ∷ []
effect_events roots t own log (detaching i p) = Free (task (tasks_of roots log)) (task t) p true ∷ []
effect_events roots t own log opening_group = Open (task t) (opened_by t log) ∷ []
effect_events roots t own log (adding g unless i p bindings) =
    if is_left_out t g unless log then Skip (task t) g ∷ []
    else Child (task (tasks_of roots log)) (task t) g (unwrap_or p Background) ∷ []
effect_events roots t own log (cancelling_task name) = cancel_events (named_task t name log) log
effect_events roots t own log (cancelling_group g) = CancelGroup (task t) g ∷ []

-- The first job of the task that an effect makes, if it makes one. Spawned tasks and children find the bindings that stood at
-- the statement; detached tasks find none.
abbrev pub effect_jobs : ScriptView → ℕ → List Event → EffectView → List JobFacts
effect_jobs script t log (spawning i p bindings) = first_job script (tasks_of (root_count script) log) i.method i.args bindings ∷ []
effect_jobs script t log (detaching i p) = first_job script (tasks_of (root_count script) log) i.method i.args [] ∷ []
effect_jobs script t log (adding g unless i p bindings) =
    if is_left_out t g unless log then []
    else first_job script (tasks_of (root_count script) log) i.method i.args bindings ∷ []
effect_jobs script t log _ = []

-- the log after effects, in order
abbrev pub log_after : ℕ → ℕ → Priority → List Event → List EffectView → List Event
log_after roots t own log [] = log
log_after roots t own log (e ∷ es) = log_after roots t own (log ++ effect_events roots t own log e) es

-- the jobs of the tasks that effects make, in order
abbrev pub jobs_made : ScriptView → ℕ → Priority → List Event → List EffectView → List JobFacts
jobs_made script t own log [] = []
jobs_made script t own log (e ∷ es) = effect_jobs script t log e ++ jobs_made script t own (log ++ effect_events (root_count script) t own log e) es

-- a result is asked for where there is one or will be one
abbrev pub next_events : ℕ → ℕ → Answer → List Event
next_events t g answer.Empty = []
next_events t g _ = Next (task t) g ∷ []

-- a group that is closed with a fault is cancelled first
abbrev pub close_events : ℕ → ℕ → Option Fault → List Event
close_events t g None = Close (task t) g ∷ []
close_events t g (Some f) = CancelGroup (task t) g ∷ Close (task t) g ∷ []

-- a wait for a task is written where that has not ended
abbrev pub wait_events : ℕ → TaskId → Option Ending → List Event
wait_events t awaited (Some e) = []
wait_events t awaited None = Wait (task t) awaited ∷ []

-- the end of task `t` is written where it has ended
abbrev pub end_events : ℕ → Step → List Event
end_events t (Ended e) = End (task t) e ∷ []
end_events t _ = []

-- what an exit writes, by what comes next
abbrev pub exit_events : ℕ → List Event → ExitView → Step → List Event
exit_events t log (waiting name) step = wait_events t (named_task t name log) (life_of (named_task t name log).0 log).ending
exit_events t log (asking_next g) step = next_events t g (next_of (group_of t g log))
exit_events t log (closing_group g f) step = close_events t g f
exit_events t log _ step = end_events t step

-- what the next turn begins with after a wait for a task: the ending of that task, if it has one
abbrev pub wait_resume : Option Ending → Option Resume
wait_resume (Some e) = Some (resume_of e)
wait_resume None = None

-- what the next turn begins with after `next`: a result, or the fault `empty` where none is to come, unless the task waits
abbrev pub next_resume : Answer → Option Resume
next_resume (answer.Result child e) = Some (resume_of e)
next_resume answer.Wait = None
next_resume answer.Empty = Some (Raise Empty)

-- what the next turn begins with after a group is closed: it goes on where no child is unfinished, and else the task waits
abbrev pub close_resume : Closing → Option Resume
close_resume closing.Done = Some Go
close_resume closing.Wait = None

-- what the next turn begins with by the step after an exit; nothing where the task has ended or waits
abbrev pub step_resume : Step → Option Resume
step_resume (Run actor resume) = Some resume
step_resume _ = None

-- what the task's next turn begins with, where it need not wait and has not ended
abbrev pub exit_resume : ℕ → List Event → ExitView → Step → Option Resume
exit_resume t log (waiting name) step = wait_resume (life_of (named_task t name log).0 log).ending
exit_resume t log (asking_next g) step = next_resume (next_of (group_of t g log))
exit_resume t log (closing_group g f) step = close_resume (close_of (group_of t g log))
exit_resume t log _ step = step_resume step

-- the tasks that wait, by number, and the jobs that are made
pub record AfterTurn : Type 0 where
  pub held : List (Option WaitingTaskView)
  pub jobs : List JobFacts

-- a task that waits goes on with this, and waits no more
abbrev pub woken : ℕ → Resume → AfterTurn → Option WaitingTaskView → AfterTurn
woken u resume f None = f
woken u resume f (Some h) = record {
  held = slice_set f.held u None;
  jobs = f.jobs ++ record { task = u; number = h.number; resume = resume_at h.number resume; frames = h.frames } ∷ [];
}

-- task `u` goes on with this, if it waits
abbrev pub wake : ℕ → Resume → AfterTurn → AfterTurn
wake u resume f = woken u resume f (slice_index_or f.held u None)

-- each of some tasks goes on with this, if it waits, in order
abbrev pub wake_each : List TaskId → Resume → AfterTurn → AfterTurn
wake_each [] resume f = f
wake_each (u ∷ us) resume f = wake_each us resume (wake u.0 resume f)

-- the owner that closes a group goes on where each child has ended
abbrev pub wake_closing : ℕ → Closing → AfterTurn → AfterTurn
wake_closing o closing.Done f = wake o Go f
wake_closing o closing.Wait f = f

-- The owner of a child that has ended: where it has asked for a result of this group, it gets this one, since it has each
-- earlier one; where it closes the group, it goes on if this was the last child.
abbrev pub wake_owner : ℕ → ℕ → Ending → Option JobStage → List Event → AfterTurn → AfterTurn
wake_owner o g e (Some (Asks asked)) log f = if asked == g then wake o (resume_of e) f else f
wake_owner o g e (Some (Closes closed)) log f = if closed == g then wake_closing o (close_of (group_of o g log)) f else f
wake_owner o g e _ log f = f

-- the owner of a task that has ended with `e`, where the task is a child, by its owner and group: it goes on as `wake_owner` says
abbrev pub wake_parent : Option (ℕ × ℕ) → Ending → List Event → AfterTurn → AfterTurn
wake_parent None e log f = f
wake_parent (Some x) e log f = wake_owner x.0 x.1 e (life_of x.0 log).stage log f

-- the tasks that have waited for the end of this one go on: its waiters in order of waiting, then its owner
abbrev pub wake_all : ℕ → Ending → List Event → AfterTurn → AfterTurn
wake_all t e log f = wake_parent (parent_of t log) e log (wake_each (waiters_of t log) (resume_of e) f)

-- What follows from a turn, by what the task's next turn, of this number, begins with: where it goes on, its next job; where
-- it has ended, those that have waited for it go on; else it waits.
abbrev pub followed : ℕ → ℕ → TaskView → Option Resume → Step → List Event → AfterTurn → AfterTurn
followed t n frames (Some resume) step log f = record f { jobs = f.jobs ++ record { task = t; number = n; resume = resume_at n resume; frames = frames } ∷ [] }
followed t n frames None (Ended e) log f = wake_all t e log f
followed t n frames None _ log f = record f { held = slice_set f.held t (Some (record { number = n; frames = frames })) }

-- what the end of a turn leaves: the log, the tasks that wait, by number, and the jobs that it makes
pub record TurnEnd : Type 0 where
  pub log : List Event
  pub held : List (Option WaitingTaskView)
  pub jobs : List JobFacts

-- The end of turn n of a task, by what comes next. First what was done takes effect; then its exit is followed. Jobs are made
-- for the tasks that were made, in order of effects; for its own next turn; and for those that have waited for its end.
abbrev pub turn_end : ScriptView → List Event → List (Option WaitingTaskView) → ℕ → ℕ → Priority → List EffectView → ExitView → Advanced → TurnEnd
turn_end script log held t n own effects exit after =
    let begun = log ++ Apply (task t) n ∷ [] in
    let done = log_after (root_count script) t own begun effects in
    let written = done ++ exit_events t done exit after.step in
    let made = jobs_made script t own begun effects in
    let f = followed t (n + 1) after.task (exit_resume t done exit after.step) after.step written (record { held = held ++ replicate (length made) None; jobs = made }) in
    record { log = written ++ gives f.jobs; held = f.held; jobs = f.jobs }

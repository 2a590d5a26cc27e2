-- The calls of a book, as steps of the run that it is of (our own).
use Rattle.std.specs.Prelude.{◌≡◌, ℤ, ◌+◌, Some, None, List, [], ◌∷◌, ◌++◌}
use Rattle.swift_types.specs.declared.env.Env.{Env}
use Rattle.swift_script.specs.Scripts.{ScriptView, actor_executor, executor_start, method_actor, root_count}
use Rattle.swift_interpreter.specs.Frames.{FrameView}
use Rattle.swift_turn.specs.Body.{BodyView, HasFirst, IsTurnOf, callers_of, left}
use Rattle.swift_job.specs.Job.{JobView}
use Rattle.swift_events.specs.declared.event.Event.TheVariants.{Begin}
use Rattle.swift_events.specs.Room.{IsEnv}
use Rattle.swift_journal.specs.Records.{RecordView}
use Rattle.swift_history.specs.Replay.{IsLawfulRecord, replay}
use Rattle.swift_history.specs.Orderly.{has_last_root, job_executor}
use Rattle.swift_history.specs.TurnEnds.{JobFacts, root_events, root_job}
use Rattle.swift_tasks.specs.Books.{BookView, IsEndOf, empty_book}
use Rattle.swift_history.specs.Jobs.{job_facts}
use Rattle.swift_tasks.specs.Refusals.{refusal_of_apply, refusal_of_begin, refusal_of_root}
use Rattle.swift_course.specs.Course.{IsCourse}
use Rattle.swift_course.specs.Frames.{kept_frame}
use Rattle.swift_course.specs.Seats.{first_view}
use Rattle.swift_course.specs.Steps.{MayGive, end_of, knowing_begin, knowing_turn}
use Rattle.swift_course.specs.Views.{Account, BookFacts, Maker, BookKnown, Ticket, fresh}

-- what the lock of a book keeps of it
abbrev pub facts_of : BookView → BookFacts
facts_of b = record { script = b.script; log = b.log; held = b.held }

-- `new`: the rule holds of an empty book, with the first seat alone.
abbrev pub EmptyBooksBegin : Type 0
EmptyBooksBegin = (script : ScriptView) → IsCourse (facts_of (empty_book script)) (first_view script ∷ [])

-- `add_root`, of the next root: the seat has the ticket of the job that it gives.
abbrev pub AddedRootsKeep : Type 0
AddedRootsKeep = (v : BookKnown) (m : Maker) (b b' : BookView) (j : JobView BodyView) → v.maker ≡ Some m
    → refusal_of_root b.script b.log m.roots ≡ None → b' ≡ record b { log = b.log ++ root_events b.script m.roots } → job_facts j ≡ root_job b.script m.roots
    → MayGive v (facts_of b) (facts_of b') (record v { tickets = v.tickets ++ fresh (job_facts j) ∷ []; maker = Some (record m { roots = m.roots + 1 }) })

-- `begin`, of the job of the seat's first ticket, which runs on the executor of the seat's one account.
abbrev pub BegunTurnsKeep : Type 0
BegunTurnsKeep = (v : BookKnown) (a : Account) (k : Ticket) (rest : List Ticket) (env : Env) (b b' : BookView) (j : JobView BodyView) → v.accounts ≡ a ∷ [] → v.tickets ≡ k ∷ rest → k.job ≡ job_facts j
    → job_executor b.script (Some (job_facts j)) ≡ Some a.executor
    → refusal_of_begin b.script b.log j ≡ None → IsEnv (root_count b.script) j.task b.log env → b' ≡ record b { log = b.log ++ Begin j.task j.number env ∷ [] }
    → MayGive v (facts_of b) (facts_of b') (knowing_begin b.log (has_last_root b.script b.log) k rest env v)

-- a job as it was before the turn of its frame
abbrev pub before_of : JobView BodyView → FrameView → List FrameView → JobFacts
before_of j p frames = record (job_facts j) { frames = record { frames = p ∷ callers_of frames; outer = j.body.task.outer } }

-- The ticket is of a job whose turn was played, after the turns of an account, and this is its record. The job's first frame is as
-- the turn has left it.
pub record IsPlayed (script : ScriptView) (a : Account) (k : Ticket) (j : JobView BodyView) (r : RecordView) : Type 0 where
  pub was : k.job ≡ before_of j r.frame j.body.task.frames
  pub begun : k.begun ≡ Some r.env
  pub task_is : r.task ≡ j.task.0
  pub number_is : r.number ≡ j.number
  pub resume_is : r.resume ≡ j.resume
  pub outer_is : r.outer ≡ j.body.task.outer
  pub fields : List (List ℤ)
  pub frame : HasFirst j.body.task.frames (λ f. (r.after ≡ kept_frame r.exit f)
      × IsTurnOf script r.frame j.body.task.outer (replay script (executor_start script a.executor) a.records) j.resume r.env f (left fields r.effects r.exit))
  pub on : actor_executor script (method_actor script r.frame.method) ≡ a.executor
  pub lawful : IsLawfulRecord script (replay script (executor_start script a.executor) a.records) r

-- `apply`, of the job of the seat's first ticket: the account has its record, and the seat has the tickets of the jobs that it gives.
abbrev pub AppliedTurnsKeep : Type 0
AppliedTurnsKeep = (v : BookKnown) (a : Account) (k : Ticket) (rest : List Ticket) (b b' : BookView) (j : JobView BodyView) (r : RecordView) (jobs jobs' : List JobFacts) → v.accounts ≡ a ∷ [] → v.tickets ≡ k ∷ rest
    → IsPlayed b.script a k j r → refusal_of_apply b.script b.log j r.effects r.exit ≡ None → IsEndOf b jobs j r.effects r.exit b'.log b'.held jobs' → b'.script ≡ b.script
    → MayGive v (facts_of b) (facts_of b') (knowing_turn (facts_of b) a k rest r v) × (jobs' ≡ jobs ++ (end_of (facts_of b) k.job r).jobs)

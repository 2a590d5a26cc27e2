-- What the holder of a book may do to it, and what its seat knows then: a root is added, a turn begins, a turn is applied (our own).
use Rattle.std.specs.Prelude.{◌≡◌, ℕ, ◌+◌, Bool, true, nat_lt, Some, None, List, [], ◌∷◌, ◌++◌, map, set, IsPermutation}
use mathlib.Core.Option.{some}
use lib.ListN.{get_elem?}
use Rattle.swift_types.specs.declared.env.Env.{Env}
use Rattle.swift_script.specs.Scripts.{ScriptView, actor_executor, executor_start, method_actor, root_count}
use Rattle.swift_turn.specs.Body.{HasFirst, advanced, callers_of}
use Rattle.swift_events.specs.declared.event.Event.{Event}
use Rattle.swift_events.specs.declared.event.Event.TheVariants.{Begin}
use Rattle.swift_events.specs.declared.life.JobStage.TheVariants.{Begun}
use Rattle.swift_events.specs.Lives.{life_of}
use Rattle.swift_events.specs.Room.{IsEnv}
use Rattle.swift_journal.specs.Records.{RecordView}
use Rattle.swift_history.specs.Replay.{IsLawfulRecord, replay}
use Rattle.swift_history.specs.Checks.{counters, fits_turn, is_current}
use Rattle.swift_history.specs.Histories.{begun_priority, left_as}
use Rattle.swift_history.specs.Orderly.{has_last_root, job_executor}
use Rattle.swift_history.specs.TurnEnds.{JobFacts, TurnEnd, root_events, root_job, task, turn_end}
use Rattle.swift_course.specs.Course.{IsCourse}
use Rattle.swift_course.specs.Views.{Account, BookFacts, Maker, BookKnown, Ticket, TurnOrder, at_rest, under_way, unordered, fresh}

-- Whatever else is known, a seat that knows v may give back this for what it took, and knows this then.
abbrev pub MayGive : BookKnown → BookFacts → BookFacts → BookKnown → Type 0
MayGive v taken given known = (views : List BookKnown) (seat : ℕ) → IsCourse taken views → get_elem? views seat ≡ some v → (w : BookKnown) × IsCourse given (set views seat w) × (w ≡ known)

-- the next root is added

-- the book once root `r` is added: its events come last in the log
abbrev pub with_root : BookFacts → ℕ → BookFacts
with_root facts r = record facts { log = facts.log ++ root_events facts.script r }

-- what a seat knows that has added the next root: the ticket of its first job comes last, and one root more is counted
abbrev pub knowing_root : ScriptView → Maker → BookKnown → BookKnown
knowing_root script m v = record v { tickets = v.tickets ++ fresh (root_job script m.roots) ∷ []; maker = Some (record m { roots = m.roots + 1 }) }

-- A seat that adds roots may add the next one, where the script has one more and it was not added.
abbrev pub RootsMayBeAdded : Type 0
RootsMayBeAdded = (v : BookKnown) (taken : BookFacts) (m : Maker) → v.maker ≡ Some m
    → nat_lt m.roots (root_count taken.script) ≡ true → (life_of m.roots taken.log).origin ≡ None
    → MayGive v taken (with_root taken m.roots) (knowing_root taken.script m v)

-- a turn begins

-- the book once a turn of job `j` has begun in this environment: its begin comes last in the log
abbrev pub with_begin : BookFacts → JobFacts → Env → BookFacts
with_begin facts j env = record facts { log = facts.log ++ Begin (task j.task) j.number env ∷ [] }

-- how an executor's turns have begun once one more has: in order where the last root was there and none was under way
abbrev pub order_begun : Bool → TurnOrder → TurnOrder
order_begun true at_rest = under_way
order_begun _ _ = unordered

-- the account once one more turn has begun, where this was the log, and the last root was there or was not
abbrev pub with_turn_begun : List Event → Bool → Account → Account
with_turn_begun log there a = record a { order = order_begun there a.order; seen = log }

-- what a seat knows that has begun the turn of ticket `k`, its first: the ticket says in which environment, and its account that a turn
-- has begun, where this was the log, and the last root was `there` or was not
abbrev pub knowing_begin : List Event → Bool → Ticket → List Ticket → Env → BookKnown → BookKnown
knowing_begin log there k rest env v = record v { accounts = map (with_turn_begun log there) v.accounts; tickets = record k { begun = Some env } ∷ rest }

-- A seat of one account may begin the turn of its first ticket, which runs on the executor of that account, where it is the task's
-- current one, in the environment of the log. It may have begun before.
abbrev pub TurnsMayBegin : Type 0
TurnsMayBegin = (v : BookKnown) (taken : BookFacts) (a : Account) (k : Ticket) (rest : List Ticket) (env : Env) → v.accounts ≡ a ∷ [] → v.tickets ≡ k ∷ rest
    → job_executor taken.script (Some k.job) ≡ Some a.executor
    → is_current (life_of k.job.task taken.log) k.job.number k.job.resume ≡ true → IsEnv (root_count taken.script) (task k.job.task) taken.log env
    → MayGive v taken (with_begin taken k.job env) (knowing_begin taken.log (has_last_root taken.script taken.log) k rest env v)

-- a turn is applied

-- the end of the turn of a job, as a record has it: what it leaves of a book, and the jobs that it makes
abbrev pub end_of : BookFacts → JobFacts → RecordView → TurnEnd
end_of facts j r =
    turn_end facts.script facts.log facts.held j.task j.number (begun_priority (life_of j.task facts.log).stage) r.effects r.exit
    (advanced facts.script (left_as r.frame r.effects r.after) (callers_of j.frames.frames) j.frames.outer r.exit)

-- the book once the turn of job `j` is applied: the log and the tasks that wait are those that its end leaves
abbrev pub with_turn : BookFacts → JobFacts → RecordView → BookFacts
with_turn facts j r = record facts { log = (end_of facts j r).log; held = (end_of facts j r).held }

-- how an executor's turns have begun once the one that was under way is applied
abbrev pub order_applied : TurnOrder → TurnOrder
order_applied under_way = at_rest
order_applied o = o

-- the account with this record after those that it has: the turn is no longer under way
abbrev pub with_record : RecordView → Account → Account
with_record r a = record a { records = a.records ++ r ∷ []; order = order_applied a.order }

-- what a seat knows that has applied the turn of its ticket `k`: `a` has the record, and for `k` come the tickets of the jobs made
abbrev pub knowing_turn : BookFacts → Account → Ticket → List Ticket → RecordView → BookKnown → BookKnown
knowing_turn taken a k rest r v = record v { accounts = with_record r a ∷ []; tickets = map fresh (end_of taken k.job r).jobs ++ rest }

-- The record is of the job of a ticket whose turn has begun, on the executor of an account. The turn is the task's current one, its
-- effects and its exit fit what was written since it has begun, and it is lawful after the turns of the account.
pub record IsTurn (facts : BookFacts) (a : Account) (k : Ticket) (r : RecordView) : Type 0 where
  pub task_is : r.task ≡ k.job.task
  pub number_is : r.number ≡ k.job.number
  pub resume_is : r.resume ≡ k.job.resume
  pub outer_is : r.outer ≡ k.job.frames.outer
  pub begun : k.begun ≡ Some r.env
  pub runs : HasFirst k.job.frames.frames (λ p. p ≡ r.frame)
  pub on : actor_executor facts.script (method_actor facts.script r.frame.method) ≡ a.executor
  pub current : is_current (life_of k.job.task facts.log) k.job.number k.job.resume ≡ true
  pub fits : (env : Env) → (life_of k.job.task facts.log).stage ≡ Some (Begun env) → fits_turn facts.script k.job.task facts.log (counters k.job.task facts.log env.room) r.effects r.exit ≡ true
  pub lawful : IsLawfulRecord facts.script (replay facts.script (executor_start facts.script a.executor) a.records) r

-- A seat of one account may apply the turn of its first ticket. Then the account has the record, and for the ticket come those of
-- the jobs that the turn makes.
abbrev pub TurnsMayBeApplied : Type 0
TurnsMayBeApplied = (v : BookKnown) (taken : BookFacts) (a : Account) (k : Ticket) (rest : List Ticket) (r : RecordView) → v.accounts ≡ a ∷ [] → v.tickets ≡ k ∷ rest
    → IsTurn taken a k r → MayGive v taken (with_turn taken k.job r) (knowing_turn taken a k rest r v)

-- A seat may give back what it took.
abbrev pub BooksMayStay : Type 0
BooksMayStay = (v : BookKnown) (taken : BookFacts) → MayGive v taken taken v

-- What a seat may give back does not depend on the order of its tickets.
abbrev pub TicketsMayBeOrdered : Type 0
TicketsMayBeOrdered = (v : BookKnown) (tickets : List Ticket) (taken given : BookFacts) (known : BookKnown) → IsPermutation v.tickets tickets
    → MayGive (record v { tickets = tickets }) taken given known → MayGive v taken given known

-- What the seat of an executor knows: the turns that the executor has run, and the tickets of its jobs (our own).
use Rattle.std.specs.Prelude.{◌≡◌, ℕ, ◌≤◌, Bool, true, Option, Some, None, List, [], ◌∷◌, ◌++◌, length, map, take, All}
use Rattle.std.specs.List.Sorted.{IsPermutation}
use Rattle.swift_types.specs.declared.env.Env.{Env}
use Rattle.swift_script.specs.Scripts.{ScriptView, executor_start}
use Rattle.swift_events.specs.declared.event.Event.{Event}
use Rattle.swift_job.specs.Job.{JobView}
use Rattle.swift_turn.specs.Body.{BodyView}
use Rattle.swift_journal.specs.Checkpoints.{folded_of}
use Rattle.swift_journal.specs.Records.{RecordView}
use Rattle.swift_history.specs.Replay.{replay}
use Rattle.swift_history.specs.TurnEnds.{JobFacts}
use Rattle.swift_history.specs.Jobs.{job_facts}
use Rattle.swift_course.specs.Course.{IsFront}
use Rattle.swift_course.specs.Views.{BookKnown, Ticket, TurnOrder, at_rest}
use Rattle.swift_shared_book.specs.Shared.{BookSeatView}
use Rattle.swift_executor.specs.Account.{ready_jobs}
use Rattle.swift_executor.specs.Ready.{HaveCounted, ReadyJobsView}
use Rattle.swift_executor.specs.State.{ChosenView, ExecStateView, ChosenStageView, picked, begun, played, before_turn}

-- the jobs of tickets
abbrev pub jobs_of : List Ticket → List JobFacts
jobs_of tickets = map (λ k. k.job) tickets

-- The seat has one account: the turns that the checkpoint has folded, whose replay gave its fields, and then those of the journal.
pub record AccountsFor (s : ExecStateView) (v : BookKnown) : Type 0 where
  pub script_is : v.script ≡ Some s.script
  pub past : List RecordView
  pub order : TurnOrder
  pub seen : List Event
  pub accounts : v.accounts ≡ record { executor = s.executor; records = past ++ s.journal; order = order; seen = seen } ∷ []
  pub folded : s.checkpoint.folded ≡ map folded_of past
  pub replayed : s.checkpoint.fields ≡ replay s.script (executor_start s.script s.executor) past

-- The first ticket is that of a job whose turn has begun in this environment, and the others are those of the jobs that are ready.
abbrev pub IsFirst : ReadyJobsView BodyView → JobFacts → Env → List Ticket → Type 0
IsFirst r j env tickets = (k : Ticket) × (rest : List Ticket) × (tickets ≡ k ∷ rest) × (k.job ≡ j) × (k.begun ≡ Some env) × IsPermutation (jobs_of rest) (ready_jobs r)

-- the tickets are those of the jobs that are ready, and of the chosen one, by how far that is
abbrev pub AreTicketsAt : ReadyJobsView BodyView → JobView BodyView → ChosenStageView → List Ticket → Type 0
AreTicketsAt r j picked tickets = IsPermutation (jobs_of tickets) (job_facts j ∷ ready_jobs r)
AreTicketsAt r j (begun worker env) tickets = IsFirst r (job_facts j) env tickets
AreTicketsAt r j (played worker env frame fields effects exit) tickets = IsFirst r (before_turn (played worker env frame fields effects exit) j) env tickets

-- the tickets are those of the jobs that are ready, and of the chosen one, if there is one
abbrev pub AreTicketsOf : ReadyJobsView BodyView → Option ChosenView → List Ticket → Type 0
AreTicketsOf r None tickets = IsPermutation (jobs_of tickets) (ready_jobs r)
AreTicketsOf r (Some c) tickets = AreTicketsAt r c.job c.stage tickets

-- The seat is that of the executor: it is there, its account has the executor's turns, and it has the tickets of the executor's
-- jobs, each once. What the account has seen of the log has as many events as were there when the levels of all tasks were given
-- last, or more, and those are the levels that were given.
pub record IsSeatFor (s : ExecStateView) (seat : BookSeatView) : Type 0 where
  pub here : seat.here ≡ true
  pub account : AccountsFor s seat.knows
  pub tickets : AreTicketsOf s.ready s.chosen seat.knows.tickets
  pub seen : s.ready.counted ≤ length account.seen
  pub levels : HaveCounted (take s.ready.counted account.seen) s.ready.levels

-- what the accounts of a seat say of how turns have begun
abbrev pub orders_of : BookKnown → List TurnOrder
orders_of v = map (λ a. a.order) v.accounts

-- the records that the accounts of a seat have
abbrev pub records_in : BookKnown → List (List RecordView)
records_in v = map (λ a. a.records) v.accounts

-- where an executor's turns are known to have begun in order, its seat's one account says this
abbrev pub KeepsOrder : Bool → TurnOrder → BookSeatView → Type 0
KeepsOrder is_orderly order seat = is_orderly ≡ true → orders_of seat.knows ≡ order ∷ []

-- the log goes on from what the accounts of a seat have seen of it
abbrev pub HaveSeen : List Event → BookKnown → Type 0
HaveSeen log v = All (λ a. IsFront a.seen log) v.accounts

-- what the accounts of a seat have seen of the log
abbrev pub seen_by : BookKnown → List (List Event)
seen_by v = map (λ a. a.seen) v.accounts

-- what the seat of an executor knows that has run no turn and has no job
abbrev pub opened_view : ScriptView → ℕ → BookKnown
opened_view script executor = record { script = Some script; accounts = record { executor = executor; records = []; order = at_rest; seen = [] } ∷ []; tickets = []; maker = None }

-- the seat is there, and knows what that of an executor does that has run no turn and has no job
abbrev pub IsOpened : ScriptView → ℕ → BookSeatView → Type 0
IsOpened script executor seat = (seat.here ≡ true) × (seat.knows ≡ opened_view script executor)

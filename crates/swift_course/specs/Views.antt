-- What the lock of a book keeps, and what the seats of threads know of a run that is under way (our own).
use Rattle.std.specs.Prelude.{ℕ, Option, None, List, [], replicate}
use Rattle.swift_types.specs.declared.env.Env.{Env}
use Rattle.swift_script.specs.Scripts.{ScriptView, root_count}
use Rattle.swift_events.specs.declared.event.Event.{Event}
use Rattle.swift_journal.specs.Records.{RecordView}
use Rattle.swift_history.specs.TurnEnds.{WaitingTaskView, JobFacts}

-- What is locked: the script, what happened so far, and the tasks that wait, by number.
pub record BookFacts : Type 0 where
  pub script : ScriptView
  pub log : List Event
  pub held : List (Option WaitingTaskView)

-- How the turns of an executor have begun. In order, where each has begun once the last root was there, and while no other was under
-- way; then none is under way now, or one may be. Unordered, where that is not known.
pub data TurnOrder : Type 0 where
  at_rest : TurnOrder
  under_way : TurnOrder
  unordered : TurnOrder

-- All turns of an executor so far, in order, those that its checkpoint has folded too; how its turns have begun; and the log as it was
-- just before the last of them has.
pub record Account : Type 0 where
  pub executor : ℕ
  pub records : List RecordView
  pub order : TurnOrder
  pub seen : List Event

-- The right to run the turn of a job; where the turn has begun, in which environment.
pub record Ticket : Type 0 where
  pub job : JobFacts
  pub begun : Option Env

-- How many executors have an account, and how many roots were added.
pub record Maker : Type 0 where
  pub executors : ℕ
  pub roots : ℕ

-- What a seat knows: the script; the accounts of its executors; its tickets; and where it is the one that opens accounts and adds
-- roots, how many there are. A seat that was joined to another knows nothing.
pub record BookKnown : Type 0 where
  pub script : Option ScriptView
  pub accounts : List Account
  pub tickets : List Ticket
  pub maker : Option Maker

-- what a seat knows that was joined to another: nothing
abbrev pub no_view : BookKnown
no_view = record { script = None; accounts = []; tickets = []; maker = None }

-- the book of a run that has not begun
abbrev pub first_facts : ScriptView → BookFacts
first_facts script = record { script = script; log = []; held = replicate (root_count script) None }

-- the ticket of a job whose turn has not begun
abbrev pub fresh : JobFacts → Ticket
fresh job = record { job = job; begun = None }

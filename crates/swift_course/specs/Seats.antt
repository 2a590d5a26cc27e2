-- How seats are parted and put together (our own).
use Rattle.std.specs.Prelude.{◌≡◌, ℕ, ◌+◌, ◌<◌, Option, Some, None, List, [], ◌∷◌, ◌++◌, take, drop, set}
use mathlib.Core.Option.{some}
use lib.ListN.{get_elem?}
use Rattle.swift_script.specs.Scripts.{ScriptView, executor_count}
use Rattle.swift_course.specs.Course.{IsCourse}
use Rattle.swift_course.specs.Views.{BookFacts, Maker, BookKnown, at_rest, no_view, first_facts}

-- a seat that knows v may be parted
abbrev pub MayPart : BookKnown → BookKnown → BookKnown → Type 0
MayPart v left right = (facts : BookFacts) (views : List BookKnown) (seat : ℕ) → IsCourse facts views → get_elem? views seat ≡ some v → IsCourse facts (set views seat left ++ right ∷ [])

-- a seat that knows v may take in another that knows w
abbrev pub MayTakeIn : BookKnown → BookKnown → BookKnown → BookKnown → Type 0
MayTakeIn v w both spent =
    (facts : BookFacts) (views : List BookKnown) (seat other : ℕ) → IsCourse facts views → get_elem? views seat ≡ some v → ¬ (other ≡ seat) → get_elem? (set views seat both) other ≡ some w
    → IsCourse facts (set (set views seat both) other spent)

-- the seat with which a run begins: it opens accounts and adds roots
abbrev pub first_view : ScriptView → BookKnown
first_view script = record { script = Some script; accounts = []; tickets = []; maker = Some (record { executors = 0; roots = 0 }) }

-- a run may begin with this seat alone
abbrev pub RunsBegin : Type 0
RunsBegin = (script : ScriptView) → IsCourse (first_facts script) (first_view script ∷ [])

-- what a seat keeps that parts off its first `n` tickets
abbrev pub some_left : ℕ → BookKnown → BookKnown
some_left n v = record v { tickets = drop n v.tickets }

-- what the seat knows that gets them: the script and these tickets
abbrev pub some_parted : ℕ → BookKnown → BookKnown
some_parted n v = record { script = v.script; accounts = []; tickets = take n v.tickets; maker = None }

-- a seat may part off a seat for its first `n` tickets
abbrev pub SomeTicketsMayBeParted : Type 0
SomeTicketsMayBeParted = (v : BookKnown) (n : ℕ) → MayPart v (some_left n v) (some_parted n v)

-- what a seat keeps that parts off its first ticket
abbrev pub ticket_left : BookKnown → BookKnown
ticket_left v = record v { tickets = drop 1 v.tickets }

-- what the seat knows that gets it: the script and this ticket
abbrev pub ticket_parted : BookKnown → BookKnown
ticket_parted v = record { script = v.script; accounts = []; tickets = take 1 v.tickets; maker = None }

-- a seat may part off a seat for its first ticket
abbrev pub TicketsMayBeParted : Type 0
TicketsMayBeParted = (v : BookKnown) → MayPart v (ticket_left v) (ticket_parted v)

-- where a seat opens accounts, one more executor has one
abbrev pub one_more : Option Maker → Option Maker
one_more None = None
one_more (Some m) = Some (record m { executors = m.executors + 1 })

-- how many executors have an account, where a seat opens accounts; else 0
abbrev pub number_of : Option Maker → ℕ
number_of None = 0
number_of (Some m) = m.executors

-- what a seat keeps that parts off a seat for the next executor
abbrev pub maker_left : BookKnown → BookKnown
maker_left v = record v { maker = one_more v.maker }

-- what the seat of that executor knows: the script and an account without records
abbrev pub account_parted : BookKnown → BookKnown
account_parted v = record { script = v.script; accounts = record { executor = number_of v.maker; records = []; order = at_rest; seen = [] } ∷ []; tickets = []; maker = None }

-- A seat that opens accounts may part off a seat for the next executor of the script.
abbrev pub AccountsMayBeOpened : Type 0
AccountsMayBeOpened = (v : BookKnown) (m : Maker) (script : ScriptView) → v.script ≡ Some script → v.maker ≡ Some m → m.executors < executor_count script → MayPart v (maker_left v) (account_parted v)

-- a seat has taken in another: its tickets come first
abbrev pub gathered : BookKnown → BookKnown → BookKnown
gathered v w = record { script = v.script; accounts = v.accounts ++ w.accounts; tickets = w.tickets ++ v.tickets; maker = v.maker }

-- a seat may take in any other, which then knows nothing
abbrev pub SeatsMayBeGathered : Type 0
SeatsMayBeGathered = (v w : BookKnown) → MayTakeIn v w (gathered v w) no_view

-- The rule of a run that is under way: some history led to the book, and what the seats know of it is true (our own). A run has no
-- folded block while it goes: which turns a checkpoint has is settled at its end.
use Rattle.std.specs.Prelude.{◌≡◌, ℕ, ◌+◌, ◌<◌, ◌≤◌, ◌==◌, nat_lt, Bool, true, is_some, Option, Some, None, IfSome, List, [], ◌++◌, All, count_by, sum_by, map, slice_index_or, cond}
use Rattle.std.specs.List.{range_with_len}
use mathlib.Core.Option.{some}
use lib.ListN.{get_elem?}
use Rattle.swift_script.specs.Scripts.{ScriptView, executor_count, executor_start, root_count}
use Rattle.swift_events.specs.declared.life.JobStage.TheVariants.{Begun}
use Rattle.swift_events.specs.declared.event.Event.{Event}
use Rattle.swift_events.specs.Events.{tasks_of}
use Rattle.swift_events.specs.Lives.{life_of}
use Rattle.swift_journal.specs.Checkpoints.{CheckpointView}
use Rattle.swift_history.specs.Histories.{AllStand, Block, Standing, after_blocks, at_first, folded_of, records_of, roots_of}
use Rattle.swift_history.specs.Checks.{is_begun}
use Rattle.swift_history.specs.Orderly.{AllAllowed, IsOrderly, job_executor}
use Rattle.swift_history.specs.TurnEnds.{WaitingTaskView}
use Rattle.swift_course.specs.Views.{Account, BookFacts, Maker, BookKnown, Ticket, TurnOrder, at_rest, under_way, unordered}

-- the checkpoint of executor `e` in a run that has not begun: the values that its fields start with, and no turn
abbrev pub start_of : ScriptView → ℕ → CheckpointView
start_of script e = record { fields = executor_start script e; folded = [] }

-- the checkpoints of a run that has not begun, one for each executor of the script
abbrev pub starts : ScriptView → List CheckpointView
starts script = map (start_of script) (range_with_len 0 (executor_count script))

-- where a history leads
abbrev pub standing : ScriptView → List Block → Standing
standing script blocks = after_blocks script (at_first script) blocks

-- the account has the records of its executor in this history
abbrev pub IsIn : List Block → Account → Type 0
IsIn blocks a = a.records ≡ records_of a.executor blocks

-- the owner of the account is this seat, and its executor is one of the first `executors`
abbrev pub IsOwned : (ℕ → ℕ) → ℕ → ℕ → Account → Type 0
IsOwned owner executors seat a = (owner a.executor ≡ seat) × (a.executor < executors)

-- a turn of task `t` has begun and was not applied, on executor `e`
abbrev pub IsUnderWay : ScriptView → Standing → ℕ → ℕ → Type 0
IsUnderWay script s e t = (job_executor script (s.jobs t) ≡ Some e) × (is_begun (life_of t s.log).stage ≡ true)

-- what is under way on executor `e`, by how its turns have begun: nothing, one turn at most, or whatever it is
abbrev pub HasUnderWay : ScriptView → Standing → ℕ → TurnOrder → Type 0
HasUnderWay script s e at_rest = (t : ℕ) → IsUnderWay script s e t → ⊥
HasUnderWay script s e under_way = (t u : ℕ) → IsUnderWay script s e t → IsUnderWay script s e u → t ≡ u
HasUnderWay script s e unordered = Unit {0}

-- turns have begun in order
abbrev pub IsOrdered : TurnOrder → Type 0
IsOrdered unordered = ⊥
IsOrdered _ = Unit {0}

-- the log begins with these events
abbrev pub IsFront : List Event → List Event → Type 0
IsFront front log = (rest : List Event) × (log ≡ front ++ rest)

-- the account says how the turns of its executor have begun, and the log goes on from what it was when the last of them has
abbrev pub SaysOrder : List Event → (ℕ → TurnOrder) → Account → Type 0
SaysOrder log order a = (a.order ≡ order a.executor) × IsFront a.seen log

-- The history gives the ticket's job to its task, and where the turn has begun, it is under way in this environment.
pub record IsGiven (s : Standing) (k : Ticket) : Type 0 where
  pub job : s.jobs k.job.task ≡ Some k.job
  pub begun : IfSome k.begun (λ env. (life_of k.job.task s.log).stage ≡ Some (Begun env))

-- whether a ticket is for task `t`
abbrev pub is_for : ℕ → Ticket → Bool
is_for t k = t == k.job.task

-- how many tickets for task `t` a seat has that knows `v`
abbrev pub tickets_in : ℕ → BookKnown → ℕ
tickets_in t v = count_by (is_for t) v.tickets

-- 1 for what is so, and else 0
abbrev pub one_if : Bool → ℕ
one_if b = cond b 1 0

-- 1 where task `t` is held as one that waits, and else 0
abbrev pub waits : ℕ → List (Option WaitingTaskView) → ℕ
waits t held = one_if (is_some (slice_index_or held t None))

-- in how many ways task `t` can go on: by each ticket for it that a seat has, and where it waits and is woken
abbrev pub ways : ℕ → BookFacts → List BookKnown → ℕ
ways t facts views = sum_by (tickets_in t) views + waits t facts.held

-- What a seat knows is true. No other seat has its accounts, and no other opens accounts and adds roots if it does.
pub record SeatIsRight (script : ScriptView) (blocks : List Block) (owner : ℕ → ℕ) (maker : Maker) (maker_seat seat : ℕ) (v : BookKnown) : Type 0 where
  pub script_is : IfSome v.script (λ known. script ≡ known)
  pub accounts : All (IsIn blocks) v.accounts
  pub owns : All (IsOwned owner maker.executors seat) v.accounts
  pub tickets : All (IsGiven (standing script blocks)) v.tickets
  pub maker_is : IfSome v.maker (λ known. (known ≡ maker) × (maker_seat ≡ seat))

-- The rule: what holds of the book and of what all seats know, between any two steps of threads.
pub record IsCourse (facts : BookFacts) (views : List BookKnown) : Type 0 where
  -- Some history, each block of which may stand where it stands, led to what the book has, and folded no turn.
  pub blocks : List Block
  pub stand : AllStand facts.script (starts facts.script) [] blocks
  pub none_folded : (e : ℕ) → folded_of e blocks ≡ []
  pub log_is : facts.log ≡ (standing facts.script blocks).log
  pub held_is : facts.held ≡ (standing facts.script blocks).held
  -- how many accounts and roots there are, which seat makes them, and whose each account is
  pub maker : Maker
  pub maker_seat : ℕ
  pub owner : ℕ → ℕ
  pub few : maker.executors ≤ executor_count facts.script
  pub none_else : (e : ℕ) → maker.executors ≤ e → records_of e blocks ≡ []
  pub roots : roots_of blocks ≡ range_with_len 0 maker.roots
  pub there : (r : ℕ) → r < root_count facts.script → is_some (life_of r facts.log).origin ≡ nat_lt r maker.roots
  -- how the turns of each executor have begun; where each has in order, so has the history
  pub order : ℕ → TurnOrder
  pub under_way : (e : ℕ) → HasUnderWay facts.script (standing facts.script blocks) e (order e)
  pub unopened : (e : ℕ) → maker.executors ≤ e → order e ≡ at_rest
  pub orders : (seat : ℕ) (v : BookKnown) → get_elem? views seat ≡ some v → All (SaysOrder facts.log order) v.accounts
  pub orderly : ((e : ℕ) → IsOrdered (order e)) → AllAllowed (IsOrderly facts.script) [] blocks
  -- A task can go on in one way at most: it has a ticket, or waits; and in none where it was not made.
  pub single : (t : ℕ) → ways t facts views ≤ 1
  pub unadded : (t : ℕ) → maker.roots ≤ t → t < root_count facts.script → ways t facts views ≡ 0
  pub unmade : (t : ℕ) → tasks_of (root_count facts.script) facts.log ≤ t → ways t facts views ≡ 0
  pub seats : (seat : ℕ) (v : BookKnown) → get_elem? views seat ≡ some v → SeatIsRight facts.script blocks owner maker maker_seat seat v

-- While a history is followed. No public clause names these.
use Rattle.std.specs.Prelude.{◌≡◌, ◌<◌, ◌≤◌, ℕ, ℤ, Bool, true, false, is_some, Some, None, List, [], ◌∷◌, ◌++◌, length, map, slice_get, slice_index_or, Contains}
use Rattle.std.specs.List.{range_with_len}
use Rattle.std.specs.Arc.{arc_value}
use Rattle.script_code.specs.Seen.{rows_of}
use Rattle.swift_types.specs.declared.id.TaskId.{TaskId}
use Rattle.swift_script.specs.Scripts.{ScriptView, executor_count, executor_start, root_count}
use Rattle.swift_events.specs.declared.event.Event.{Event}
use Rattle.swift_events.specs.declared.life.Origin.{Origin}
use Rattle.swift_types.specs.declared.outcome.Ending.{Ending}
use Rattle.swift_events.specs.Lives.{life_of}
use Rattle.swift_events.specs.Relations.{opened_by, is_closed}
use Rattle.swift_history.specs.Checks.{is_begun}
use Rattle.swift_history.specs.Histories.{Block, folded_of, records_of, Stands, added, begun, ran}
use Rattle.swift_journal.specs.Records.{RecordView}
use Rattle.swift_history.specs.Orderly.{AllAllowed, IsOrderly}
use Rattle.swift_digest.specs.Explored.{IsNotFolded}
use Rattle.swift_course.specs.Course.{starts}
use Rattle.swift_steps.specs.NextTurns.{AreOf, seat_of}
use Rattle.swift_steps.specs.OpenHistories.{IsFollowed}
use Rattle.swift_explorer.specs.declared.moves.Move.{Move}
use Rattle.swift_explorer.specs.declared.moves.Move.TheVariants as step
use Rattle.swift_explorer.specs.declared.history.SearchedHistory.{SearchedHistory}
use Rattle.swift_explorer.specs.declared.history.Followed.{Followed}
use Rattle.swift_explorer.specs.declared.history.Followed.TheVariants.{Broken, No, Yes}
use Rattle.swift_explorer.specs.Steps.{AreSteps, IsBroken, IsStep, roots_after, roots_over}
use Rattle.swift_explorer.specs.LogDigestsInside.{IsReadOf}

-- a step was done
abbrev pub WasDone : Followed → Type 0
WasDone No = ⊥
WasDone _ = Unit {0}

-- some record is there
abbrev pub has_records : List RecordView → Bool
has_records [] = false
has_records (r ∷ rs) = true

-- each root that comes before this one was added
abbrev pub AreThere : ℕ → List Event → Type 0
AreThere r log = (u : ℕ) → u < r → is_some (life_of u log).origin ≡ true

-- this is the first root that was not added
pub record IsMissing (script : ScriptView) (log : List Event) (r : ℕ) : Type 0 where
  pub below : r < root_count script
  pub missing : (life_of r log).origin ≡ None
  pub before : AreThere r log

-- each of the first tasks has closed its groups
abbrev pub HaveClosed : List Event → ℕ → Type 0
HaveClosed log n = (t g : ℕ) → t < n → g < opened_by t log → is_closed t g log ≡ true

-- the fields of each executor, as rows
abbrev pub rows_at : SearchedHistory → List (List (List ℤ))
rows_at x = map (λ rows. rows_of rows.items) x.steps.fields.items

-- these blocks were followed, each of them is in order, and what was read for the key stands first in the log
pub record IsHistory (script : ScriptView) (blocks : List Block) (x : SearchedHistory) : Type 0 where
  pub orderly : AllAllowed (IsOrderly script) [] blocks
  pub none_folded : (e : ℕ) → folded_of e blocks ≡ []
  pub many : length (rows_at x) ≡ executor_count script
  pub used : (e : ℕ) → slice_index_or x.used.items e false ≡ has_records (records_of e blocks)
  pub short : length x.used.items ≤ executor_count script
  pub followed : IsFollowed script (starts script) blocks x.steps
  pub read : IsReadOf x.digest x.steps.book.log

-- a copy of a history: whatever was followed in the one was followed in the other
pub record IsCopy (x y : SearchedHistory) : Type 0 where
  pub script : arc_value y.steps.script ≡ arc_value x.steps.script
  pub history : (script : ScriptView) (blocks : List Block) → IsHistory script blocks x → IsHistory script blocks y
  pub roots : y.steps.roots ≡ x.steps.roots

-- some blocks were
abbrev pub IsSomeHistory : SearchedHistory → Type 0
IsSomeHistory x = (blocks : List Block) × IsHistory (arc_value x.steps.script) blocks x

-- Whatever was followed before, one block more was, which is what the step does; whether it breaks an invariant is told.
abbrev pub GoesOn : Move → SearchedHistory → SearchedHistory → Followed → Type 0
GoesOn step old new done = (blocks : List Block) → IsHistory (arc_value old.steps.script) blocks old
    → (b : Block) × IsStep old.steps.roots step b × IsHistory (arc_value old.steps.script) (blocks ++ b ∷ []) new × (new.steps.roots ≡ roots_after old.steps.roots step) × (done ≡ Broken → IsBroken b) × (done ≡ Yes → IsBroken b → ⊥)

-- the block is what the step does, whichever root it adds
abbrev pub IsMoveOf : Move → Block → Type 0
IsMoveOf step.Add (added r) = Unit {0}
IsMoveOf (step.Begin t) (begun u n env) = u ≡ t.0
IsMoveOf (step.Run t) (ran e r) = r.task ≡ t.0
IsMoveOf _ _ = ⊥

-- Each block in order that may follow a history `x` is what one of the steps `moves` does.
abbrev pub HasEachMove : SearchedHistory → List Move → Type 0
HasEachMove x moves = (blocks : List Block) (b : Block) → IsHistory (arc_value x.steps.script) blocks x
    → IsNotFolded b → Stands (arc_value x.steps.script) (starts (arc_value x.steps.script)) blocks b → IsOrderly (arc_value x.steps.script) blocks b → (m : Move) × Contains moves m × IsMoveOf m b

-- the fields of each executor are those that the script gives
abbrev pub AreFirst : ScriptView → List (List (List ℤ)) → Type 0
AreFirst script fields = fields ≡ map (executor_start script) (range_with_len 0 (executor_count script))

-- Of the first tasks each has ended, as these say.
abbrev pub AreEnded : List Event → List (Origin × Ending) → Type 0
AreEnded log endings = (t : ℕ) (x : Origin × Ending) → slice_get endings t ≡ Some x → ((life_of t log).origin ≡ Some x.0) × ((life_of t log).ending ≡ Some x.1)

-- The next turn of a task may begin: each root was added, and no turn is under way at the task's executor.
pub record MayBegin (x : SearchedHistory) (t : ℕ) : Type 0 where
  pub there : AreThere (root_count (arc_value x.steps.script)) x.steps.book.log
  pub free : AreOf (arc_value x.steps.script) x.steps.tasks.items → (u : ℕ) → seat_of (arc_value x.steps.script) x.steps.tasks.items u ≡ seat_of (arc_value x.steps.script) x.steps.tasks.items t → is_begun (life_of u x.steps.book.log).stage ≡ false

-- an executor `k` has a turn under way: that of some task
abbrev pub IsBusy : SearchedHistory → ℕ → Type 0
IsBusy x k = (u : ℕ) × (seat_of (arc_value x.steps.script) x.steps.tasks.items u ≡ Some k) × (is_begun (life_of u x.steps.book.log).stage ≡ true)

-- a turn of task `t` is under way
abbrev pub IsUnderWay : SearchedHistory → ℕ → Type 0
IsUnderWay x t = is_begun (life_of t x.steps.book.log).stage ≡ true

-- Of the first `n` tasks, each that has a job and of which `Is` says something has its step `of` among these.
abbrev pub HasEach : (TaskId → Move) → (SearchedHistory → ℕ → Type 0) → SearchedHistory → ℕ → List Move → Type 0
HasEach of Is x n moves = AreOf (arc_value x.steps.script) x.steps.tasks.items → (t : TaskId) (k : ℕ) → t.0 < n → seat_of (arc_value x.steps.script) x.steps.tasks.items t.0 ≡ Some k → Is x t.0 → Contains moves (of t)

-- these steps were followed
pub record IsPath (script : ScriptView) (path : List Move) (x : SearchedHistory) : Type 0 where
  pub blocks : List Block
  pub steps : AreSteps 0 path blocks
  pub is : IsHistory script blocks x
  pub roots : x.steps.roots ≡ roots_over 0 path

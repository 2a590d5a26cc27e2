-- The lists of all priorities. The level of a list is the number of its priority.
use Rattle.std.specs.Prelude.{◌≡◌, ℕ, ◌≤◌, ◌<◌, List, Option, IfNone, IfSome, length, slice_index_or}
use Rattle.std.specs.List.{All, flat_map}
use Rattle.std.specs.VecDeque.{deque_items}
use Rattle.std.specs.declared.collections.VecDeque.{VecDeque}
use Rattle.swift_types.specs.declared.id.TaskId.{TaskId}
use Rattle.swift_executor.specs.declared.queue.waiting.Waiting.{Waiting}
use Rattle.swift_executor.specs.Picks.{IsOlder}
use Rattle.swift_executor.specs.Queue.{IsWithout}
use Rattle.swift_executor.specs.QueueInside.List.{IsList, IsAtPlace, StartsWith}

-- the jobs of all lists, one list after another
abbrev pub jobs_of : {B Z : Type 0} → List (VecDeque (Waiting B) Z) → List (Waiting B)
jobs_of {B} {Z} lists = flat_map (deque_items {X = Waiting B} {Z = Z}) lists

-- there is a list for each of the four priorities
pub record AreLists {B Z : Type 0} (room : ℕ) (lists : List (VecDeque (Waiting B) Z)) : Type 0 where
  pub four : length lists ≡ 4
  pub each : (k : ℕ) (d : VecDeque (Waiting B) Z) → k < length lists → IsList room k (slice_index_or lists k d)

-- no job stands in a list from this one on
abbrev pub AreEmptyFrom : {B Z : Type 0} → ℕ → List (VecDeque (Waiting B) Z) → Type 0
AreEmptyFrom {B} {Z} low lists = (k : ℕ) (d : VecDeque (Waiting B) Z) → low ≤ k → k < length lists → length (slice_index_or lists k d).items ≡ 0

-- a job stands in this list
pub record IsFilled {B Z : Type 0} (lists : List (VecDeque (Waiting B) Z)) (level : ℕ) : Type 0 where
  pub within : level < length lists
  pub some : (d : VecDeque (Waiting B) Z) → 0 < length (slice_index_or lists level d).items

-- a job stands in this list, and none in a higher one
pub record IsHighest {B Z : Type 0} (lists : List (VecDeque (Waiting B) Z)) (level : ℕ) : Type 0 where
  pub filled : IsFilled lists level
  pub above : (k : ℕ) (d : VecDeque (Waiting B) Z) → level < k → k < length lists → length (slice_index_or lists k d).items ≡ 0

-- a job stands in this list, and the first one is older than all others
pub record HasOldest {B Z : Type 0} (lists : List (VecDeque (Waiting B) Z)) (level : ℕ) : Type 0 where
  pub filled : IsFilled lists level
  pub first : (x : Waiting B) (d : VecDeque (Waiting B) Z) → StartsWith (slice_index_or lists level d).items x → All (IsOlder x) (jobs_of lists)

-- of the lists below a level, found is the one whose first job is the oldest, with its arrival number
pub record IsOldestBelow {B Z : Type 0} (level : ℕ) (lists : List (VecDeque (Waiting B) Z)) (found : Option (ℕ × ℕ)) : Type 0 where
  pub none : IfNone found ((k : ℕ) (d : VecDeque (Waiting B) Z) → k < level → length (slice_index_or lists k d).items ≡ 0)
  pub list : IfSome found (λ f. f.0 < level)
  pub some : IfSome found (λ f. (d : VecDeque (Waiting B) Z) → (x : Waiting B) × (x.arrival ≡ f.1) × StartsWith (slice_index_or lists f.0 d).items x)
  pub least : IfSome found (λ f. (k : ℕ) (d : VecDeque (Waiting B) Z) → k < level → All (λ y. f.1 ≤ y.arrival) (slice_index_or lists k d).items)

-- x is the first of this list
abbrev pub IsFirstOf : {B Z : Type 0} → List (VecDeque (Waiting B) Z) → ℕ → Waiting B → Type 0
IsFirstOf {B} {Z} lists level x = (d : VecDeque (Waiting B) Z) → StartsWith (slice_index_or lists level d).items x

-- this list has this place
pub record HasPlace {B Z : Type 0} (lists : List (VecDeque (Waiting B) Z)) (level place : ℕ) : Type 0 where
  pub within : level < length lists
  pub some : (d : VecDeque (Waiting B) Z) → place < length (slice_index_or lists level d).items

-- x stands at this place of this list
abbrev pub IsAt : {B Z : Type 0} → List (VecDeque (Waiting B) Z) → ℕ → ℕ → Waiting B → Type 0
IsAt {B} {Z} lists level place x = (d : VecDeque (Waiting B) Z) (e : Waiting B) → x ≡ slice_index_or (slice_index_or lists level d).items place e

-- no job of the task stands in a list below this level
abbrev pub AreWithout : {B Z : Type 0} → ℕ → List (VecDeque (Waiting B) Z) → TaskId → Type 0
AreWithout {B} {Z} level lists task = (k : ℕ) (d : VecDeque (Waiting B) Z) → k < level → IsWithout (slice_index_or lists k d).items task

-- the task's job stands at this place of this list, which is below the level
pub record StandsBelow {B Z : Type 0} (level : ℕ) (lists : List (VecDeque (Waiting B) Z)) (task : TaskId) (list place : ℕ) : Type 0 where
  pub low : list < level
  pub here : (d : VecDeque (Waiting B) Z) → IsAtPlace (slice_index_or lists list d).items task place

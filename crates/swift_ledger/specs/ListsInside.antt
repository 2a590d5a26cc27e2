-- What lists of tasks keep.
use Rattle.std.specs.Prelude.{◌≡◌, ℕ, ◌<◌, ◌≤◌, Bool, if◌then◌else◌, ◌==◌, ◌&&◌, nat_eq, Option, List, [], ◌∷◌, ◌++◌, length, slice_get}
use Rattle.std.specs.HashMap.{get, spare}
use Rattle.swift_types.specs.declared.id.TaskId.{TaskId}
use Rattle.swift_ledger.specs.CountsInside.{count_at, HasPlaces}
use Rattle.swift_ledger.specs.declared.lists.TaskLists.{TaskLists}

abbrev pub same_place : TaskId × ℕ → TaskId × ℕ → Bool
same_place x y = nat_eq x.0.0 y.0.0 && nat_eq x.1 y.1

-- what is kept of each list: its length, and each element by its place
pub record AreListsKept (count : ℕ → ℕ) (element : TaskId × ℕ → Option TaskId) (lists : ℕ → List TaskId) : Type 0 where
  pub lengths : (t : ℕ) → count t ≡ length (lists t)
  pub elements : (t : TaskId) (i : ℕ) → element (t, i) ≡ slice_get (lists t.0) i

-- these are the lists
abbrev pub AreLists : TaskLists → (ℕ → List TaskId) → Type 0
AreLists l lists = AreListsKept (λ t. count_at l.counts t) (λ p. get same_place l.tasks p) lists

-- `n` more elements find memory
abbrev pub HasSpare : TaskLists → ℕ → Type 0
HasSpare l n = (0 < n → HasPlaces l.counts) × (n ≤ spare l.tasks)

-- one more element of one list
abbrev pub pushed : (ℕ → List TaskId) → TaskId → TaskId → ℕ → List TaskId
pushed lists task x t = if task.0 == t then lists t ++ x ∷ [] else lists t

-- What is marked, and what is still pending. No public clause names these.
use Rattle.std.specs.Prelude.{◌≡◌, ℕ, ◌+◌, ◌≤◌, ◌⊎◌, true, false, not, length, slice_index_or, count_by, vec_len, Contains}
use Rattle.script_compiler.specs.ListsInside.{Has}
use Rattle.script_compiler.specs.declared.waits.lists.MethodLists.{MethodLists}
use Rattle.script_compiler.specs.declared.waits.marks.Marks.{Marks}

-- A method is marked.
abbrev pub IsMarked : Marks → ℕ → Type 0
IsMarked s m = slice_index_or s.marked.items m false ≡ true

-- A marked method's callers are still to be marked.
abbrev pub IsPending : Marks → ℕ → Type 0
IsPending s m = Contains s.pending.items m

-- How many methods there are.
abbrev pub count_of : Marks → ℕ
count_of s = length s.marked.items

-- How many methods are not marked, and how many are pending.
abbrev pub left_of : Marks → ℕ
left_of s = length s.pending.items + count_by not s.marked.items

-- Some methods of a set were marked, and are pending.
pub record Marking (is_in : ℕ → Type 0) (old new : Marks) : Type 0 where
  pub count : count_of new ≡ count_of old
  pub kept : (m : ℕ) → IsMarked old m → IsMarked new m
  pub only : (m : ℕ) → IsMarked new m → IsMarked old m ⊎ is_in m
  pub still_pending : (m : ℕ) → IsPending old m → IsPending new m
  pub added : (m : ℕ) → IsMarked new m → IsMarked old m ⊎ IsPending new m
  pub marked : (m : ℕ) → IsPending new m → IsPending old m ⊎ IsMarked new m
  pub left : left_of new ≤ left_of old

-- All methods of a set were marked, and no others.
pub record MarkingAll (is_in : ℕ → Type 0) (old new : Marks) : Type 0 where
  pub marking : Marking is_in old new
  pub all : (m : ℕ) → is_in m → IsMarked new m

-- From one method one comes to another by lists of callers.
pub data CallsTo (callers : MethodLists) : ℕ → ℕ → Type 0 where
  itself : {m : ℕ} → CallsTo callers m m
  by : {m k n : ℕ} → Has callers k m → CallsTo callers k n → CallsTo callers m n

-- The callers of a marked method are marked, or it is pending.
abbrev pub IsClosedButPending : MethodLists → Marks → Type 0
IsClosedButPending callers s = (k m : ℕ) → Has callers k m → IsMarked s k → IsMarked s m ⊎ IsPending s k

-- The callers of marked methods are marked.
abbrev pub IsClosed : MethodLists → Marks → Type 0
IsClosed callers s = (k m : ℕ) → Has callers k m → IsMarked s k → IsMarked s m

-- Pending methods are marked.
abbrev pub ArePendingMarked : Marks → Type 0
ArePendingMarked s = (m : ℕ) → IsPending s m → IsMarked s m

-- What leads to a marked method was marked, and nothing else.
pub record Spreading (callers : MethodLists) (old new : Marks) : Type 0 where
  pub count : count_of new ≡ count_of old
  pub kept : (m : ℕ) → IsMarked old m → IsMarked new m
  pub only : (m : ℕ) → IsMarked new m → (k : ℕ) × IsMarked old k × CallsTo callers m k
  pub closed : IsClosed callers new
  pub none_pending : vec_len new.pending ≡ 0

-- What leads to a method of a set was marked, and nothing else.
pub record Reaching (callers : MethodLists) (is_in : ℕ → Type 0) (old new : Marks) : Type 0 where
  pub count : count_of new ≡ count_of old
  pub kept : (m : ℕ) → IsMarked old m → IsMarked new m
  pub all : (m : ℕ) → is_in m → IsMarked new m
  pub only : (m : ℕ) → IsMarked new m → IsMarked old m ⊎ ((k : ℕ) × is_in k × CallsTo callers m k)
  pub closed : IsClosed callers new
  pub none_pending : vec_len new.pending ≡ 0

-- What is marked at first: nothing.
pub record AreNone (methods : ℕ) (s : Marks) : Type 0 where
  pub count : count_of s ≡ methods
  pub none : (m : ℕ) → IsMarked s m → ⊥
  pub none_pending : vec_len s.pending ≡ 0

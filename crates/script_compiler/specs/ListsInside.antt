-- What lists of methods have. No public clause names these.
use Rattle.std.specs.Prelude.{◌≡◌, ℕ, suc, ◌≤◌, ◌⊎◌, List, Option, None, Some, length, slice_get, slice_index_or}
use Rattle.script_compiler.specs.declared.waits.lists.ListEntry.{ListEntry}
use Rattle.script_compiler.specs.declared.waits.lists.MethodLists.{MethodLists}

-- From an entry one comes to this method.
pub data InChain (entries : List ListEntry) : Option ℕ → ℕ → Type 0 where
  at : {k : ℕ} {e : ListEntry} → slice_get entries k ≡ Some e → InChain entries (Some k) e.method
  after : {k m : ℕ} {e : ListEntry} → slice_get entries k ≡ Some e → InChain entries e.before m → InChain entries (Some k) m

-- The place of a list's last entry.
abbrev pub last_of : MethodLists → ℕ → Option ℕ
last_of lists a = slice_index_or lists.last.items a None

-- The list of this number has this method.
abbrev pub Has : MethodLists → ℕ → ℕ → Type 0
Has lists a m = InChain lists.entries.items (last_of lists a) m

-- The entries of a chain stand below this place.
abbrev pub end_of : Option ℕ → ℕ
end_of None = 0
end_of (Some k) = suc k

-- The entry before another stands before it.
pub record AreOrderly (lists : MethodLists) : Type 0 where
  pub inside : (a : ℕ) → end_of (last_of lists a) ≤ length lists.entries.items
  pub older : (k : ℕ) (e : ListEntry) → slice_get lists.entries.items k ≡ Some e → end_of e.before ≤ k

-- No list has a method.
pub record AreEmpty (lists : MethodLists) : Type 0 where
  pub orderly : AreOrderly lists
  pub none : (a m : ℕ) → Has lists a m → ⊥

-- A list gets a method, and the others stay.
pub record Pushes (a m : ℕ) (old new : MethodLists) : Type 0 where
  pub orderly : AreOrderly new
  pub count : length new.last.items ≡ length old.last.items
  pub has : Has new a m
  pub kept : (b n : ℕ) → Has old b n → Has new b n
  pub only : (b n : ℕ) → Has new b n → Has old b n ⊎ ((b ≡ a) × (n ≡ m))

-- There is a list for each number below a count, and it has the methods that it is to have.
pub record AreListsOf (is_in : ℕ → ℕ → Type 0) (count : ℕ) (lists : MethodLists) : Type 0 where
  pub orderly : AreOrderly lists
  pub same : length lists.last.items ≡ count
  pub all : (a m : ℕ) → is_in a m → Has lists a m
  pub only : (a m : ℕ) → Has lists a m → is_in a m

-- Which tasks are marked as cancelled.
use Rattle.std.specs.Prelude.{◌≡◌, ℕ, ◌+◌, ◌<◌, ◌≤◌, Bool, false, not, ◌&&◌, ◌||◌, List, [], ◌∷◌, ◌++◌, length, map, slice_index_or, vec_len, vec_capacity}
use Rattle.std.specs.List.{range_with_len}
use Rattle.swift_events.specs.declared.event.Event.{Event}
use Rattle.swift_events.specs.declared.event.Event.TheVariants.{Child, CancelTask, CancelGroup}
use Rattle.swift_events.specs.declared.life.Life.{Life}
use Rattle.swift_events.specs.Events.{tasks_of}
use Rattle.swift_events.specs.Lives.{unborn}
use Rattle.swift_events.specs.Relations.{children_of, is_named_group, is_cancelled, names_task, names_group, of_parent, parent_by}
use Rattle.swift_ledger.specs.declared.flags.Flags.{Flags}

-- which of the first `n` tasks are cancelled
unfoldable pub flags_of : ℕ → List Event → List Bool
flags_of n log = map (λ t. is_cancelled t log) (range_with_len 0 n)

-- the marks are those of the log
abbrev pub AreFlags : Flags → ℕ → List Event → Type 0
AreFlags f roots log = f.flags.items ≡ flags_of (tasks_of roots log) log

-- `n` more tasks find memory
abbrev pub HasSpare : Flags → ℕ → Type 0
HasSpare f n = vec_len f.flags + n ≤ vec_capacity f.flags

-- whether a cancel has named the group that the event adds a child to, or cancels
abbrev pub is_named_in : List Event → Event → Bool
is_named_in log (Child t o g p) = is_named_group o.0 g log
is_named_in log (CancelGroup o g) = is_named_group o.0 g log
is_named_in log _ = false

-- nobody is a child of the group that the event cancels
abbrev pub HasNoChildren : List Event → Event → Type 0
HasNoChildren log (CancelGroup o g) = children_of o.0 g log ≡ []
HasNoChildren log _ = Unit {0}

-- a cancel of what is not marked as cancelled
abbrev pub is_new_cancel : Event → Bool → Bool → List Bool → Bool
is_new_cancel (CancelTask t) named children flags = not (slice_index_or flags t.0 false)
is_new_cancel (CancelGroup o g) named children flags = children && (not named && not (slice_index_or flags o.0 false))
is_new_cancel _ named children flags = false

-- whether the task that the event makes is cancelled from the start
abbrev pub is_born_cancelled : Event → Bool → List Bool → Bool
is_born_cancelled (Child t o g p) named flags = named || slice_index_or flags o.0 false
is_born_cancelled _ named flags = false

-- whether a task is cancelled once the event is written, where its owner is marked so already
abbrev pub is_reached : Event → List Bool → List Life → ℕ → Bool
is_reached e flags lives t = slice_index_or flags t false || (names_task t e || of_parent (parent_by (slice_index_or lives t unborn).origin) (λ o g. names_group o g e || slice_index_or flags o false))

-- the marks where those of the tasks below a number follow the log with the event, and the others the log before it
pub record AreMarked (flags : List Bool) (i n : ℕ) (log : List Event) (e : Event) : Type 0 where
  pub all : length flags ≡ n
  pub done : (k : ℕ) → k < i → slice_index_or flags k false ≡ is_cancelled k (log ++ e ∷ [])
  pub rest : (k : ℕ) → i ≤ k → k < n → slice_index_or flags k false ≡ is_cancelled k log

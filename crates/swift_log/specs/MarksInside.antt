-- How the entries of a log stand for its events. Only this crate's proofs use it.
use Rattle.std.specs.Prelude.{◌≡◌, ℕ, ◌<◌, ℤ, List, [], ◌∷◌, ◌++◌, length, take, sum_by}
use Rattle.std.specs.List.{All, flat_map}
use Rattle.swift_events.specs.declared.event.Event.{Event}
use Rattle.swift_log.specs.declared.entry.LogEntry.{LogEntry}
use Rattle.swift_log.specs.declared.mark.Mark.{Mark}
use Rattle.swift_log.specs.EntriesInside.{events_of, width_of, IsWithin}

-- the events of entries, by the numbers beside them
abbrev pub events_in : List ℤ → List LogEntry → List Event
events_in ns xs = flat_map (events_of ns) xs

-- how many these are
abbrev pub count_in : List LogEntry → ℕ
count_in xs = sum_by width_of xs

-- a mark is of one of the entries, and says how many events those before it stand for
pub record IsMark (xs : List LogEntry) (m : Mark) : Type 0 where
  pub entry : m.entry < length xs
  pub start : m.start ≡ count_in (take m.entry xs)

-- one more event is told by the last entry, and all else is as it was
pub record IsJoined (xs : List LogEntry) (e : Event) (ys : List LogEntry) : Type 0 where
  pub events : (ns : List ℤ) → events_in ns ys ≡ events_in ns xs ++ e ∷ []
  pub within : (n : ℕ) → All (IsWithin n) xs → All (IsWithin n) ys
  pub marks : (m : Mark) → IsMark xs m → IsMark ys m

-- How the entries stand for the events: which entry has an event, and what one more event does to the marks.
use Rattle.std.proofs.Common.{◌≡◌, ℕ, ◌+◌, ◌<◌, ℤ, List, [], ◌∷◌, ◌++◌, length, take, set, get_or, sym, ap, ◌∙◌, arith, length-append}
use Rattle.std.proofs.lemmas.List.{append_assoc, append-nil, length_push, length-set, take_all, take_at, take_more, take_more_set, take-append-le, take-set-le}
use Rattle.std.proofs.lemmas.List.Concat.{flat_map-append, get_or-flat_map, length-flat_map}
use Rattle.std.proofs.lemmas.List.Elements.{All-set}
use Rattle.swift_events.specs.declared.event.Event.{Event}
use Rattle.swift_log.specs.declared.entry.LogEntry.{LogEntry}
use Rattle.swift_log.specs.declared.mark.Mark.{Mark}
use Rattle.swift_log.specs.EntriesInside.{events_of, width_of, IsWithin, Joins}
use Rattle.swift_log.specs.MarksInside.{count_in, events_in, IsJoined, IsMark}

pub length_events : (ns : List ℤ) (xs : List LogEntry) → length (events_in ns xs) ≡ count_in xs
length_events ns xs = length-flat_map (events_of ns) xs

-- an event is one of those of the entry before which too few stand
pub event_found : (ns : List ℤ) (xs : List LogEntry) (at rest place : ℕ) (x : LogEntry) (d : Event) → at < length xs → rest < width_of (get_or xs at x) → count_in (take at xs) + rest ≡ place
    → get_or (events_of ns (get_or xs at x)) rest d ≡ get_or (events_in ns xs) place d
event_found ns xs at rest place x d inside within is =
    sym (get_or-flat_map (events_of ns) xs at rest x d inside within)
    ∙ ap (λ k. get_or (events_in ns xs) k d) (ap (λ n. n + rest) (length_events ns (take at xs)) ∙ is)

-- one more event is one more in the count
pub counted : (xs ys : List LogEntry) (e : Event) → events_in [] ys ≡ events_in [] xs ++ e ∷ [] → count_in ys ≡ count_in xs + 1
counted xs ys e is = sym (length_events [] ys) ∙ ap length is ∙ length_push (events_in [] xs) e ∙ ap (λ n. n + 1) (length_events [] xs)

-- an entry that follows leaves the marks as they are, and can have one
pub mark_kept : (xs ys : List LogEntry) (m : Mark) → IsMark xs m → IsMark (xs ++ ys) m
mark_kept xs ys m is =
    let below = is.entry in
    record {
      entry = let long = length-append xs ys in omega (arith, below, long);
      start = is.start ∙ sym (ap count_in (take-append-le m.entry xs ys (omega (arith, below))));
    }

pub mark_last : (xs : List LogEntry) (x : LogEntry) (m : Mark) → m.entry ≡ length xs → m.start ≡ count_in xs → IsMark (xs ++ x ∷ []) m
mark_last xs x m at is = record {
  entry = let long = length_push xs x in omega (arith, at, long);
  start = is ∙ sym (ap count_in (take_at xs (x ∷ []) m.entry (sym at)));
}

-- the events of one entry behind others
events_last : (ns : List ℤ) (xs : List LogEntry) (x : LogEntry) → events_in ns (xs ++ x ∷ []) ≡ events_in ns xs ++ events_of ns x
events_last ns xs x = flat_map-append (events_of ns) xs (x ∷ []) ∙ ap (λ es. events_in ns xs ++ es) (append-nil (events_of ns x))

-- one more event that the last entry stands for
joins_last : (ns : List ℤ) (xs : List LogEntry) (e : Event) (x y : LogEntry) → Joins x e y → events_in ns (xs ++ y ∷ []) ≡ events_in ns (xs ++ x ∷ []) ++ e ∷ []
joins_last ns xs e x y joins =
    events_last ns xs y
    ∙ ap (λ es. events_in ns xs ++ es) (joins.events ns)
    ∙ sym (append_assoc (events_in ns xs) (events_of ns x) (e ∷ []))
    ∙ ap (λ es. es ++ e ∷ []) (sym (events_last ns xs x))

pub joined : (xs : List LogEntry) (e : Event) (n : ℕ) (y : LogEntry) → n + 1 ≡ length xs → Joins (get_or xs n y) e y → IsJoined xs e (set xs n y)
joined xs e n y at joins =
    let last = get_or xs n y in
    let before : take n xs ++ last ∷ [] ≡ xs = sym (take_more xs n y (omega (arith, at))) ∙ take_all (n + 1) xs (omega (arith, at)) in
    let after : take n xs ++ y ∷ [] ≡ set xs n y =
    sym (take_more_set xs n y (omega (arith, at))) ∙ take_all (n + 1) (set xs n y) (let long = length-set xs n y in omega (arith, at, long)) in
    record {
      events = λ ns. ap (events_in ns) (sym after) ∙ joins_last ns (take n xs) e last y joins ∙ ap (λ zs. events_in ns zs ++ e ∷ []) before;
      within = λ m all. All-set (IsWithin m) xs n y (let none = joins.needed in omega (arith, none)) all;
      marks = λ m is. let below = is.entry in record {
        entry = let long = length-set xs n y in omega (arith, below, long);
        start = is.start ∙ sym (ap count_in (take-set-le m.entry xs n y (omega (arith, below, at))));
      };
    }

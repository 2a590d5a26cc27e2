-- The events of a log, one more at a time.
use Rattle.run_page.proofs.Prelude.{◌≡◌, ℕ, ◌+◌, ◌<◌, List, [], ◌∷◌, ◌++◌, length, drop, get_or, sym, ap, ◌∙◌, arith, append_assoc, drop_more, Event, event_json, events_json}

-- an element of a list that has one
first_of : {X : Type 0} (xs : List X) (k : ℕ) → k < length xs → X
first_of [] k lt = absurd (omega (arith, lt))
first_of (x ∷ xs) k lt = x

-- the events from one on
pub from_place : (k : ℕ) (es : List Event) (e : Event) → k < length es → ((d : Event) → e ≡ get_or es k d) → drop k es ≡ e ∷ drop (k + 1) es
from_place k es e lt is =
    let d = first_of es k lt in
    drop_more es k d lt ∙ ap (λ (x : Event). x ∷ drop (k + 1) es) (sym (is d))

events_from : (place : ℕ) (es : List Event) (e : Event) → place < length es → ((d : Event) → e ≡ get_or es place d)
    → events_json place (drop place es) ≡ event_json place e ++ events_json (place + 1) (drop (place + 1) es)
events_from place es e lt is = ap (events_json place) (from_place place es e lt is)

-- a step of the loop that writes them
pub events_more : (place : ℕ) (es : List Event) (e : Event) (old new whole : List ℕ) → place < length es → ((d : Event) → e ≡ get_or es place d)
    → new ≡ old ++ event_json place e → old ++ events_json place (drop place es) ≡ whole → new ++ events_json (place + 1) (drop (place + 1) es) ≡ whole
events_more place es e old new whole lt is written before =
    let rest = events_json (place + 1) (drop (place + 1) es) in
    ap (λ (x : List ℕ). x ++ rest) written
    ∙ append_assoc old (event_json place e) rest
    ∙ ap (λ (x : List ℕ). old ++ x) (sym (events_from place es e lt is))
    ∙ before

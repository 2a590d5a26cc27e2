-- Events of a log, up to the next block.
use Rattle.run_pictures.proofs.Prelude.{◌≡◌, ℕ, ◌+◌, ◌<◌, true, false, if◌then◌else◌, List, ◌∷◌, length, drop, get_or, sym, ap, ◌∙◌, at_drop_more, begins_block, goes_on, only_goes_on}
use Rattle.swift_events.specs.declared.event.Event.{Event}

-- the event at a place, and then those after it
pub block_more : (t : ℕ) (log : List Event) (i : ℕ) (e : Event) → i < length log → ((d : Event) → e ≡ get_or log i d)
    → only_goes_on t (drop i log) ≡ (if begins_block e then true else (if goes_on t e then only_goes_on t (drop (i + 1) log) else false))
block_more t log i e lt is = at_drop_more (only_goes_on t) log i e lt ∙ ap (λ (x : Event). only_goes_on t (x ∷ drop (i + 1) log)) (sym (is e))

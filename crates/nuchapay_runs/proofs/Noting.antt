-- What is said of turns, one after the other.
use Rattle.nuchapay_runs.proofs.Prelude.{◌≡◌, ℕ, ◌+◌, ◌<◌, ℤ, List, [], ◌++◌, length, drop, get_or, refl, sym, ap, ap₂, ◌∙◌, arith, at_drop_more, Ending, Origin, ScriptView, RecordView, fields_after, noted_turn, noted_turns, notes_text, differences, outcome_of, played_turn, turn_values, Text, Change, Says, first_of}
use Rattle.swift_turn.specs.Body.{invariants_at, state_at}
use Rattle.run_pictures.specs.KeepingInside.{fields_of}
use Rattle.run_pictures.specs.declared.values.change.Outcome.{Outcome}
use Rattle.run_pictures.specs.declared.values.change.Outcome.TheVariants.{Kept, Undone, Broke}
use Rattle.nuchapay_runs.proofs.Joined.{UpTo, more}
use Rattle.run_pictures.proofs.Keeping.{kept_fields}

by_outcome : (p : ScriptView) (e : ℕ) (before left : List (List ℤ)) (changes : List Change) (o : Outcome)
    → notes_text p e (fields_of o before left) (record { outcome = o; changes = changes }) ≡ notes_text p e before (record { outcome = o; changes = changes })
by_outcome p e before left changes Kept = refl
by_outcome p e before left changes Undone = refl
by_outcome p e before left changes (Broke k) = refl

-- what is said of a turn needs no fields of one that was kept, and of another one those after it are those before it
pub notes_after : (p : ScriptView) (e : ℕ) (before : List (List ℤ)) (r : RecordView) → notes_text p e (fields_after p before r) (turn_values p before r) ≡ notes_text p e before (turn_values p before r)
notes_after p e before r =
    let w = played_turn p before r in
    let here = invariants_at p r.frame in
    ap (λ (fields : List (List ℤ)). notes_text p e fields (turn_values p before r)) (kept_fields here (state_at p r.frame before [] r.env.room) w)
    ∙ by_outcome p e before w.state.fields (differences 0 before w.state.fields) (outcome_of here w.exit w.state.fields)

-- one turn more
pub noted_more : (p : ScriptView) (es : List (Origin × Ending)) (e first i : ℕ) (j : List RecordView) (before after : List (List ℤ)) (old now next : Text) (all : List ℕ) → i < length j
    → ((d : RecordView) → Says now next (noted_turn p es e (first + i) before (get_or j i d))) → ((d : RecordView) → after ≡ fields_after p before (get_or j i d))
    → UpTo old now (noted_turns p es e (first + i) before (drop i j)) all → UpTo old next (noted_turns p es e (first + (i + 1)) after (drop (i + 1) j)) all
noted_more p es e first i j before after old now next all lt says is upto =
    let d = first_of j i lt in
    let x = get_or j i d in
    let next_place : (first + i) + 1 ≡ first + (i + 1) = omega arith in
    more
    (at_drop_more (λ (l : List RecordView). noted_turns p es e (first + i) before l) j i d lt ∙ ap₂ (λ (k : ℕ) (f : List (List ℤ)). noted_turn p es e (first + i) before x ++ noted_turns p es e k f (drop (i + 1) j)) next_place (sym (is d)))
    upto
    (says d)

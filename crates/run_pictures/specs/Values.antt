-- What turns do to the fields of their executor's actors (our own).
use Rattle.std.specs.Prelude.{ℕ, ◌+◌, ℤ, if◌then◌else◌, Option, Some, None, List, [], ◌∷◌, ◌++◌, map}
use Rattle.std.specs.Ordering.{int_eq}
use Rattle.swift_types.specs.declared.limits.TheConstants.{STEPS}
use Rattle.script_code.specs.Tree.{Term}
use Rattle.script_code.specs.Value.{holds}
use Rattle.swift_script.specs.Scripts.{ScriptView}
use Rattle.swift_interpreter.specs.Turn.{ExitView, Played, undoes, whole_turn}
use Rattle.swift_turn.specs.Body.{invariants_at, state_at}
use Rattle.swift_journal.specs.Records.{RecordView}
use Rattle.swift_history.specs.Replay.{fields_after}
use Rattle.run_pictures.specs.declared.values.change.Change.{Change}
use Rattle.run_pictures.specs.declared.values.change.Outcome.{Outcome}
use Rattle.run_pictures.specs.declared.values.change.Outcome.TheVariants.{Kept, Undone, Broke}
use Rattle.run_pictures.specs.declared.values.change.TurnValues.{TurnValues}

-- a field with its values before and after, where these differ
abbrev pub difference : ℕ → ℕ → ℤ → ℤ → List Change
difference actor field before after =
    if int_eq before after then [] else record { actor = actor; field = field; before = before; after = after } ∷ []

-- the fields of an actor, from this one on, whose values before and after differ
abbrev pub row_differences : ℕ → ℕ → List ℤ → List ℤ → List Change
row_differences actor field [] ys = []
row_differences actor field (x ∷ xs) [] = []
row_differences actor field (x ∷ xs) (y ∷ ys) = difference actor field x y ++ row_differences actor (field + 1) xs ys

-- the fields of the actors, from this one on, whose values before and after differ
abbrev pub differences : ℕ → List (List ℤ) → List (List ℤ) → List Change
differences actor [] after = []
differences actor (x ∷ xs) [] = []
differences actor (x ∷ xs) (y ∷ ys) = row_differences actor 0 x y ++ differences (actor + 1) xs ys

-- the place of the first invariant that does not hold, of those from this place on
abbrev pub first_false : ℕ → List Term → List (List ℤ) → Option ℕ
first_false k [] fields = None
first_false k (t ∷ ts) fields = if holds (Some t) fields then first_false (k + 1) ts fields else Some k

-- what becomes of a turn that nothing undid for its exit, by the first invariant that is false
abbrev pub broken : Option ℕ → Outcome
broken None = Kept
broken (Some k) = Broke k

-- what becomes of a turn, by the invariants, how it ends, and the fields at its end
abbrev pub outcome_of : List Term → ExitView → List (List ℤ) → Outcome
outcome_of invariants exit fields = if undoes exit then Undone else broken (first_false 0 invariants fields)

-- the whole turn of a record's frame on these fields, as if nothing could undo it
abbrev pub played_turn : ScriptView → List (List ℤ) → RecordView → Played
played_turn script fields r =
    whole_turn (record { outer = r.outer; env = r.env }) STEPS (state_at script r.frame fields [] r.env.room) r.resume

-- what became of a turn; and its changes, or those that were not made
pub record ValuesView : Type 0 where
  pub outcome : Outcome
  pub changes : List Change

-- what became of a turn, and its changes, as callers see them
abbrev pub values_view : TurnValues → ValuesView
values_view v = record { outcome = v.outcome; changes = v.changes.items }

-- what became of turns, in order, as callers see them
abbrev pub values_views : List TurnValues → List ValuesView
values_views = map values_view

-- what a record's turn did: the fields that are others at the end of its whole turn
abbrev pub turn_values : ScriptView → List (List ℤ) → RecordView → ValuesView
turn_values script fields r =
    let played = played_turn script fields r in
    record { outcome = outcome_of (invariants_at script r.frame) played.exit played.state.fields; changes = differences 0 fields played.state.fields }

-- What the turns of a journal did, each on the fields that those before it leave.
abbrev pub values_from : ScriptView → List (List ℤ) → List RecordView → List ValuesView
values_from script fields [] = []
values_from script fields (r ∷ rs) = turn_values script fields r ∷ values_from script (fields_after script fields r) rs

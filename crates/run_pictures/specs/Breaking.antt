-- Which turn was undone by an invariant (our own).
use Rattle.std.specs.Prelude.{ℕ, Bool, true, false, if◌then◌else◌, ◌&&◌, ◌==◌, List, [], ◌∷◌}
use Rattle.swift_script.specs.Scripts.{ScriptView}
use Rattle.swift_journal.specs.Checkpoints.{CheckpointRoomView}
use Rattle.swift_journal.specs.Records.{RecordView}
use Rattle.run_pictures.specs.declared.values.change.Outcome.{Outcome}
use Rattle.run_pictures.specs.declared.values.change.Outcome.TheVariants.{Kept, Undone, Broke}
use Rattle.run_pictures.specs.Values.{ValuesView, values_from}

-- a turn was undone, since it would have left an invariant false
abbrev pub is_broke : Outcome → Bool
is_broke Kept = false
is_broke Undone = false
is_broke (Broke k) = true

-- a record is that of the turn of a task with this number
abbrev pub is_turn : ℕ → ℕ → RecordView → Bool
is_turn t n r = (r.task == t) && (r.number == n)

-- The turn of a task with this number, which is in a journal whose turns did this, was undone by an invariant.
abbrev pub breaks_in : ℕ → ℕ → List RecordView → List ValuesView → Bool
breaks_in t n [] vs = false
breaks_in t n (r ∷ rs) [] = false
breaks_in t n (r ∷ rs) (v ∷ vs) = if is_turn t n r then is_broke v.outcome else breaks_in t n rs vs

-- The turn of a task with this number, which is in the journal of an executor, was undone by an invariant: played on the fields that its
-- checkpoint and the turns before it leave, it leaves one false.
abbrev pub breaks_at : ScriptView → ℕ → ℕ → List CheckpointRoomView → List (List RecordView) → Bool
breaks_at p t n [] js = false
breaks_at p t n (c ∷ cs) [] = false
breaks_at p t n (c ∷ cs) (j ∷ js) = if breaks_in t n j (values_from p c.view.fields j) then true else breaks_at p t n cs js

-- What is kept of a turn, by what becomes of it.
use Rattle.run_pictures.proofs.Prelude.{◌≡◌, ℕ, ◌+◌, ℤ, Bool, true, false, if◌then◌else◌, Some, List, [], ◌∷◌, refl, sym, ap, ◌∙◌, Term, ScriptView, RecordView, fields_after, broken, first_false, outcome_of, played_turn}
use Rattle.script_code.specs.Value.{holds}
use Rattle.swift_interpreter.specs.Turn.{TurnStateView, ExitView, failing, Played, undoes, all_hold, exits, left_by, kept_of}
use Rattle.run_pictures.specs.declared.values.change.Outcome.{Outcome}
use Rattle.run_pictures.specs.declared.values.change.Outcome.TheVariants.{Undone}
use Rattle.swift_turn.specs.Body.{invariants_at, state_at}
use Rattle.run_pictures.specs.KeepingInside.{fields_of}
use Rattle.swift_types.specs.declared.outcome.Fault.{Fault}
use Rattle.swift_types.specs.declared.outcome.Fault.TheVariants.{Invariant}

left_by_fields : (f : Fault) (gs : List ℕ) (s : TurnStateView) → (left_by f gs s).state.fields ≡ s.fields
left_by_fields f [] s = refl
left_by_fields f (g ∷ gs) s = refl

-- how a frame is left changes no field
exits_fields : (s : TurnStateView) (e : ExitView) → (exits s e).state.fields ≡ s.fields
exits_fields s (failing f) = left_by_fields f s.groups s
exits_fields s e = refl

by_held : (k : ℕ) (ts : List Term) (fields before : List (List ℤ)) (all none : Played) (b : Bool)
    → (if all_hold ts fields then all else none).state.fields ≡ fields_of (broken (first_false (k + 1) ts fields)) before fields → none.state.fields ≡ before
    → (if (if b then all_hold ts fields else false) then all else none).state.fields ≡ fields_of (broken (if b then first_false (k + 1) ts fields else Some k)) before fields
by_held k ts fields before all none true rest back = rest
by_held k ts fields before all none false rest back = back

-- all hold where none is false
by_first : (k : ℕ) (ts : List Term) (fields before : List (List ℤ)) (all none : Played) → all.state.fields ≡ fields → none.state.fields ≡ before
    → (if all_hold ts fields then all else none).state.fields ≡ fields_of (broken (first_false k ts fields)) before fields
by_first k [] fields before all none after back = after
by_first k (t ∷ ts) fields before all none after back = by_held k ts fields before all none (holds (Some t) fields) (by_first (k + 1) ts fields before all none after back) back

by_undone : (invariants : List Term) (s : TurnStateView) (w : Played) (b : Bool) → (if b then exits s w.exit else if all_hold invariants w.state.fields then exits w.state w.exit else exits s (failing Invariant)).state.fields
    ≡ fields_of (if b then Undone else broken (first_false 0 invariants w.state.fields)) s.fields w.state.fields
by_undone invariants s w true = exits_fields s w.exit
by_undone invariants s w false = by_first 0 invariants w.state.fields s.fields (exits w.state w.exit) (exits s (failing Invariant)) (exits_fields w.state w.exit) (exits_fields s (failing Invariant))

pub kept_fields : (invariants : List Term) (s : TurnStateView) (w : Played) → (kept_of invariants s w).state.fields ≡ fields_of (outcome_of invariants w.exit w.state.fields) s.fields w.state.fields
kept_fields invariants s w = by_undone invariants s w (undoes w.exit)

-- the fields after a record's turn
pub after_turn : (script : ScriptView) (before : List (List ℤ)) (r : RecordView) (o : Outcome) (invariants : List Term) (e : ExitView) (left fields : List (List ℤ))
    → invariants ≡ invariants_at script r.frame → e ≡ (played_turn script before r).exit → left ≡ (played_turn script before r).state.fields
    → o ≡ outcome_of invariants e left → fields ≡ fields_of o before left → fields ≡ fields_after script before r
after_turn script before r o invariants e left fields of_script ends leaves became settled =
    let w = played_turn script before r in
    let here = invariants_at script r.frame in
    let is : o ≡ outcome_of here w.exit w.state.fields =
    became
    ∙ ap (λ (ts : List Term). outcome_of ts e left) of_script
    ∙ ap (λ (x : ExitView). outcome_of here x left) ends
    ∙ ap (λ (f : List (List ℤ)). outcome_of here w.exit f) leaves in
    settled
    ∙ ap (λ (x : Outcome). fields_of x before left) is
    ∙ ap (λ (f : List (List ℤ)). fields_of (outcome_of here w.exit w.state.fields) before f) leaves
    ∙ sym (kept_fields here (state_at script r.frame before [] r.env.room) w)

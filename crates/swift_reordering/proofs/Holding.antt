-- Invariants that hold of the fields of a checkpoint hold of those of each history from it.
use Rattle.swift_reordering.proofs.Prelude.{◌≡◌, ℕ, ℤ, List, [], ◌∷◌, ◌++◌, refl, sym, ◌∙◌, ap, subst, Bool, true, false, append_assoc, append-nil, Some, None, ◌==◌, if◌then◌else◌, cons_option, eqb-true, Fault, Invariant, STEPS, Term, ScriptView, executor_invariants, actor_executor, method_actor, ExitView, failing, TurnStateView, TurnInputView, Played, left_by, exits, undoes, all_hold, kept_of, whole_turn, invariants_at, state_at, RecordView, turn_of, replay, CheckpointView, Block, added, begun, ran, folded, checkpoint_at, fields_of, record_in, Stands, AllStand, fields_push}

left_fields : (f : Fault) (gs : List ℕ) (s : TurnStateView) → (left_by f gs s).state.fields ≡ s.fields
left_fields f [] s = refl
left_fields f (g ∷ gs) s = refl

exits_fields : (s : TurnStateView) (e : ExitView) → (exits s e).state.fields ≡ s.fields
exits_fields s (failing f) = left_fields f s.groups s
exits_fields s e = refl

kept_by : (invariants : List Term) (before : TurnStateView) (after : Played) (undone good : Bool) → undoes after.exit ≡ undone → all_hold invariants after.state.fields ≡ good → all_hold invariants before.fields ≡ true
    → all_hold invariants (kept_of invariants before after).state.fields ≡ true
kept_by invariants before after true good u h was = rw u (ap (all_hold invariants) (exits_fields before after.exit) ∙ was)
kept_by invariants before after false true u h was = rw (u, h) (ap (all_hold invariants) (exits_fields after.state after.exit) ∙ h)
kept_by invariants before after false false u h was = rw (u, h) (ap (all_hold invariants) (exits_fields before (failing Invariant)) ∙ was)

turn_holds : (script : ScriptView) (f : List (List ℤ)) (r : RecordView) → all_hold (invariants_at script r.frame) f ≡ true → all_hold (invariants_at script r.frame) (turn_of script f r).state.fields ≡ true
turn_holds script f r was =
    let g : TurnInputView = record { outer = r.outer; env = r.env } in
    let s : TurnStateView = state_at script r.frame f [] r.env.room in
    let w : Played = whole_turn g STEPS s r.resume in
    kept_by (invariants_at script r.frame) s w (undoes w.exit) (all_hold (invariants_at script r.frame) w.state.fields) refl refl was

module _ (script : ScriptView) (cps : List CheckpointView) (e : ℕ) where
  abbrev Hold : List (List ℤ) → Type 0
  Hold f = all_hold (executor_invariants script e) f ≡ true

  added_holds : (before : List Block) (b : Block) → Stands script cps before b → (f : List (List ℤ)) → Hold f → Hold (replay script f (cons_option (record_in e b) []))
  added_holds before (added r) stands f was = was
  added_holds before (begun t n env) stands f was = was
  added_holds before (folded k x) stands f was = was
  added_holds before (ran k q) stands f was = by_seat (k == e) (λ same. stands.stands.on ∙ eqb-true k e same) where
    by_seat : (b : Bool) → (b ≡ true → actor_executor script (method_actor script q.frame.method) ≡ e) → Hold (replay script f (cons_option (if b then Some q else None) []))
    by_seat true on =
        let is : invariants_at script q.frame ≡ executor_invariants script e = ap (executor_invariants script) (on refl) in
        subst (λ (ts : List Term). all_hold ts (turn_of script f q).state.fields ≡ true) is (turn_holds script f q (subst (λ (ts : List Term). all_hold ts f ≡ true) (sym is) was))
    by_seat false on = was

  hold_on : (bs before : List Block) → AllStand script cps before bs → Hold (fields_of script cps e before) → Hold (fields_of script cps e (before ++ bs))
  hold_on [] before all was = subst (λ (xs : List Block). Hold (fields_of script cps e xs)) (sym (append-nil before)) was
  hold_on (b ∷ bs) before all was =
      subst (λ (xs : List Block). Hold (fields_of script cps e xs)) (append_assoc before (b ∷ []) bs)
      (hold_on bs (before ++ b ∷ []) all.1 (subst Hold (sym (fields_push script cps e before b)) (added_holds before b all.0 (fields_of script cps e before) was)))

  pub hold_always : Hold (checkpoint_at cps e).fields → (bs : List Block) → AllStand script cps [] bs → Hold (fields_of script cps e bs)
  hold_always first bs all = hold_on bs [] all first

-- What is kept of a turn, by how it ends.
use Rattle.swift_undo.proofs.Prelude.{◌≡◌, ℕ, ℤ, true, false, List, [], Result, Ok, Err, IfOk, refl, sym, ap, ◌∙◌, Invariant, Resume, Term, Code, FrameView, state_in, restored, TurnStateView, TurnInputView, ExitView, failing, Played, undoes, all_hold, exits, kept, whole_turn}

pub kept_undone : (g : TurnInputView) (n : ℕ) (invariants : List Term) (s : TurnStateView) (resume : Resume) (w : Played) → w ≡ whole_turn g n s resume → undoes w.exit ≡ true → exits s w.exit ≡ kept g n invariants s resume
kept_undone g n invariants s resume w is undone = rw (sym is, undone) refl

pub kept_false : (g : TurnInputView) (n : ℕ) (invariants : List Term) (s : TurnStateView) (resume : Resume) (w : Played) → w ≡ whole_turn g n s resume → undoes w.exit ≡ false → all_hold invariants w.state.fields ≡ false → exits s (failing Invariant) ≡ kept g n invariants s resume
kept_false g n invariants s resume w is not_undone not_held = rw (sym is, not_undone, not_held) refl

pub kept_whole : (g : TurnInputView) (n : ℕ) (invariants : List Term) (s : TurnStateView) (resume : Resume) (w : Played) → w ≡ whole_turn g n s resume → undoes w.exit ≡ false → all_hold invariants w.state.fields ≡ true → exits w.state w.exit ≡ kept g n invariants s resume
kept_whole g n invariants s resume w is not_undone held = rw (sym is, not_undone, held) refl

-- the fields that are put back are those from the start of the turn
pub put_back_fields : (saved : List (ℕ × List ℤ)) (before start now : List (List ℤ)) → saved ≡ [] → start ≡ before → now ≡ restored saved start → now ≡ before
put_back_fields saved before start now none same is = is ∙ (ap (λ (s : List (ℕ × List ℤ)). restored s start) none ∙ same)

-- a turn that is put back is as it began
pub put_back_state : (at : ℕ → Code) (f f' : FrameView) (rows rows' : List (List ℤ)) (room : ℕ) → f' ≡ f → rows' ≡ rows → state_in at f' rows' [] room ≡ state_in at f rows [] room
put_back_state at f f' rows rows' room same_frame same_rows =
    ap (λ (v : FrameView). state_in at v rows' [] room) same_frame ∙ ap (λ (r : List (List ℤ)). state_in at f r [] room) same_rows

-- what is left of a turn that was undone
pub left_undone : {A E : Type 0} (r : Result A E) (P : Code → (ℕ → Code) → Type 0) (after : (ℕ → Code) → A → Played) (back s : (ℕ → Code) → TurnStateView) (exit : ExitView) (k : (ℕ → Code) → Played)
    → IfOk r (λ last. (at : ℕ → Code) → after at last ≡ exits (back at) exit) → ((at : ℕ → Code) → back at ≡ s at)
    → ((code : Code) (at : ℕ → Code) → P code at → exits (s at) exit ≡ k at)
    → IfOk r (λ last. (code : Code) (at : ℕ → Code) → P code at → after at last ≡ k at)
left_undone (Ok last) P after back s exit k left same is = λ code at follows. left at ∙ (ap (λ (x : TurnStateView). exits x exit) (same at) ∙ is code at follows)
left_undone (Err e) P after back s exit k left same is = tt

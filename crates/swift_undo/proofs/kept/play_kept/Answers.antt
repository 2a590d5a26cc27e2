use Rattle.swift_undo.proofs.Prelude.{◌≡◌, ℕ, true, false, [], sym, ap, ◌∙◌, ℤ, List, Vec, Global, Invariant, FollowsCode, rows_of, Code, terms_of, frame_view, state_in, restored, TurnStateView, failing, all_hold, kept, whole_turn, beginning, exit_view, fields_before, given_of, played_of, state_of}
use Rattle.swift_undo.proofs.Keeping.{kept_undone, kept_false, kept_whole, left_undone, put_back_fields, put_back_state}
use Rattle.swift_undo.proofs.Spared.{others_hold}
use Rattle.swift_undo.proofs.kept.play_kept.Goals as goal

pub all_hold-requires : goal.all_hold-requires
all_hold-requires c =
    let back = put_back_fields c.begin_turn.new.saved _ _ _ c.begin_turn.ensures.saved (ap rows_of c.begin_turn.ensures.fields) c.play_whole.ensures.back in
    others_hold (terms_of c.args.given.invariants.now) c.args.rows.now c.play_whole.new.saved (rows_of c.deref.result.now) (rows_of c.args.turn.now.fields.items)
    (ap (λ (f : List (Vec ℤ Global)). restored c.play_whole.new.saved (rows_of f)) c.deref.ensures.value ∙ back) c.requires

pub returns-in_default-clause-fields : goal.returns-in_default-clause-fields
returns-in_default-clause-fields c =
    put_back_fields c.begin_turn.new.saved _ _ _ c.begin_turn.ensures.saved (ap rows_of c.begin_turn.ensures.fields) (c.undo_turn.ensures.fields ∙ c.play_whole.ensures.back)

pub returns-then-undoes-clause-kept : goal.returns-then-undoes-clause-kept
returns-then-undoes-clause-kept c =
    let g = given_of c.args.given in
    let n = c.args.limit in
    let invariants = terms_of c.args.given.invariants.now in
    let s = λ (at : ℕ → Code). beginning at c.args.given.env.now c.args.turn.now in
    let w = λ (at : ℕ → Code). played_of (state_of at c.play_whole.new.turn) c.in-Ok.exit in
    let rows = put_back_fields c.begin_turn.new.saved _ _ _ c.begin_turn.ensures.saved (ap rows_of c.begin_turn.ensures.fields) c.play_whole.ensures.back in
    left_undone c.leave_undone.result (λ code at. FollowsCode c.args.given.instructions.now code at) (λ at exit. played_of (state_of at c.leave_undone.new.turn) exit)
    (λ at. state_in at (frame_view c.begin_turn.new.before) (fields_before c.play_whole.new.saved c.play_whole.new.turn) [] c.args.given.env.now.room) s (exit_view c.in-Ok.exit)
    (λ at. kept g n invariants (s at) c.args.resume) c.leave_undone.ensures.left
    (λ at. put_back_state at _ _ _ _ c.args.given.env.now.room c.in_ok-begin_turn.ensures.copy rows)
    (λ code at follows. kept_undone g n invariants (s at) c.args.resume (w at) (c.in-Ok.ensures.played code at follows ∙ ap (λ (x : TurnStateView). whole_turn g n x c.args.resume) (c.begin_turn.ensures.state at)) (sym c.if-undoes.ensures))

pub returns-then-not-all_hold-clause-kept : goal.returns-then-not-all_hold-clause-kept
returns-then-not-all_hold-clause-kept c =
    let g = given_of c.args.given in
    let n = c.args.limit in
    let invariants = terms_of c.args.given.invariants.now in
    let s = λ (at : ℕ → Code). beginning at c.args.given.env.now c.args.turn.now in
    let w = λ (at : ℕ → Code). played_of (state_of at c.play_whole.new.turn) c.in-Ok.exit in
    let rows = put_back_fields c.begin_turn.new.saved _ _ _ c.begin_turn.ensures.saved (ap rows_of c.begin_turn.ensures.fields) c.play_whole.ensures.back in
    let fields = ap rows_of c.deref.ensures.value in
    let not_held : all_hold invariants (rows_of c.play_whole.new.turn.fields.items) ≡ false = ap (all_hold invariants) (sym fields) ∙ sym c.if-not-all_hold.ensures in
    left_undone c.leave_undone-then-not-all_hold.result (λ code at. FollowsCode c.args.given.instructions.now code at) (λ at exit. played_of (state_of at c.leave_undone-then-not-all_hold.new.turn) exit)
    (λ at. state_in at (frame_view c.begin_turn.new.before) (fields_before c.play_whole.new.saved c.play_whole.new.turn) [] c.args.given.env.now.room) s (failing Invariant)
    (λ at. kept g n invariants (s at) c.args.resume) c.leave_undone-then-not-all_hold.ensures.left
    (λ at. put_back_state at _ _ _ _ c.args.given.env.now.room c.in_ok-begin_turn.ensures.copy rows)
    (λ code at follows. kept_false g n invariants (s at) c.args.resume (w at) (c.in-Ok.ensures.played code at follows ∙ ap (λ (x : TurnStateView). whole_turn g n x c.args.resume) (c.begin_turn.ensures.state at)) (sym c.if-undoes.ensures) not_held)

pub returns-clause-kept : goal.returns-clause-kept
returns-clause-kept c = λ code at follows.
    let g = given_of c.args.given in
    let n = c.args.limit in
    let invariants = terms_of c.args.given.invariants.now in
    let s = beginning at c.args.given.env.now c.args.turn.now in
    let w = played_of (state_of at c.play_whole.new.turn) c.in-Ok.exit in
    let whole : w ≡ whole_turn g n s c.args.resume = c.in-Ok.ensures.played code at follows ∙ ap (λ (x : TurnStateView). whole_turn g n x c.args.resume) (c.begin_turn.ensures.state at) in
    let fields = ap rows_of c.deref.ensures.value in
    let held : all_hold invariants w.state.fields ≡ true = ap (all_hold invariants) (sym fields) ∙ sym c.if-not-all_hold.ensures in
    c.leave_frame.ensures.left at ∙ kept_whole g n invariants s c.args.resume w whole (sym c.if-undoes.ensures) held

pub returns-clause-saved : goal.returns-clause-saved
returns-clause-saved c =
    ap (λ (f : List (Vec ℤ Global)). restored c.play_whole.new.saved (rows_of f)) c.leave_frame.ensures.fields
    ∙ put_back_fields c.begin_turn.new.saved _ _ _ c.begin_turn.ensures.saved (ap rows_of c.begin_turn.ensures.fields) c.play_whole.ensures.back

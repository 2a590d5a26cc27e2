use Rattle.swift_certificate.proofs.Prelude.{rules, ◌≡◌, ◌∙◌, ◌<◌, Some, ap, length, refl, arith, effect_views, frame_view, frame_if, exit_view, FoldedView, folded_view}
use Rattle.swift_certificate.proofs.Played.{found_folded, folds, map_answer, same_turn}
use Rattle.swift_certificate.proofs.playing.fold.Goals as goal

pub returns : goal.returns
returns c =
    let turn = c.in_ok-of.field-0 in
    let lt : c.args.row.now.folded < length c.args.checkpoint.now.view.folded = omega (arith, c.if-row-len.false) in
    let task : turn.task.0 ≡ c.args.task.0 = search rules in
    let number : turn.number ≡ c.args.ready.number = omega (arith, c.if-number-ready.false) in
    let there = found_folded c.args.checkpoint.now.view.folded c.args.row.now.folded (folded_view turn) lt c.in_ok-of.ensures ∙ ap (λ (x : FoldedView). Some x) (same_turn (folded_view turn) c.args.task c.args.ready.number task number) in
    map_answer c.go_on.result _ _ (λ done taken. folds c.args.checkpoint.now.view c.args.row.now _ c.args.task c.args.ready (frame_view c.top.result.now) (effect_views turn.effects.items) (exit_view turn.exit) (frame_if turn.after) done
    taken c.top.ensures (search rules) there refl refl) c.go_on.ensures

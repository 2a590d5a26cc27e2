use Rattle.swift_certificate.proofs.Prelude.{rules, ◌≡◌, ◌∙◌, IfSome, sym, subst, refl, slice_get_read, report_view, Folds, if_yes}
use Rattle.swift_certificate.proofs.Steps.{checkpoint_is, replay_folded}
use Rattle.swift_certificate.proofs.replay.Replay.fold_turn.Goals as goal

pub returns-clause-follows : goal.returns-clause-follows
returns-clause-follows c =
    let x = c.args.self.now in
    let k = c.args.place in
    let row = c.index_mut-row.result.now in
    let checkpoint = c.index.result.now in
    let done = c.in-Some-folded.field-0 in
    let ready = c.in-Some-take.ready in
    let was = sym c.take.ensures.found ∙ c.in-Some-take.is in
    let at = slice_get_read x.rows.items _ k row refl c.requires.place c.index_mut-row.ensures.value in
    let none : row.played ≡ 0 = search rules in
    let here = subst (λ o. IfSome o (λ d. Folds checkpoint.view row c.fold.new.row c.args.task ready d)) c.in-Some-folded.is c.in_ok-folded.ensures in
    let folds = subst (λ (v : _). Folds v row c.fold.new.row c.args.task ready done) (sym (checkpoint_is c.args.report.now.checkpoints.items k checkpoint c.requires.there c.index.ensures)) here in
    if_yes c.apply.result _ _ (λ a. replay_folded (report_view c.args.report.now) x _ _ k c.args.task ready c.in-Some._env row c.fold.new.row done c.requires.replay
    (record { was = was; rest = c.take.ensures.rest; script_is = refl; book_is = refl; roots_are = refl; jobs_are = refl }) refl c.in-Some.ensures.some c.requires.runs folds none at refl a) c.apply.ensures.applies

use Rattle.swift_journal.proofs.Prelude.{◌≡◌, List, ◌∷◌, [], ◌++◌, false, is_err, rules, ap, ◌∙◌, RecordView, record_view, whole}
use Rattle.swift_journal.proofs.Ahead.{on_ok}
use Rattle.swift_journal.proofs.RecordsStay.{put_view}
use Rattle.swift_journal.proofs.journal.Journal.push.Goals as goal

pub returns-clause-ok : goal.returns-clause-ok
returns-clause-ok c =
    let j = c.self.inside in
    let new = c.write_turn.new in
    let fine : is_err c.write_turn.result ≡ false = search rules in
    put_view j.heads.items new.heads.items (whole j.words) c.begin.new.self new.words j.effects.items new.effects.items (record_view c.args.turn.now)
    c.begin.ensures c.write_turn.ensures.before c.write_turn.ensures.effects (on_ok c.write_turn.result _ c.write_turn.ensures.ok fine) c.self.invariant
    ∙ ap (λ (x : List RecordView). x ++ record_view c.args.turn.now ∷ []) c.self.view_is

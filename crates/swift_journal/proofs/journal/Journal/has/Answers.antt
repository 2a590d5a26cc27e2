use Rattle.swift_journal.proofs.Prelude.{◌<◌, ℤ, List, length, sym, ap, ◌∙◌, arith, length-map, effects_at, record_at, record_of, words_at, record_view, whole, StoredEffect}
use Rattle.swift_journal.proofs.RecordsStay.{last_is, turn_at}
use Rattle.swift_journal.proofs.journal.Journal.has.Goals as goal

pub returns-clause-same : goal.returns-clause-same
returns-clause-same c = λ yes d.
    let j = c.self.inside in
    let h = c.index-head.result.now in
    let f = record_at (whole j.words) j.effects.items in
    let size = ap length c.self.view_is in let same = length-map j.heads.items f in
    let lt : c.args.place < length j.heads.items = omega (arith, size, same) in
    let words = c.words_of-words.ensures ∙ ap (λ (ws : List ℤ). words_at ws h) c.all.ensures in
    let effects = c.effects_of.ensures ∙ ap (λ (es : List StoredEffect). effects_at es h) c.deref.ensures.value in
    turn_at f j.heads.items c.args.place h c.args.self.now d lt c.index-head.ensures c.self.view_is
    ∙ sym (ap (λ (ws : List ℤ). record_of h ws c.effects_of.result.now) words ∙ ap (record_of h (words_at (whole j.words) h)) effects)
    ∙ sym (c.ends_with-same.ensures yes d)
    ∙ last_is _ _ (record_view c.args.turn.now) d c.in_ok-push.ensures.ok

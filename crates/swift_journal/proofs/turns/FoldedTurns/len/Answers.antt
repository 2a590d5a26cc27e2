use Rattle.swift_journal.proofs.Prelude.{◌≡◌, ◌<◌, ◌^◌, length, arith, rules, ◌∙◌}
use Rattle.swift_journal.proofs.FoldedStay.{folded_count}
use Rattle.swift_journal.proofs.turns.FoldedTurns.len.Goals as goal

pub returns : goal.returns
returns c =
    let t = c.self.inside in
    let size : c.len.result ≡ length t.heads.items = search rules in
    let same : c.len.result ≡ length c.args.self.now = size ∙ folded_count t.heads.items t.words.items t.effects.items c.args.self.now c.self.view_is in
    let small : c.len.result < 2 ^ 63 = search rules in
    record { len = same; limit = omega (arith, small, same) }

use Rattle.swift_explorer.proofs.Prelude.{◌∙◌, ap, arith, length, length_push}
use Rattle.swift_explorer.proofs.CardsNoted.{more_none, more_push}
use Rattle.swift_explorer.proofs.keys.digest.cover.Goals as goal

pub cover-init : goal.cover-init
cover-init c = record { more = more_none c.args.cards.now.items; few = λ le. le }

pub cover-preserved : goal.cover-preserved
cover-preserved c =
    let cs = c.cover.cards.items in
    let x = c.blank_card.result in
    let more = c.in_ok-push.ensures.items in
    let many = ap length more ∙ length_push cs x in
    record {
      more = more_push c.args.cards.now.items cs c.push.new.self.items x c.cover.invariant.more more c.blank_card.ensures;
      few = λ le. omega (arith, many, c.cover-test.true, c.len.ensures);
    }

use Rattle.swift_explorer.proofs.Prelude.{◌+◌, List, take, take_all, sym, subst, arith, AllZip, KeyCard, IsSameCard}
use Rattle.std.proofs.lemmas.List.Elements.{all_zip_more}
use Rattle.swift_explorer.proofs.keys.digest.copy_cards.Goals as goal

pub loop-card-preserved : goal.loop-card-preserved
loop-card-preserved c =
    let cards = c.args.cards.now in
    let k = c.loop-card.card-index in
    subst (AllZip IsSameCard (take (k + 1) cards)) (sym c.in_ok-push.ensures.items)
    (all_zip_more IsSameCard cards c.loop-card.copy.items k c.card-item.result c.in_ok-same.same c.loop-card-test.true c.card-item.is c.loop-card.invariant c.in_ok-same.ensures)

pub returns : goal.returns
returns c = subst (λ (cs : List KeyCard). AllZip IsSameCard cs c.loop-card.copy.items) (take_all c.loop-card.card-index c.args.cards.now (omega (arith, c.loop-card-test.false))) c.loop-card.invariant

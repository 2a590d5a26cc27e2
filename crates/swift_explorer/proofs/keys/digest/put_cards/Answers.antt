use Rattle.swift_explorer.proofs.Prelude.{◌≡◌, ◌<◌, ◌++◌, ℕ, List, append-nil, get_or, length, sym, ap, ◌∙◌, arith, each_numbers, card_numbers, IsCard, card_of_parts, KeyCard}
use Rattle.swift_explorer.proofs.CardSteps.{card_written}
use Rattle.swift_explorer.proofs.CardsNoted.{card_at}
use Rattle.swift_explorer.proofs.Steps.{each_step}
use Rattle.swift_explorer.proofs.keys.digest.put_cards.Goals as goal

pub loop-card-init : goal.loop-card-init
loop-card-init c = record { key = λ d are. sym (append-nil c.args.key.now.items); few = omega arith }

pub loop-card-preserved : goal.loop-card-preserved
loop-card-preserved c =
    let cs : List KeyCard = c.args.cards.now in
    let i = c.loop-card.card-index in
    let lt : i < length cs = c.loop-card-test.true in
    record {
      key = λ d are.
          (let x : KeyCard = get_or cs i c.card-item.result in
          let is : IsCard x (d.cards i) = card_at cs (length cs) i c.card-item.result d are lt in
          each_step card_numbers d.cards i _ _ _ (c.loop-card.invariant.key d are)
          (c.in_ok-put_card.ensures
          ∙ ap (λ l. c.loop-card.key.items ++ l) (ap (λ (y : KeyCard). card_of_parts y.life y.links.items y.own.items y.waiters.items y.named y.opened) c.card-item.is ∙ card_written x (d.cards i) is)));
      few = omega (arith, lt);
    }

pub returns : goal.returns
returns c = λ d are.
    (let few = c.loop-card.invariant.few in
    let all : c.loop-card.card-index ≡ length c.args.cards.now = omega (arith, few, c.loop-card-test.false) in
    c.loop-card.invariant.key d are ∙ ap (λ (n : ℕ). c.args.key.now.items ++ each_numbers card_numbers d.cards n) all)

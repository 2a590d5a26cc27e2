use Rattle.swift_ledger.proofs.Prelude.{refl, arith}
use Rattle.swift_ledger.proofs.GroupSteps.{ask-step, asked_few}
use Rattle.swift_ledger.proofs.group_index.GroupIndex.ask.Goals as goal

pub prove-unreachable-requires : goal.prove-unreachable-requires
prove-unreachable-requires c =
    let few = asked_few c.args.self.now c.args.log.now.events c.args.owner c.args.group c.place_of-place.result c.index-held.result.now c.requires.groups c.place_of-place.ensures.place c.index-held.ensures in
    omega (arith, few)

pub returns-clause-groups : goal.returns-clause-groups
returns-clause-groups c =
    ask-step c.args.self.now _ c.args.log.now.events c.args.owner c.args.group c.place_of-place.result c.index-held.result.now c.requires.groups c.requires.is_open c.place_of-place.ensures.place c.index-held.ensures
    c.next.ensures.after refl refl refl refl refl refl

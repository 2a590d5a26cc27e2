use Rattle.swift_ledger.proofs.Prelude.{refl, arith}
use Rattle.swift_ledger.proofs.GroupSteps.{end-step, can_end, child_opened, ended_few}
use Rattle.swift_ledger.proofs.group_index.GroupIndex.end_child.Goals as goal

pub place_of-place-requires-clause-opened : goal.place_of-place-requires-clause-opened
place_of-place-requires-clause-opened c = child_opened c.args.self.now c.args.log.now.events c.args.task c.args.owner c.args.group c.requires.groups c.requires.parent

pub end_in-requires : goal.end_in-requires
end_in-requires c =
    can_end c.args.self.now c.args.log.now.events c.args.task c.args.owner c.args.group c.place_of-place.result c.index-held.result.now c.requires.groups c.requires.alive c.requires.parent c.place_of-place.ensures.place c.index-held.ensures

pub prove-unreachable-requires : goal.prove-unreachable-requires
prove-unreachable-requires c =
    let few = ended_few c.args.self.now c.args.log.now.events c.args.owner c.args.group c.place_of-place.result c.index-held.result.now c.requires.groups c.place_of-place.ensures.place c.index-held.ensures in
    omega (arith, few)

pub returns-clause-groups : goal.returns-clause-groups
returns-clause-groups c =
    end-step c.args.self.now _ c.args.log.now.events c.args.task c.args.owner c.args.ending c.args.group c.place_of-place.result c.index-held.result.now c.requires.groups c.requires.alive c.requires.parent c.place_of-place.ensures.place c.index-held.ensures
    c.end_in.ensures refl refl refl refl refl refl

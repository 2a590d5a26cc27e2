use Rattle.swift_ledger.proofs.Prelude.{refl}
use Rattle.swift_ledger.proofs.GroupSteps.{close-step}
use Rattle.swift_ledger.proofs.group_index.GroupIndex.close_group.Goals as goal

pub returns-clause-groups : goal.returns-clause-groups
returns-clause-groups c =
    close-step c.args.self.now _ c.args.log.now.events c.args.owner c.args.group c.place_of-place.result c.index-held.result.now c.requires.groups c.requires.is_open c.place_of-place.ensures.place c.index-held.ensures
    c.close.ensures.after refl refl refl refl refl refl

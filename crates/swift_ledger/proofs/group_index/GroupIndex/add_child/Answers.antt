use Rattle.swift_ledger.proofs.Prelude.{refl, arith}
use Rattle.swift_ledger.proofs.GroupSteps.{child-step, not_child}
use Rattle.swift_ledger.proofs.GroupCalls.{added}
use Rattle.swift_ledger.proofs.group_index.GroupIndex.add_child.Goals as goal

pub unreachable-requires : goal.unreachable-requires
unreachable-requires c =
    let new = not_child c.args.self.now c.args.log.now.events c.args.owner c.args.task c.args.group c.place_of-place.result c.requires.groups c.requires.is_open c.place_of-place.ensures.place c.requires.new in
    added c.add.result c.args.self.now.groups.reserved c.args.self.now.spare _ _ c.in_default.field-0 c.add.ensures.refusals c.add.ensures.memory new c.requires.spare c.requires.groups.groups_room c.in_default.is

pub returns-clause-groups : goal.returns-clause-groups
returns-clause-groups c = λ p.
    child-step c.args.self.now _ c.args.log.now.events c.args.task c.args.owner c.args.group c.place_of-place.result p c.index-held.result.now c.requires.groups c.requires.new c.requires.is_open c.place_of-place.ensures.place c.index-held.ensures
    c.in-Ok.ensures.ok refl refl refl (let s = c.requires.spare in omega (arith, s)) refl refl

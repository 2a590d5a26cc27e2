use Rattle.swift_ledger.proofs.Prelude.{arith}
use Rattle.swift_ledger.proofs.GroupOpenings.{open-step}
use Rattle.swift_ledger.proofs.group_index.GroupIndex.open_group.Goals as goal

pub returns-clause-groups : goal.returns-clause-groups
returns-clause-groups c =
    open-step c.args.self.now _ c.args.log.now.events c.args.owner c.args.group c.in-Ok.id.0 c.requires.groups c.requires.number c.requires.known c.in-Ok.ensures.number c.in-Ok.ensures.ok
    (λ u h. c.in-Ok-insert.ensures.updates.0 (u, h)) c.set.ensures.updates c.push_reserved.ensures.items
    (let s = c.requires.spare in omega (arith, s)) c.in-Ok-insert.ensures.spare c.set.ensures.places c.push_reserved.ensures.len c.push_reserved.ensures.capacity

pub set-requires-clause-places : goal.set-requires-clause-places
set-requires-clause-places c = c.requires.groups.counts_room c.requires.spare

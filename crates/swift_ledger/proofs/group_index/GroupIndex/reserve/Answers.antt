use Rattle.swift_ledger.proofs.Prelude.{refl, arith, ap, GroupsView}
use Rattle.swift_ledger.proofs.GroupOpenings.{room-step}
use Rattle.swift_ledger.proofs.group_index.GroupIndex.reserve.Goals as goal

pub returns-in_default-clause-groups : goal.returns-in_default-clause-groups
returns-in_default-clause-groups c = λ log old.
    let same = c.in_default.ensures.err in let more = ap (λ (v : GroupsView). v.reserved) same in
    room-step c.args.self.now _ log old (ap (λ (v : GroupsView). v.groups) same) (λ o g. refl) (λ t. refl) refl
    (let r = old.groups_room in omega (arith, r, more)) old.places_room old.counts_room old.held_room

pub returns-in_err-reserve-clause-groups : goal.returns-in_err-reserve-clause-groups
returns-in_err-reserve-clause-groups c = λ log old.
    let done = c.in-Ok.ensures.ok in let more = ap (λ (v : GroupsView). v.reserved) done in
    room-step c.args.self.now _ log old (ap (λ (v : GroupsView). v.groups) done) (λ o g. c.reserve-2.ensures.entries.2 (o, g)) (λ t. refl) refl
    (let r = old.groups_room in omega (arith, r, more))
    (let r = old.places_room in let s = c.reserve-2.ensures.spare in omega (arith, r, s)) old.counts_room old.held_room

pub returns-in_err-reserve-2-clause-groups : goal.returns-in_err-reserve-2-clause-groups
returns-in_err-reserve-2-clause-groups c = λ log old.
    let done = c.in-Ok.ensures.ok in let more = ap (λ (v : GroupsView). v.reserved) done in
    room-step c.args.self.now _ log old (ap (λ (v : GroupsView). v.groups) done) (λ o g. c.reserve-2.ensures.entries.2 (o, g)) c.reserve-3.ensures.same refl
    (let r = old.groups_room in omega (arith, r, more))
    (let r = old.places_room in let s = c.reserve-2.ensures.spare in omega (arith, r, s))
    (λ some. c.reserve-3.ensures.places (old.counts_room some)) old.held_room

pub returns-in_err-reserve-3-clause-groups : goal.returns-in_err-reserve-3-clause-groups
returns-in_err-reserve-3-clause-groups c = λ log old.
    let done = c.in-Ok.ensures.ok in let more = ap (λ (v : GroupsView). v.reserved) done in
    room-step c.args.self.now _ log old (ap (λ (v : GroupsView). v.groups) done) (λ o g. c.reserve-2.ensures.entries.2 (o, g)) c.reserve-3.ensures.same c.reserve-4.ensures.items
    (let r = old.groups_room in omega (arith, r, more))
    (let r = old.places_room in let s = c.reserve-2.ensures.spare in omega (arith, r, s))
    (λ some. c.reserve-3.ensures.places (old.counts_room some))
    (let r = old.held_room in let l = c.reserve-4.ensures.len in let p = c.reserve-4.ensures.capacity in omega (arith, r, l, p))

pub returns-clause-groups : goal.returns-clause-groups
returns-clause-groups c = λ log old.
    let done = c.in-Ok.ensures.ok in let more = ap (λ (v : GroupsView). v.reserved) done in
    room-step c.args.self.now _ log old (ap (λ (v : GroupsView). v.groups) done) (λ o g. c.reserve-2.ensures.entries.2 (o, g)) c.reserve-3.ensures.same c.reserve-4.ensures.items
    (omega (arith, more))
    c.in_ok-reserve.ensures.ok
    (λ some. c.in_ok-reserve-2.ensures.ok)
    (let k = c.in_ok-reserve-3.ensures.ok in omega (arith, k))

use Rattle.swift_explorer.proofs.Prelude.{arith, sym, ap, ◌∙◌, Some, slice_get-get_or}
use Rattle.swift_explorer.proofs.LogsRead.{find_more, found_none}
use Rattle.swift_explorer.proofs.keys.log_digest.find.Goals as goal

pub returns-then-is_group-clause-some : goal.returns-then-is_group-clause-some
returns-then-is_group-clause-some c =
    let gs = c.args.groups.now in
    let i = c.loop-place.place in
    let v = c.index-groups-place.result in
    let same = c.is_group.ensures.same c.if-is_group.true in
    (v, slice_get-get_or gs i v c.loop-place-test.true ∙ ap Some (sym c.index-groups-place.is), same.0, same.1)

pub loop-place-preserved : goal.loop-place-preserved
loop-place-preserved c =
    let gs = c.args.groups.now in
    let i = c.loop-place.place in
    let v = c.index-groups-place.result in
    find_more gs i c.args.owner.0 c.args.group v (slice_get-get_or gs i v c.loop-place-test.true ∙ ap Some (sym c.index-groups-place.is)) (c.is_group.ensures.differs c.if-is_group.false) c.loop-place.invariant

pub returns-clause-none : goal.returns-clause-none
returns-clause-none c = λ _. found_none c.args.groups.now c.loop-place.place c.args.owner.0 c.args.group (omega (arith, c.loop-place-test.false)) c.loop-place.invariant

use Rattle.swift_explorer.proofs.Prelude.{◌+◌, List, take, take_all, sym, subst, arith, AllZip, NamedGroup, IsSameGroup}
use Rattle.std.proofs.lemmas.List.Elements.{all_zip_more}
use Rattle.swift_explorer.proofs.keys.log_digest.copy_groups.Goals as goal

pub loop-group-preserved : goal.loop-group-preserved
loop-group-preserved c =
    let groups = c.args.groups.now in
    let k = c.loop-group.group-index in
    subst (AllZip IsSameGroup (take (k + 1) groups)) (sym c.in_ok-push.ensures.items)
    (all_zip_more IsSameGroup groups c.loop-group.copy.items k c.group-item.result c.in_ok-same.same c.loop-group-test.true c.group-item.is c.loop-group.invariant c.in_ok-same.ensures)

pub returns : goal.returns
returns c = subst (λ (gs : List NamedGroup). AllZip IsSameGroup gs c.loop-group.copy.items) (take_all c.loop-group.group-index c.args.groups.now (omega (arith, c.loop-group-test.false))) c.loop-group.invariant

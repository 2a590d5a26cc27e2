use Rattle.std.proofs.Common.{◌≡◌, ◌++◌, length, rules}
use Rattle.explorer_differences.specs.Names.{called_texts}
use Rattle.explorer_differences.proofs.Naming.{called_more}
use Rattle.explorer_differences.proofs.names.put_all_called.Goals as goal

pub loop-place-preserved : goal.loop-place-preserved
loop-place-preserved c =
    let many = length c.args.endings.now in
    let number : c.in-Ok.number ≡ c.loop-place.place = search rules in
    called_more c.args.script.now c.args.endings.now c.loop-place.place many c.in-Ok.number c.loop-place.out.items c.put_called.new.out.items
    (c.args.out.now.items ++ called_texts c.args.script.now c.args.endings.now 0 many)
    c.loop-place-test.true number c.in_ok-put_called.ensures c.loop-place.invariant

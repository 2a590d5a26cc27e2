use Rattle.script_printing.proofs.Prelude.{arith, sym, take_all, after_comma}
use Rattle.script_printing.proofs.Written.{after_none, after_next}
use Rattle.script_printing.proofs.list.write_more.Goals as goal

pub loop-item-init : goal.loop-item-init
loop-item-init g c = sym (after_none c.args.out.now.items)

pub loop-item-preserved : goal.loop-item-preserved
loop-item-preserved g c =
    after_next (after_comma g.T.Write.pieces) g.T.Write.view c.args.items.now c.loop-item.item-index c.item-item.result (omega arith) c.item-item.is c.args.out.now.items c.loop-item.out.items _ c.loop-item.invariant c.in_ok-write_after_comma.ensures

pub returns : goal.returns
returns g c = rw (take_all c.loop-item.item-index c.args.items.now (omega (arith, c.loop-item-test.false))) at c.loop-item.invariant

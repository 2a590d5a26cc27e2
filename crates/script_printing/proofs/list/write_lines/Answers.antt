use Rattle.script_printing.proofs.Prelude.{◌∷◌, arith, sym, append-nil, take_all, Key, line_of}
use Rattle.script_printing.proofs.Written.{wrote_next}
use Rattle.script_printing.proofs.list.write_lines.Goals as goal

pub loop-item-init : goal.loop-item-init
loop-item-init g c = sym (append-nil c.args.out.now.items)

pub loop-item-preserved : goal.loop-item-preserved
loop-item-preserved g c =
    wrote_next (λ x. line_of (Key c.args.keyword ∷ g.T.Write.pieces x)) g.T.Write.view c.args.items.now c.loop-item.item-index c.item-item.result (omega arith) c.item-item.is c.args.out.now.items c.loop-item.out.items _ c.loop-item.invariant c.in_ok-write_line.ensures

pub returns : goal.returns
returns g c = rw (take_all c.loop-item.item-index c.args.items.now (omega (arith, c.loop-item-test.false))) at c.loop-item.invariant

use Rattle.script_printing.proofs.Prelude.{◌≡◌, map, take, flat_map, after}
use Rattle.script_printing.proofs.list.write_all.Given as goal

abbrev pub invariant-loop-item : goal.invariant-loop-item
invariant-loop-item g l = l.out.items ≡ after l.initial.out.items (flat_map g.T.Write.pieces (map g.T.Write.view (take l.item-index l.items)))

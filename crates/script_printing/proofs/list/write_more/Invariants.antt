use Rattle.script_printing.proofs.Prelude.{◌≡◌, map, take, flat_map, after_comma, after}
use Rattle.script_printing.proofs.list.write_more.Given as goal

abbrev pub invariant-loop-item : goal.invariant-loop-item
invariant-loop-item g l = l.out.items ≡ after l.initial.out.items (flat_map (after_comma g.T.Write.pieces) (map g.T.Write.view (take l.item-index l.items)))

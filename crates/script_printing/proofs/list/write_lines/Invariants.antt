use Rattle.script_printing.proofs.Prelude.{◌≡◌, ◌++◌, ◌∷◌, map, take, flat_map, Key, line_of}
use Rattle.script_printing.proofs.list.write_lines.Given as goal

abbrev pub invariant-loop-item : goal.invariant-loop-item
invariant-loop-item g l = l.out.items ≡ l.initial.out.items ++ flat_map (λ x. line_of (Key l.keyword ∷ g.T.Write.pieces x)) (map g.T.Write.view (take l.item-index l.items))

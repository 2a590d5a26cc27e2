use Rattle.swift_explorer.proofs.Prelude.{ℤ, List, [], ◌∷◌, ◌++◌, ap, ◌∙◌, arith, pos, length-map, get_or-map, rows_of, values_numbers}
use Rattle.std.specs.Global.{Vec}
use Rattle.swift_explorer.proofs.Steps.{some_step, some_all, two_writes}
use Rattle.swift_explorer.proofs.keys.frames.put_rows.Goals as goal

abbrev items_of : Vec ℤ → List ℤ
items_of row = row.items

pub loop-row-preserved : goal.loop-row-preserved
loop-row-preserved c =
    let rows = c.args.rows.now in
    let k = c.loop-row.row-index in
    let len = length-map rows items_of in
    some_step values_numbers (rows_of rows) k [] _ _ _ _ (omega (arith, len)) (get_or-map items_of rows k c.row-item.result [] (omega arith)) c.loop-row.invariant
    (two_writes c.loop-row.key.items c.push.new.self.items c.put_values.new.key.items (pos 1 ∷ []) _ c.in_ok-push.ensures.items
    (c.in_ok-put_values.ensures ∙ ap (λ (l : List ℤ). c.push.new.self.items ++ values_numbers l) (c.deref.ensures.value ∙ ap items_of c.row-item.is)))

pub returns : goal.returns
returns c =
    let len = length-map c.args.rows.now items_of in
    some_all values_numbers (rows_of c.args.rows.now) c.loop-row.row-index _ _ _ (omega (arith, len, c.loop-row-test.false)) c.loop-row.invariant c.in_ok-push-2.ensures.items

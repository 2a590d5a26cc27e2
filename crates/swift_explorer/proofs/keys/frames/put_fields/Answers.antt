use Rattle.swift_explorer.proofs.Prelude.{ℤ, List, [], ◌∷◌, ◌++◌, map, ap, ◌∙◌, arith, pos, length-map, get_or-map, rows_of, rows_numbers}
use Rattle.std.specs.Global.{Vec}
use Rattle.swift_explorer.proofs.Steps.{some_step, some_all, two_writes}
use Rattle.swift_explorer.proofs.keys.frames.put_fields.Goals as goal

abbrev rows_in : Vec (Vec ℤ) → List (List ℤ)
rows_in rows = rows_of rows.items

pub loop-rows-preserved : goal.loop-rows-preserved
loop-rows-preserved c =
    let fields = c.args.fields.now in
    let k = c.loop-rows.rows-index in
    let len = length-map fields rows_in in
    some_step rows_numbers (map rows_in fields) k [] _ _ _ _ (omega (arith, len)) (get_or-map rows_in fields k c.rows-item.result [] (omega arith)) c.loop-rows.invariant
    (two_writes c.loop-rows.key.items c.push.new.self.items c.put_rows.new.key.items (pos 1 ∷ []) _ c.in_ok-push.ensures.items
    (c.in_ok-put_rows.ensures ∙ ap (λ (l : List (Vec ℤ)). c.push.new.self.items ++ rows_numbers (rows_of l)) c.deref.ensures.value ∙ ap (λ (rows : Vec (Vec ℤ)). c.push.new.self.items ++ rows_numbers (rows_in rows)) c.rows-item.is))

pub returns : goal.returns
returns c =
    let len = length-map c.args.fields.now rows_in in
    some_all rows_numbers (map rows_in c.args.fields.now) c.loop-rows.rows-index _ _ _ (omega (arith, len, c.loop-rows-test.false)) c.loop-rows.invariant c.in_ok-push-2.ensures.items

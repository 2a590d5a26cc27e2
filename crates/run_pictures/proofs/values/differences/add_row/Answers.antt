use Rattle.run_pictures.proofs.Prelude.{◌≤◌, ◌++◌, List, length, min, append-nil, sym, ap, ◌∙◌, arith, Change}
use Rattle.run_pictures.proofs.Rows.{row_end}
use Rattle.run_pictures.proofs.values.differences.add_row.Goals as goal

pub returns : goal.returns
returns c =
    let i = c.loop-field.field in
    let changes = c.loop-field.changes.items in
    let past : min (length c.args.before.now) (length c.args.after.now) ≤ i = omega (arith, c.loop-field-test.false, c.min-field-end.ensures) in
    sym (append-nil changes)
    ∙ sym (ap (λ (d : List Change). changes ++ d) (row_end c.args.actor i c.args.before.now c.args.after.now past))
    ∙ c.loop-field.invariant

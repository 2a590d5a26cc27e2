use Rattle.run_pictures.proofs.Prelude.{◌<◌, ◌≤◌, ◌+◌, ◌++◌, ℤ, List, [], length, drop, append_assoc, append-nil, sym, ap, ap₂, ◌∙◌, arith, get_or-map, length-map, Vec, rows_of, Change, differences, row_differences}
use Rattle.run_pictures.proofs.Rows.{row_same, rows_end, rows_more, same_length}
use Rattle.run_pictures.proofs.values.differences.add_differences.Goals as goal

pub add_row_if-requires : goal.add_row_if-requires
add_row_if-requires c = λ same.
    let i = c.loop-actor.actor in
    let before = c.args.before.now in
    let after = c.args.after.now in
    let items = λ (row : Vec ℤ). row.items in
    let within : i < length before = omega (arith, c.loop-actor-test.true, c.min-actor-end.ensures) in
    let below : i < length after = omega (arith, c.loop-actor-test.true, c.min-actor-end.ensures) in
    c.deref.ensures.value
    ∙ ap items c.index-before-actor.is
    ∙ sym (get_or-map items before i c.index-before-actor.result [] within)
    ∙ row_same c.args.saved.now (rows_of before) (rows_of after) i c.requires (c.may_differ-differs.ensures same)
    ∙ get_or-map items after i c.index-after-actor.result [] below
    ∙ ap items (sym c.index-after-actor.is)
    ∙ sym c.deref-in-loop-actor.ensures.value

pub loop-actor-preserved : goal.loop-actor-preserved
loop-actor-preserved c =
    let i = c.loop-actor.actor in
    let before = c.args.before.now in
    let after = c.args.after.now in
    let items = λ (row : Vec ℤ). row.items in
    let old = c.loop-actor.changes.items in
    let within : i < length before = omega (arith, c.loop-actor-test.true, c.min-actor-end.ensures) in
    let below : i < length after = omega (arith, c.loop-actor-test.true, c.min-actor-end.ensures) in
    let first : i < length (rows_of before) = omega (arith, within, length-map before items) in
    let second : i < length (rows_of after) = omega (arith, below, length-map after items) in
    let rest = differences (i + 1) (drop (i + 1) (rows_of before)) (drop (i + 1) (rows_of after)) in
    let x = c.deref.ensures.value ∙ ap items c.index-before-actor.is ∙ sym (get_or-map items before i c.index-before-actor.result [] within) in
    let y = c.deref-in-loop-actor.ensures.value ∙ ap items c.index-after-actor.is ∙ sym (get_or-map items after i c.index-after-actor.result [] below) in
    ap (λ (zs : List Change). zs ++ rest) (c.in_ok-add_row_if.ensures ∙ ap₂ (λ (xs ys : List ℤ). old ++ row_differences i 0 xs ys) x y)
    ∙ append_assoc old _ rest
    ∙ sym (ap (λ (zs : List Change). old ++ zs) (rows_more i (rows_of before) (rows_of after) first second))
    ∙ c.loop-actor.invariant

pub returns : goal.returns
returns c =
    let i = c.loop-actor.actor in
    let before = c.args.before.now in
    let after = c.args.after.now in
    let items = λ (row : Vec ℤ). row.items in
    let changes = c.loop-actor.changes.items in
    let long = same_length c.args.saved.now (rows_of before) (rows_of after) c.requires in
    let past : length (rows_of before) ≤ i = omega (arith, c.loop-actor-test.false, c.min-actor-end.ensures, long, length-map before items, length-map after items) in
    sym (append-nil changes)
    ∙ sym (ap (λ (d : List Change). changes ++ d) (rows_end i (rows_of before) (rows_of after) long past))
    ∙ c.loop-actor.invariant

use Rattle.run_pictures.proofs.Prelude.{◌<◌, ◌≤◌, ◌+◌, ℤ, [], length, take, drop, take_all, length-set, sym, ap, ◌∙◌, arith, get_or-map, length-map, map-set, Vec, rows_of}
use Rattle.run_pictures.proofs.Rows.{at_drop_same, followed_more, left_more, row_same, same_length}
use Rattle.run_pictures.proofs.values.differences.follow.Goals as goal

pub follow_row-requires : goal.follow_row-requires
follow_row-requires c = λ same.
    let i = c.loop-actor.actor in
    let fields = c.loop-actor.fields in
    let after = c.args.after.now in
    let items = λ (row : Vec ℤ). row.items in
    let long = same_length c.args.saved.now (rows_of c.args.fields.now) (rows_of after) c.requires in
    let within : i < length fields = omega (arith, c.loop-actor-test.true, c.min-actor-end.ensures, c.loop-actor.invariant.many, length-map fields items, length-map c.args.fields.now items) in
    let below : i < length after = omega (arith, c.loop-actor-test.true, c.min-actor-end.ensures) in
    sym (get_or-map items fields i c.index-fields-actor.result [] within)
    ∙ at_drop_same (rows_of fields) (rows_of c.args.fields.now) i c.loop-actor.invariant.left
    ∙ row_same c.args.saved.now (rows_of c.args.fields.now) (rows_of after) i c.requires (c.may_differ-differs.ensures same)
    ∙ get_or-map items after i c.index-after-actor.result [] below
    ∙ ap items (sym c.index-after-actor.is)
    ∙ sym c.deref.ensures.value

pub loop-actor-preserved : goal.loop-actor-preserved
loop-actor-preserved c =
    let i = c.loop-actor.actor in
    let fields = c.loop-actor.fields in
    let after = c.args.after.now in
    let items = λ (row : Vec ℤ). row.items in
    let row = c.follow_row.new.row in
    let within : i < length (rows_of fields) = omega (arith, c.loop-actor-test.true, c.min-actor-end.ensures, c.loop-actor.invariant.many, length-map c.args.fields.now items) in
    let below : i < length (rows_of after) = omega (arith, c.loop-actor-test.true, c.min-actor-end.ensures, length-map after items) in
    let short : i < length after = omega (arith, c.loop-actor-test.true, c.min-actor-end.ensures) in
    let is = c.in_ok-follow_row.ensures ∙ c.deref.ensures.value ∙ ap items c.index-after-actor.is ∙ sym (get_or-map items after i c.index-after-actor.result [] short) in
    let set_is = map-set items fields i row in
    record {
      done = ap (take (i + 1)) set_is ∙ followed_more (rows_of fields) (rows_of after) i row.items within below c.loop-actor.invariant.done is;
      left = ap (drop (i + 1)) set_is ∙ left_more (rows_of fields) (rows_of c.args.fields.now) i row.items c.loop-actor.invariant.left;
      many = ap length set_is ∙ length-set (rows_of fields) i row.items ∙ c.loop-actor.invariant.many;
    }

pub returns : goal.returns
returns c =
    let i = c.loop-actor.actor in
    let fields = c.loop-actor.fields in
    let after = c.args.after.now in
    let items = λ (row : Vec ℤ). row.items in
    let long = same_length c.args.saved.now (rows_of c.args.fields.now) (rows_of after) c.requires in
    let first : length (rows_of fields) ≤ i = omega (arith, c.loop-actor-test.false, c.min-actor-end.ensures, c.loop-actor.invariant.many, long, length-map c.args.fields.now items, length-map after items) in
    let second : length (rows_of after) ≤ i = omega (arith, c.loop-actor-test.false, c.min-actor-end.ensures, long, length-map c.args.fields.now items, length-map after items) in
    sym (take_all i (rows_of fields) first) ∙ c.loop-actor.invariant.done ∙ take_all i (rows_of after) second

use Rattle.swift_certificate.proofs.Prelude.{◌∙◌, ℤ, List, [], ◌∷◌, ◌++◌, Vec, get_or, take, take_all, refl, sym, ap, arith, Global, map_more, rows_of}
use Rattle.swift_certificate.proofs.ends.are_same_fields.Goals as goal

pub loop-place-preserved : goal.loop-place-preserved
loop-place-preserved c =
    let rows = c.args.rows.now in
    let others = c.args.others.now in
    let k = c.loop-place.place in
    let row = c.index-rows-place.result in
    let other = c.index-others-place.result in
    let items = λ (row : Vec ℤ Global). row.items in
    let same = ap items (sym c.index-rows-place.is) ∙ sym c.deref.ensures.value ∙ c.if-not-is_same_row.ensures refl ∙ c.deref-in-loop-place.ensures.value ∙ ap items c.index-others-place.is in
    map_more items rows k row c.loop-place-test.true
    ∙ ap (λ (front : List (List ℤ)). front ++ (get_or rows k row).items ∷ []) c.loop-place.invariant
    ∙ ap (λ (r : List ℤ). rows_of (take k others) ++ r ∷ []) same
    ∙ sym (map_more items others k other (omega (arith, c.loop-place-test.true, c.if-rows-others.false)))

pub returns : goal.returns
returns c = λ _.
    (let rows = take_all c.loop-place.place c.args.rows.now (omega (arith, c.loop-place-test.false)) in
    let others = take_all c.loop-place.place c.args.others.now (omega (arith, c.loop-place-test.false, c.if-rows-others.false)) in
    sym (ap rows_of rows) ∙ c.loop-place.invariant ∙ ap rows_of others)

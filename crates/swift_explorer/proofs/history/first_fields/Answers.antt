use Rattle.swift_explorer.proofs.Prelude.{rules, ◌≡◌, ◌∙◌, ℤ, List, [], ◌∷◌, ◌++◌, Vec, map, sym, ap, Global, range_with_len, map_push, rows_of, executor_start, range_next}
use Rattle.swift_explorer.proofs.history.first_fields.Goals as goal

pub loop-place-preserved : goal.loop-place-preserved
loop-place-preserved c =
    let script = c.args.script.now in
    let k = c.loop-place.place in
    let new = c.in_ok-executor_start.field-0 in
    let f = λ (rows : Vec (Vec ℤ Global) Global). rows_of rows.items in
    let is : rows_of new.items ≡ executor_start script k = search rules in
    ap (map f) c.in_ok-push.ensures.items
    ∙ map_push f c.loop-place.fields.items new
    ∙ ap (λ (front : List (List (List ℤ))). front ++ rows_of new.items ∷ []) c.loop-place.invariant
    ∙ ap (λ (r : List (List ℤ)). map (executor_start script) (range_with_len 0 k) ++ r ∷ []) is
    ∙ sym (map_push (executor_start script) (range_with_len 0 k) k)
    ∙ ap (map (executor_start script)) (range_next k)

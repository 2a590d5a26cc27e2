use Rattle.run_page.proofs.Prelude.{ℕ, ◌+◌, ◌++◌, List, drop, sym, ap, ◌∙◌, append_assoc, at_drop_more, values_view, values_views, turn_json, turns_json}
use Rattle.run_page.proofs.values.turns.Goals as goal

pub loop-place-preserved : goal.loop-place-preserved
loop-place-preserved c =
    let p = c.args.script.now in
    let e = c.args.executor.0 in
    let k = c.loop-place.place in
    let old = c.loop-place.out.items in
    let v = c.index-values-place.result in
    let rest = turns_json p e (k + 1) (values_views (drop (k + 1) c.args.values.now)) in
    ap (λ (xs : List ℕ). xs ++ rest) c.in_ok-turn.ensures
    ∙ append_assoc old _ rest
    ∙ ap (λ x. old ++ (turn_json p e k (values_view x) ++ rest)) c.index-values-place.is
    ∙ sym (at_drop_more (λ vs. old ++ turns_json p e k (values_views vs)) c.args.values.now k v c.loop-place-test.true)
    ∙ c.loop-place.invariant

use Rattle.explorer_json.proofs.Prelude.{ℕ, ◌+◌, ◌++◌, List, drop, sym, ap, ◌∙◌, append_assoc, at_drop_more, steps_json}
use Rattle.swift_explorer.specs.declared.moves.Move.TheVariants as step
use Rattle.explorer_json.proofs.schedule.put_steps.Goals as goal

pub loop-place-preserved : goal.loop-place-preserved
loop-place-preserved c =
    let path = c.args.path.now in
    let k = c.loop-place.place in
    let old = c.loop-place.out.items in
    let rest = steps_json path (k + 1) (drop (k + 1) path) in
    ap (λ (xs : List ℕ). xs ++ rest) c.in_ok-put_next.ensures
    ∙ append_assoc old _ rest
    ∙ sym (at_drop_more (λ ms. old ++ steps_json path k ms) path k step.Add c.loop-place-test.true)
    ∙ c.loop-place.invariant

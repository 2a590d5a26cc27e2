use Rattle.swift_report.proofs.Prelude.{ℕ, ◌+◌, ◌++◌, List, drop, sym, ap, ◌∙◌, append_assoc, at_drop_more, slice_get, folded_count, comma, executor_json, executors_json}
use Rattle.swift_report.proofs.json.turns.executors.Goals as goal

pub loop-place-preserved : goal.loop-place-preserved
loop-place-preserved c =
    let p = c.args.script.now in
    let k = c.loop-place.place in
    let old = c.loop-place.out.items in
    let j = c.index-journals-place.result in
    let rest = executors_json p c.args.checkpoints.now (k + 1) (drop (k + 1) c.args.journals.now) in
    ap (λ (xs : List ℕ). xs ++ rest) (c.in_ok-listed_executor.ensures ∙ ap (λ (n : ℕ). old ++ (comma 0 k ++ executor_json p k n j)) c.folded_at.ensures.count)
    ∙ append_assoc old _ rest
    ∙ ap (λ journal. old ++ ((comma 0 k ++ executor_json p k (folded_count (slice_get c.args.checkpoints.now k)) journal) ++ rest)) c.index-journals-place.is
    ∙ sym (at_drop_more (λ js. old ++ executors_json p c.args.checkpoints.now k js) c.args.journals.now k j c.loop-place-test.true)
    ∙ c.loop-place.invariant

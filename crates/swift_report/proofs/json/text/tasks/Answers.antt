use Rattle.swift_report.proofs.Prelude.{ℕ, ◌+◌, ◌++◌, List, drop, sym, ap, ◌∙◌, append_assoc, at_drop_more, tasks_json}
use Rattle.swift_report.proofs.json.text.tasks.Goals as goal

pub loop-number_of-preserved : goal.loop-number_of-preserved
loop-number_of-preserved c =
    let p = c.args.script.now in
    let k = c.loop-number_of.number_of in
    let old = c.loop-number_of.out.items in
    let rest = tasks_json p (k + 1) (drop (k + 1) c.args.endings.now) in
    ap (λ (xs : List ℕ). xs ++ rest) c.in_ok-task.ensures
    ∙ append_assoc old _ rest
    ∙ sym (at_drop_more (λ ts. old ++ tasks_json p k ts) c.args.endings.now k _ c.loop-number_of-test.true)
    ∙ c.loop-number_of.invariant

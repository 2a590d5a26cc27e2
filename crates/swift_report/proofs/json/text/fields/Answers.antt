use Rattle.swift_report.proofs.Prelude.{ℕ, ℤ, ◌+◌, ◌-◌, ◌++◌, List, sym, ap, ◌∙◌, append_assoc, arith, actor_count, actor_json, fields_json}
use Rattle.swift_report.proofs.JsonRows.{fields_from}
use Rattle.swift_report.proofs.json.text.fields.Goals as goal

pub loop-actor-preserved : goal.loop-actor-preserved
loop-actor-preserved c =
    let p = c.args.script.now in
    let k = c.loop-actor.actor in
    let n = actor_count p in
    let rest = fields_json p c.args.fields.now (k + 1) (n - (k + 1)) in
    ap (λ (xs : List ℕ). xs ++ rest) c.in_ok-actor_fields.ensures
    ∙ append_assoc c.loop-actor.out.items (actor_json p k c.row_of-row.result.now) rest
    ∙ ap (λ (row : List ℤ). c.loop-actor.out.items ++ (actor_json p k row ++ rest)) c.row_of-row.ensures
    ∙ ap (λ (xs : List ℕ). c.loop-actor.out.items ++ xs) (sym (fields_from p c.args.fields.now k n (omega (arith, c.loop-actor-test.true, c.actor_count-actor-end.ensures))))
    ∙ c.loop-actor.invariant

use Rattle.swift_report.proofs.Prelude.{◌≡◌, ℕ, ℤ, ◌+◌, ◌++◌, List, drop, get_or, pos, sym, ap, ◌∙◌, append_assoc, rules, w64, to_z, of_z, at_drop_more, field_json, values_json}
use Rattle.swift_report.proofs.json.text.values.Goals as goal

pub loop-place-preserved : goal.loop-place-preserved
loop-place-preserved c =
    let p = c.args.script.now in
    let k = c.loop-place.place in
    let old = c.loop-place.out.items in
    let rest = values_json p c.args.actor (k + 1) (drop (k + 1) c.args.values.now) in
    let v : ℤ = get_or c.args.values.now k (pos 0) in
    let value : to_z w64 (of_z w64 v) ≡ v = search rules in
    ap (λ (xs : List ℕ). xs ++ rest) (c.in_ok-field.ensures ∙ ap (λ (z : ℤ). old ++ field_json p c.args.actor k z) value)
    ∙ append_assoc old (field_json p c.args.actor k v) rest
    ∙ sym (at_drop_more (λ vs. old ++ values_json p c.args.actor k vs) c.args.values.now k (pos 0) c.loop-place-test.true)
    ∙ c.loop-place.invariant

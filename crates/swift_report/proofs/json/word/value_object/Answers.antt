use Rattle.swift_report.proofs.Prelude.{◌≡◌, ℤ, ◌++◌, ap, ◌∙◌, rules, w64, to_z, of_z, codes, value_json}
use Rattle.swift_report.proofs.Pieces.{three_joined}
use Rattle.swift_report.proofs.json.word.value_object.Goals as goal

pub returns : goal.returns
returns c =
    let x1 = c.say.new.out.items in
    let same : to_z w64 (of_z w64 c.args.given) ≡ c.args.given = search rules in
    three_joined c.say-2.result c.args.out.now.items x1 c.value.new.out.items c.say-2.new.out.items
    (codes "{\"is\":\"value\"") (value_json c.args.given) (codes "}")
    c.in_ok-say.ensures (c.in_ok-value.ensures ∙ ap (λ (z : ℤ). x1 ++ value_json z) same) c.say-2.ensures

use Rattle.std.proofs.Common.{◌∙◌, ◌-◌, ◌≤◌, List, ℕ, arith, codes, refl, subst, sym}
use Rattle.swift_translation.specs.ValueTexts.{deep_text}
use Rattle.swift_translation.specs.Words.{operator_text}
use Rattle.swift_translation.specs.WritingInside.{GoesOn}
use Rattle.swift_translation.proofs.Values.{binary_text}
use Rattle.swift_translation.proofs.Writes.{five}
use Rattle.swift_translation.proofs.value.+write_at.Goals as goal

pub returns-in-Binary : goal.returns-in-Binary
returns-in-Binary t c =
    let some : 1 ≤ c.args.depth = omega arith in
    subst (λ (x : List ℕ). GoesOn c.args.out.now c.say-in-Binary-3.new.self x)
    (sym (binary_text c.args.at.now c.args.depth (c.args.depth - 1) c.args.place c.in-Binary.operator c.in-Binary.left c.in-Binary.right some refl (sym c.value_at.ensures ∙ c.in-Binary.is)))
    (five c.args.out.now c.say-in-Binary.new.self c.write_at-in-Binary.new.out c.say-in-Binary-2.new.self c.write_at-in-Binary-2.new.out c.say-in-Binary-3.new.self
    (codes "(") (deep_text c.args.at.now (c.args.depth - 1) c.in-Binary.left) (operator_text c.in-Binary.operator) (deep_text c.args.at.now (c.args.depth - 1) c.in-Binary.right) (codes ")")
    c.say-in-Binary.ensures c.write_at-in-Binary.ensures (rw c.spelling.ensures at c.say-in-Binary-2.ensures) c.write_at-in-Binary-2.ensures c.say-in-Binary-3.ensures)

use Rattle.std.proofs.Common.{refl}
use Rattle.swift_syntax.proofs.actor.literal.Goals as goal

pub returns-else-not-is_literal-clause-spelled : goal.returns-else-not-is_literal-clause-spelled
returns-else-not-is_literal-clause-spelled c = λ n xs.
    let d = c.expression-found.ensures.spelled n in
    record { value = d.tree; such = c.if-not-is_literal.ensures refl _ _ d.tree d.spelled d.stands; spelled = d.spelled; stands = d.stands }

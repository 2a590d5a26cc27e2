use Rattle.std.proofs.Common.{sym}
use Rattle.swift_syntax.specs.DeclaringInside.{says_none, says_test}
use Rattle.swift_syntax.proofs.actor.test_of.Goals as goal

pub returns-then-not-is_invariant-clause-says : goal.returns-then-not-is_invariant-clause-says
returns-then-not-is_invariant-clause-says c = λ n. says_none (sym c.if-not-is_invariant.ensures)

pub returns-clause-says : goal.returns-clause-says
returns-clause-says c = λ n.
    let lone = c.lone_value-test.ensures (c.want_test.ensures.found n) in
    says_test (sym c.if-not-is_invariant.ensures) (c.want_test.ensures.is_async n) lone.0 lone.1

use Rattle.std.proofs.Common.{◌≡◌, List, ℕ, [], ◌++◌, arith, ap, append-nil, subst}
use Rattle.swift_syntax.specs.declared.tree.ExpectDecl.{ExpectDecl}
use Rattle.swift_expressions.specs.States.{state_of}
use Rattle.swift_lowering.specs.Files.{AsksAll, AsksExpectation}
use Rattle.swift_lowering.proofs.Filed.{asked_on, none_asked}
use Rattle.swift_lowering.proofs.file.lower_expectations.Goals as goal

pub loop-expectation-preserved : goal.loop-expectation-preserved
loop-expectation-preserved c = record {
  refused = λ n. c.loop-expectation.invariant.refused (c.lower_expectation-value.ensures.refused (c.keep_value.ensures.refused n));
  goes_on = λ t more n rest.
      let n1 = c.keep_value.ensures.refused n in
      asked_on AsksExpectation c.args.expectations.now c.loop-expectation.expectation-index _ c.loop-expectation.values.items c.lower_expectation-value.result c.loop-expectation-test.true (c.lower_expectation-value.ensures.asks n1) (c.keep_value.ensures.state n) (c.keep_value.ensures.kept n) (λ vs h. c.loop-expectation.invariant.goes_on t vs (c.lower_expectation-value.ensures.refused n1) h) rest;
}

pub returns-clause-asks : goal.returns-clause-asks
returns-clause-asks c = λ n.
    let values = c.loop-expectation.values.items in
    subst (λ (vs : List ℕ). AsksAll ExpectDecl AsksExpectation c.args.expectations.now (state_of c.args.lowering.now) (state_of c.loop-expectation.lowering) vs) (append-nil values)
    (c.loop-expectation.invariant.goes_on _ [] n (none_asked AsksExpectation c.loop-expectation.expectation-index c.args.expectations.now _ (omega (arith, c.loop-expectation-test.false))))

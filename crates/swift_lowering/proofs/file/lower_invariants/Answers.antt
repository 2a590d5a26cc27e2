use Rattle.std.proofs.Common.{◌≡◌, List, ℕ, [], ◌++◌, arith, ap, append-nil, subst}
use Rattle.swift_syntax.specs.declared.tree.InvariantDecl.{InvariantDecl}
use Rattle.swift_expressions.specs.States.{state_of}
use Rattle.swift_lowering.specs.Files.{AsksAll, AsksInvariant}
use Rattle.swift_lowering.proofs.Filed.{asked_on, none_asked}
use Rattle.swift_lowering.proofs.file.lower_invariants.Goals as goal

pub loop-invariant-preserved : goal.loop-invariant-preserved
loop-invariant-preserved c = record {
  refused = λ n. c.loop-invariant.invariant.refused (c.lower_invariant-value.ensures.refused (c.keep_value.ensures.refused n));
  goes_on = λ t more n rest.
      let n1 = c.keep_value.ensures.refused n in
      asked_on AsksInvariant c.args.invariants.now c.loop-invariant.invariant-index _ c.loop-invariant.values.items c.lower_invariant-value.result c.loop-invariant-test.true (c.lower_invariant-value.ensures.asks n1) (c.keep_value.ensures.state n) (c.keep_value.ensures.kept n) (λ vs h. c.loop-invariant.invariant.goes_on t vs (c.lower_invariant-value.ensures.refused n1) h) rest;
}

pub returns-clause-asks : goal.returns-clause-asks
returns-clause-asks c = λ n.
    let values = c.loop-invariant.values.items in
    subst (λ (vs : List ℕ). AsksAll InvariantDecl AsksInvariant c.args.invariants.now (state_of c.args.lowering.now) (state_of c.loop-invariant.lowering) vs) (append-nil values)
    (c.loop-invariant.invariant.goes_on _ [] n (none_asked AsksInvariant c.loop-invariant.invariant-index c.args.invariants.now _ (omega (arith, c.loop-invariant-test.false))))

use Rattle.std.proofs.Common.{sym, length, arith}
use Rattle.swift_lowering.specs.Catching as catching
use Rattle.swift_lowering.proofs.Caught.{handed_begun, handed_on, handed_spent}
use Rattle.swift_lowering.proofs.catching.hand_over.Goals as goal

pub loop-init : goal.loop-init
loop-init c = record { refused = λ n. n; hands = λ n t found h. handed_begun h }

pub loop-preserved : goal.loop-preserved
loop-preserved c = record {
  refused = λ n3. c.loop.invariant.refused (c.variable-variable.ensures.refused (c.with_kind-given.ensures.refused (c.operand-last.ensures.refused n3)));
  hands = λ n3 t found h.
      let n2 = c.operand-last.ensures.refused n3 in
      let n1 = c.with_kind-given.ensures.refused n2 in
      c.loop.invariant.hands (c.variable-variable.ensures.refused n1) t found (handed_on {n = length c.args.lowering.now.code.operands.items} (omega (arith, c.loop-test.true, c.len-end.ensures, c.args.lowering.now.code.operands.ok.0)) (sym c.in-Some.ensures) (c.variable-variable.ensures.declared n1) c.variable-variable.ensures.place (c.with_kind-given.ensures.gives n2) (c.operand-last.ensures.state n3) c.operand-last.ensures.place c.begin_or-begin.ensures h);
}

pub returns-in_default-clause-hands : goal.returns-in_default-clause-hands
returns-in_default-clause-hands c = λ n. c.loop.invariant.hands n _ _ (catching.no_more (sym c.in_default.ensures))

pub returns-clause-hands : goal.returns-clause-hands
returns-clause-hands c = λ n. c.loop.invariant.hands n _ _ (handed_spent {n = length c.args.lowering.now.code.operands.items} {i = c.loop.counter} (omega (arith, c.loop-test.false, c.len-end.ensures, c.args.lowering.now.code.operands.ok.0)))

use Rattle.swift_expressions.proofs.Grown.{on, puts, same, stays, to}
use Rattle.swift_lowering.proofs.print.print_values.Goals as goal

pub loop-init : goal.loop-init
loop-init c = record { grows = λ n. stays _; refused = λ n. n }

pub loop-preserved : goal.loop-preserved
loop-preserved c = record {
  grows = λ n2. let n1 = c.put.ensures.refused n2 in let n0 = c.print_at-number.ensures.refused n1 in on (c.loop.invariant.grows n0) (to (c.put.ensures.state n2) (puts _ (same (c.print_at-number.ensures.state n1))));
  refused = λ n2. c.loop.invariant.refused (c.print_at-number.ensures.refused (c.put.ensures.refused n2));
}

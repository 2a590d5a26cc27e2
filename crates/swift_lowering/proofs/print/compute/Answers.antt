use Rattle.swift_expressions.proofs.Grown.{on, stays}
use Rattle.swift_lowering.proofs.print.compute.Goals as goal

pub loop-init : goal.loop-init
loop-init c = record { grows = λ n. stays _; refused = λ n. n }

pub loop-preserved : goal.loop-preserved
loop-preserved c = record {
  grows = λ n. on (c.loop.invariant.grows (c.compute_one-last.ensures.refused n)) (c.compute_one-last.ensures.grows n);
  refused = λ n. c.loop.invariant.refused (c.compute_one-last.ensures.refused n);
}

use Rattle.swift_lowering.specs.Closures as closures
use Rattle.swift_lowering.proofs.Enclosed.{captured_more}
use Rattle.swift_lowering.proofs.capture.capture_all.Goals as goal

pub loop-token-init : goal.loop-token-init
loop-token-init c = record { refused = λ n. n; captures = λ n. closures.none_so_far }

pub loop-token-preserved : goal.loop-token-preserved
loop-token-preserved c = record {
  refused = λ n. c.loop-token.invariant.refused (c.capture-next.ensures.refused n);
  captures = λ n. captured_more c.begin_or-first.ensures (c.loop-token.invariant.captures (c.capture-next.ensures.refused n)) (c.capture-next.ensures.captures n);
}

pub returns-clause-captures : goal.returns-clause-captures
returns-clause-captures c = λ n. (c.loop-token.last, c.loop-token.invariant.captures n)

use Rattle.nuchapay_runs.proofs.Prelude.{◌≡◌, drop, awaited_at}
use Rattle.nuchapay_runs.proofs.statement.awaited_at.Given as goal

abbrev pub invariant-loop-instruction : goal.invariant-loop-instruction
invariant-loop-instruction l = awaited_at (drop l.instruction-index l.instructions) l.line ≡ awaited_at l.instructions l.line

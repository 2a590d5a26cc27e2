use Rattle.script_compiler.proofs.Prelude.{ℕ, ◌≤◌, ◌<◌, get_or}
use Rattle.script_compiler.proofs.waits.past_roots.Given as goal

abbrev pub invariant-loop-method : goal.invariant-loop-method
invariant-loop-method l = record {
  least : l.least ≤ l.count;
  method : (k d : ℕ) → k < l.method-index → get_or l.methods k d < l.count;
}

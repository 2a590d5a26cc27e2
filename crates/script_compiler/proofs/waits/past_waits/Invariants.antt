use Rattle.script_compiler.proofs.Prelude.{ℕ, ◌≤◌, ◌<◌, get_or, RootWait}
use Rattle.script_compiler.proofs.waits.past_waits.Given as goal

abbrev pub invariant-loop-wait : goal.invariant-loop-wait
invariant-loop-wait l = record {
  least : l.least ≤ l.count;
  method : (k : ℕ) (d : RootWait) → k < l.wait-index → (get_or l.waits k d).method < l.count;
}

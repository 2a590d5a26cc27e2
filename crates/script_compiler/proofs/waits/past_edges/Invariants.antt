use Rattle.script_compiler.proofs.Prelude.{ℕ, ◌≤◌, ◌<◌, get_or, CallEdge}
use Rattle.script_compiler.proofs.waits.past_edges.Given as goal

abbrev pub invariant-loop-edge : goal.invariant-loop-edge
invariant-loop-edge l = record {
  least : l.least ≤ l.count;
  from : (k : ℕ) (d : CallEdge) → k < l.edge-index → (get_or l.edges k d).from < l.count;
  to : (k : ℕ) (d : CallEdge) → k < l.edge-index → (get_or l.edges k d).to < l.count;
}

use Rattle.script_compiler.proofs.Prelude.{◌≡◌, ◌++◌, drop, edges_made, waits_made, made_through}
use Rattle.script_compiler.proofs.waits.named_by.Given as goal

abbrev pub invariant-loop-k : goal.invariant-loop-k
invariant-loop-k l = record {
  edges : l.named.edges.items ++ made_through edges_made l.k (drop l.k l.methods) ≡ made_through edges_made 0 l.methods;
  waits : l.named.waits.items ++ made_through waits_made l.k (drop l.k l.methods) ≡ made_through waits_made 0 l.methods;
}

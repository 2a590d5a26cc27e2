use Rattle.script_compiler.proofs.Prelude.{◌≡◌, ◌++◌, drop, edges_made, waits_made, made_along}
use Rattle.script_compiler.proofs.waits.add_method.Given as goal

abbrev pub invariant-loop-instruction : goal.invariant-loop-instruction
invariant-loop-instruction l = record {
  edges : l.named.edges.items ++ made_along (edges_made l.method) (drop l.instruction-index l.instructions) ≡ l.initial.named.edges.items ++ made_along (edges_made l.method) l.instructions;
  waits : l.named.waits.items ++ made_along (waits_made l.method) (drop l.instruction-index l.instructions) ≡ l.initial.named.waits.items ++ made_along (waits_made l.method) l.instructions;
}

use Rattle.script_compiler.proofs.Prelude.{◌≡◌, ◌++◌, map, drop, root_view}
use Rattle.script_compiler.proofs.waits.methods_of.Given as goal

abbrev pub invariant-loop-root : goal.invariant-loop-root
invariant-loop-root l = l.methods.items ++ map (λ r. r.method) (map root_view (drop l.root-index l.roots)) ≡ map (λ r. r.method) (map root_view l.roots)

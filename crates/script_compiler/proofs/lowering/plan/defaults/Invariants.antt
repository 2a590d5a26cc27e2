use Rattle.script_compiler.proofs.Prelude.{◌≡◌, ◌++◌, drop, map, view_decl, defaults_in}
use Rattle.script_compiler.proofs.lowering.plan.defaults.Given as goal

abbrev pub invariant-loop-decl : goal.invariant-loop-decl
invariant-loop-decl l = l.defaults.items ++ defaults_in (map view_decl (drop l.decl-index l.decls)) ≡ defaults_in (map view_decl l.decls)

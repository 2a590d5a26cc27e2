use Rattle.script_names.proofs.Prelude.{◌≡◌, drop, map, view_decl, with_decls, directory_of}
use Rattle.script_names.proofs.directory.Declared.of.Given as goal

abbrev pub invariant-loop-decl : goal.invariant-loop-decl
invariant-loop-decl l = with_decls (map view_decl (drop l.decl-index l.decls)) l.declared ≡ directory_of (map view_decl l.decls)

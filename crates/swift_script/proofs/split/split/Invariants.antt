use Rattle.swift_script.proofs.Prelude.{◌≡◌, map, view_decl, script_in, tree_of}
use Rattle.swift_script.proofs.split.split.Given as goal

abbrev pub invariant-loop-decl : goal.invariant-loop-decl
invariant-loop-decl l = tree_of l.split ≡ script_in (map view_decl l.yielded)

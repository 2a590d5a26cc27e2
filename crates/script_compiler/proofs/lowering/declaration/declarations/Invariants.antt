use Rattle.script_compiler.proofs.Prelude.{◌≡◌, ◌≤◌, [], drop, map, BYTES, view_decl, script_size, declarations_error, past_decls, names_in, script_in}
use Rattle.script_compiler.proofs.PartsMade.{ArePartsOf}
use Rattle.script_compiler.proofs.lowering.declaration.declarations.Given as goal

abbrev pub invariant-loop-decl : goal.invariant-loop-decl
invariant-loop-decl l = record {
  errors : declarations_error l.plan.directory l.seen l.at (map view_decl (drop l.decl-index l.decls)) ≡ declarations_error l.plan.directory (record { places = []; locals = []; roots = []; executors = 0; actors = 0 }) 0 (map view_decl l.decls);
  after : past_decls (map view_decl (drop l.decl-index l.decls)) l.at ≡ names_in (map view_decl l.decls);
  size : script_size (map view_decl (drop l.decl-index l.decls)) ≤ BYTES;
  parts : ArePartsOf l.plan l.seen.actors (script_in (map view_decl (drop l.decl-index l.decls))) (script_in (map view_decl l.decls)) l.parts;
}

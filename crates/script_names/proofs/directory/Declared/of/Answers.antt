use Rattle.script_names.proofs.Prelude.{map, sym, ◌∙◌, arith, at_drop_all, view_decl, with_decls}
use Rattle.script_names.proofs.directory.Declared.of.Goals as goal

pub returns : goal.returns
returns c =
    sym (at_drop_all (λ ds. with_decls (map view_decl ds) c.loop-decl.declared) c.args.decls.now c.loop-decl.decl-index (omega (arith, c.loop-decl-test.false))) ∙ c.loop-decl.invariant

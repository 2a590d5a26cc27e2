use Rattle.script_compiler.proofs.Prelude.{◌++◌, ◌∙◌, List, map, sym, length, append-nil, at_drop_all, Decl, view_decl, script_in, executor_view, executors_by}
use Rattle.script_compiler.proofs.executors.compile_declared.Goals as goal

pub returns-clause-view : goal.returns-clause-view
returns-clause-view c =
    sym (append-nil (map executor_view c.loop-decl.all.items))
    ∙ sym (at_drop_all (λ (xs : List Decl). map executor_view c.loop-decl.all.items ++ executors_by c.args.plan.now (length c.args.actors.now) (length c.loop-decl.all.items) (script_in (map view_decl xs)).executors) c.args.decls.now c.loop-decl.decl-index c.loop-decl-test.false)
    ∙ c.loop-decl.invariant.view

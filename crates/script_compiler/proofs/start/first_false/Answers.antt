use Rattle.script_compiler.proofs.Prelude.{List, map, ap, ◌∙◌, CompiledActor, CompiledExecutor, actor_view, executor_view, rows_in, all_rows_of, first_false_in}
use Rattle.script_compiler.proofs.Starting.{first_of}
use Rattle.script_compiler.proofs.start.first_false.Goals as goal

pub returns : goal.returns
returns c = λ v is.
    let compiled = c.args.compiled.now in
    first_of compiled v (all_rows_of c.in_ok-all.all.items) c.first_false_among.result is (
    c.in_ok-all.ensures
    ∙ ap (λ (xs : List CompiledExecutor). rows_in (map executor_view xs) (map actor_view c.deref-2.result.now)) c.deref.ensures.value
    ∙ ap (λ (xs : List CompiledActor). rows_in (map executor_view compiled.executors.items) (map actor_view xs)) c.deref-2.ensures.value
    ) (
    c.first_false_among.ensures
    ∙ ap (λ all. first_false_in (all_rows_of all) 0 (map actor_view c.deref-4.result.now)) c.deref-3.ensures.value
    ∙ ap (λ (xs : List CompiledActor). first_false_in (all_rows_of c.in_ok-all.all.items) 0 (map actor_view xs)) c.deref-4.ensures.value
    )

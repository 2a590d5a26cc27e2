use Rattle.script_compiler.proofs.Prelude.{◌++◌, [], length, take, map, sym, ap, subst, ◌∙◌, arith, length-map, ACTORS, view_decl, HasFewNames, err_from_is_err_and, script_fails, DirectoryView, declarations_error, script_in, own_executors, PlanView, Compiled, compiled_by, actor_view, IsCompiled}
use Rattle.script_compiler.specs.Plan.{executors_from}
use Rattle.script_compiler.specs.Compiled.{compiled_of}
use Rattle.script_compiler.proofs.ByKinds.{plan_made}
use Rattle.script_compiler.proofs.InOrder.{few_actors}
use Rattle.script_compiler.proofs.Room.{few_names}
use Rattle.script_compiler.proofs.ExecutorsMade.{as_many, by_actors, same_invariants}
use Rattle.script_compiler.proofs.compiling.compile.Goals as goal

pub of-requires-2 : goal.of-requires-2
of-requires-2 c = record { names = subst HasFewNames (sym c.in_ok-declared.ensures) (few_names (map view_decl c.args.decls.now) c.requires.size) }

pub returns-in_err-parts-clause-finds : goal.returns-in_err-parts-clause-finds
returns-in_err-parts-clause-finds c =
    let p = err_from_is_err_and c.from_residual-in_err-parts.result c.from_residual-in_err-parts.ensures.1 in
    rw (p.1, p.2) (script_fails c.in_ok-plan.plan.directory (map view_decl c.args.decls.now) c.in_err-parts.field-0.0 (c.in_ok-plan.ensures.directory ∙ c.in_ok-declared.ensures) c.in_err-parts.ensures.finds)

pub compile_executors-requires : goal.compile_executors-requires
compile_executors-requires c =
    let decls = map view_decl c.args.decls.now in
    let same = c.in_ok-plan.ensures.directory ∙ c.in_ok-declared.ensures in
    let ok = sym (ap (λ (d : DirectoryView). declarations_error d (record { places = []; locals = []; roots = []; executors = 0; actors = 0 }) 0 decls) same) ∙ c.in_ok-parts.ensures.finds in
    omega (arith, few_actors decls ok, ap length c.in_ok-parts.ensures.actors, length-map c.in_ok-parts.parts.actors.items actor_view, as_many c.in_ok-plan.plan 0 (script_in decls).actors, ap length c.deref.ensures.value)

pub returns-clause-finds : goal.returns-clause-finds
returns-clause-finds c =
    let decls = map view_decl c.args.decls.now in
    let same = c.in_ok-plan.ensures.directory ∙ c.in_ok-declared.ensures in
    sym (ap (λ (d : DirectoryView). declarations_error d (record { places = []; locals = []; roots = []; executors = 0; actors = 0 }) 0 decls) same) ∙ c.in_ok-parts.ensures.finds

pub returns-clause-compiled : goal.returns-clause-compiled
returns-clause-compiled c =
    let decls = map view_decl c.args.decls.now in
    let tree = script_in decls in
    let plan = c.in_ok-plan.plan in
    let parts = c.in_ok-parts.parts in
    let serial = c.in_ok-executors.executors in
    let same = c.in_ok-plan.ensures.directory ∙ c.in_ok-declared.ensures in
    let ok = sym (ap (λ (d : DirectoryView). declarations_error d (record { places = []; locals = []; roots = []; executors = 0; actors = 0 }) 0 decls) same) ∙ c.in_ok-parts.ensures.finds in
    let named = c.in_ok-plan.ensures.executors ∙ ap (λ (d : DirectoryView). take ACTORS (executors_from d.executors (length d.executors) decls)) c.in_ok-declared.ensures in
    let made : IsCompiled (record { executors = serial; locals = parts.locals; actors = parts.actors; methods = parts.methods; roots = parts.roots }) (compiled_by plan tree) =
    record {
      executors = by_actors plan c.deref.result.now parts.actors.items tree.actors (tree.executors ++ own_executors tree.actors) _ c.deref.ensures.value c.in_ok-parts.ensures.actors c.in_ok-executors.ensures.view;
      invariants = same_invariants serial.items c.deref.result.now parts.actors.items _ c.deref.ensures.value c.in_ok-parts.ensures.actors c.in_ok-executors.ensures.invariants;
      locals = c.in_ok-parts.ensures.locals;
      actors = c.in_ok-parts.ensures.actors;
      methods = c.in_ok-parts.ensures.methods;
      roots = c.in_ok-parts.ensures.roots;
    } in
    subst (λ (r : Compiled). IsCompiled r (compiled_of tree)) (sym c.with_executors.ensures)
    (subst (λ (p : PlanView). IsCompiled (record { executors = serial; locals = parts.locals; actors = parts.actors; methods = parts.methods; roots = parts.roots }) (compiled_by p tree)) (plan_made decls plan ok same c.in_ok-plan.ensures.defaults named) made)

use Rattle.script_compiler.proofs.Prelude.{◌++◌, List, take, map, sym, ap, ◌∙◌, arith, append-nil, at_drop_all, take_all, ACTORS, Decl, view_decl}
use Rattle.script_compiler.specs.Plan.{executors_from}
use Rattle.script_compiler.proofs.ExecutorsMade.{executor_passed}
use Rattle.script_compiler.proofs.Steps.{front}
use Rattle.script_compiler.proofs.lowering.plan.executors.Goals as goal
use Rattle.script_compiler.proofs.lowering.plan.executors.Goals.{then-len-lt-ACTORS+in_ok-own, else-len-lt-ACTORS}

pub loop-decl-preserved : goal.loop-decl-preserved
loop-decl-preserved c =
    let names = c.args.declared.now.executors in
    let before = c.loop-decl.invariant in
    let left = front c.args.decls.now c.loop-decl.decl-index c.decl-item.result c.loop-decl-test.true c.decl-item.is in
    let whole = ap (λ (ds : List Decl). take ACTORS (c.loop-decl.executors.items ++ executors_from names c.loop-decl.own (map view_decl ds))) (sym left) ∙ before.executors in
    elim c.if-len-lt-ACTORS.branch [
      | then-len-lt-ACTORS+in_ok-own w ↦ rw (w.executors-is, w.own-is) record {
        executors = ap (take ACTORS) (w.in_ok-own.ensures.executors _) ∙ whole;
        own = omega (arith, before.own, w.in_ok-own.ensures.own);
        few = omega (arith, w.if-len-lt-ACTORS.true, c.len.ensures, w.in_ok-own.ensures.most, c.loop-decl.executors.ok.0);
      }
      | else-len-lt-ACTORS w ↦ rw (w.executors-is, w.own-is) record {
        executors = executor_passed names c.loop-decl.own c.decl-item.result _ c.loop-decl.executors.items _ (omega (arith, w.if-len-lt-ACTORS.false, c.len.ensures, c.loop-decl.executors.ok.0)) whole;
        own = before.own;
        few = before.few;
      }
    ]

pub returns-clause-executors : goal.returns-clause-executors
returns-clause-executors c =
    let done = c.loop-decl.executors.items in
    sym (take_all ACTORS done c.loop-decl.invariant.few)
    ∙ ap (take ACTORS) (sym (append-nil done))
    ∙ sym (at_drop_all (λ (ds : List Decl). take ACTORS (done ++ executors_from c.args.declared.now.executors c.loop-decl.own (map view_decl ds))) c.args.decls.now c.loop-decl.decl-index c.loop-decl-test.false)
    ∙ c.loop-decl.invariant.executors

use Rattle.swift_explorer.proofs.Prelude.{◌∙◌, List, take, take_all, sym, subst, ap, arith, arc_value, take_more, Move, IsPath}
use Rattle.swift_explorer.proofs.Paths.{path_push, path_some, was_done}
use Rattle.swift_explorer.proofs.search.follow.Goals as goal

pub loop-step-preserved : goal.loop-step-preserved
loop-step-preserved c =
    let path = c.args.path.now in
    let k = c.loop-step.step-index in
    let x = c.loop-step.history in
    let script = arc_value c.args.history.now.steps.script in
    let before = c.loop-step.invariant in
    let done = c.in_ok-step.field-0 in
    record {
      script = c.step.ensures.script ∙ before.script;
      path = subst (λ (ms : List Move). IsPath script ms c.step.new.self) (sym (take_more path k _ c.loop-step-test.true))
          (path_push script (take k path) _ x c.step.new.self done (ap arc_value before.script) (c.in_ok-step.ensures.follows (was_done done c.in_default.not-No)) before.path);
    }

pub returns-clause-path : goal.returns-clause-path
returns-clause-path c = λ _.
    subst (λ (ms : List Move). IsPath (arc_value c.args.history.now.steps.script) ms c.loop-step.history) (take_all c.loop-step.step-index c.args.path.now (omega (arith, c.loop-step-test.false))) c.loop-step.invariant.path

pub step-requires : goal.step-requires
step-requires c = path_some (arc_value c.args.history.now.steps.script) (take c.loop-step.step-index c.args.path.now) c.loop-step.history (ap arc_value c.loop-step.invariant.script) c.loop-step.invariant.path

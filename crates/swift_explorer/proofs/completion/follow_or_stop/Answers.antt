use Rattle.swift_explorer.proofs.Prelude.{◌∙◌, List, take, take_all, sym, subst, ap, arith, arc_value, take_more, Move, IsPath}
use Rattle.swift_explorer.proofs.Completing.{read_at, stopped_at}
use Rattle.swift_explorer.proofs.Paths.{path_push, path_some, was_done}
use Rattle.swift_explorer.proofs.completion.follow_or_stop.Goals as goal

pub loop-place-preserved : goal.loop-place-preserved
loop-place-preserved c =
    let path = c.args.path.now in
    let k = c.loop-place.place in
    let x = c.loop-place.history in
    let script = arc_value c.args.history.now.steps.script in
    let before = c.loop-place.invariant in
    let done = c.in_ok-step.field-0 in
    record {
      script = c.step.ensures.script ∙ before.script;
      path = subst (λ (ms : List Move). IsPath script ms c.step.new.self) (sym (take_more path k _ c.loop-place-test.true))
          (path_push script (take k path) _ x c.step.new.self done (ap arc_value before.script) (c.in_ok-step.ensures.follows (was_done done c.in_default.not-No)) before.path);
    }

pub returns-in-No-clause-stopped : goal.returns-in-No-clause-stopped
returns-in-No-clause-stopped c =
    let k = c.loop-place.place in
    stopped_at (arc_value c.args.history.now.steps.script) c.args.path.now k _ _ c.loop-place.history c.loop-place.invariant.path (read_at c.args.path.now k _ c.loop-place-test.true) c.step_fault-fault.ensures

pub returns-clause-path : goal.returns-clause-path
returns-clause-path c = λ _.
    subst (λ (ms : List Move). IsPath (arc_value c.args.history.now.steps.script) ms c.loop-place.history) (take_all c.loop-place.place c.args.path.now (omega (arith, c.loop-place-test.false))) c.loop-place.invariant.path

pub step-requires : goal.step-requires
step-requires c = path_some (arc_value c.args.history.now.steps.script) (take c.loop-place.place c.args.path.now) c.loop-place.history (ap arc_value c.loop-place.invariant.script) c.loop-place.invariant.path

use Rattle.swift_explorer.proofs.Prelude.{List, refl, sym, subst, arc_value, Move, IsPath, IsBrokenAfter}
use Rattle.swift_explorer.proofs.Paths.{path_breaks, path_push, path_some, was_done}
use Rattle.swift_explorer.proofs.completion.push_step.Goals as goal

pub step-requires : goal.step-requires
step-requires c = path_some (arc_value c.args.history.now.steps.script) c.args.path.now.items c.args.history.now refl c.requires

pub returns-clause-path : goal.returns-clause-path
returns-clause-path c = λ _.
    let script = arc_value c.args.history.now.steps.script in
    let done = c.in_ok-done.done in
    subst (λ (ms : List Move). IsPath script ms c.step.new.self) (sym c.in_ok-push.ensures.items)
    (path_push script c.args.path.now.items c.args.step c.args.history.now c.step.new.self done refl (c.in_ok-done.ensures.follows (was_done done c.in_default.not-No)) c.requires)

pub returns-clause-broken : goal.returns-clause-broken
returns-clause-broken c = λ is.
    let script = arc_value c.args.history.now.steps.script in
    let done = c.in_ok-done.done in
    subst (IsBrokenAfter script) (sym c.in_ok-push.ensures.items)
    (path_breaks script c.args.path.now.items c.args.step c.args.history.now c.step.new.self done refl (c.in_ok-done.ensures.follows (was_done done c.in_default.not-No)) is c.requires)

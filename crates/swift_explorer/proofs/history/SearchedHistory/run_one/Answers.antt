use Rattle.swift_explorer.proofs.Prelude.{rules, refl, ◌∙◌, IsTrue, IsQuietAt}
use Rattle.swift_explorer.specs.declared.moves.Move.TheVariants as step
use Rattle.swift_explorer.proofs.Paths.{was_done}
use Rattle.swift_explorer.proofs.RunningAhead.{runs_turn}
use Rattle.swift_explorer.proofs.Trial.{before_some, goes_some}
use Rattle.swift_explorer.proofs.history.SearchedHistory.run_one.Goals as goal

pub step-requires : goal.step-requires
step-requires c = before_some c.args.self.now c.goes_alone.new.self c.in_ok-goes_alone.ensures.same c.requires.history

pub step-requires-2 : goal.step-requires-2
step-requires-2 c =
    goes_some (step.Begin c.args.task) c.goes_alone.new.self c.step.new.self c.in_ok-step.field-0 c.step.ensures.script (c.in_ok-step.ensures.follows (was_done c.in_ok-step.field-0 c.in_default-2.not-No))
    (before_some c.args.self.now c.goes_alone.new.self c.in_ok-goes_alone.ensures.same c.requires.history)

pub returns-in_default-3 : goal.returns-in_default-3
returns-in_default-3 c =
    let x = c.args.self.now in
    let y = c.goes_alone.new.self in
    let w = c.step.new.self in
    let z = c.step-2.new.self in
    let f = c.in_ok-step.field-0 in
    let g = c.in_ok-step-2.field-0 in
    let goes = c.in_ok-step.ensures.follows (was_done f c.in_default-2.not-No) in
    let runs = c.in_ok-step-2.ensures.follows (was_done g c.in_default-3.not-No) in
    let quiet : IsQuietAt x c.args.task = c.if-not-is_quiet.ensures refl c.requires.told c.requires.marked in
    let alone : IsTrue c.in_ok-goes_alone.field-0 = search rules in
    record {
      script = c.step-2.ensures.script ∙ c.step.ensures.script ∙ c.goes_alone.ensures.script;
      stays = λ is. absurd (cc is);
      ran = λ _. runs_turn x y w z c.args.task c.in-Some.place f g c.requires.hold quiet c.in-Some.ensures.runs (c.in_ok-goes_alone.ensures.alone alone) c.in_ok-goes_alone.ensures.same c.step.ensures.script goes c.step-2.ensures.script runs;
    }

use Rattle.swift_executor.proofs.Prelude.{◌+◌, ◌-◌, ◌<◌, ◌≤◌, length, arith, length-set, ◌∙◌}
use Rattle.swift_executor.proofs.TurnsAside.{undoing_more, undoing_one}
use Rattle.swift_executor.proofs.state.ExecState.undo_from.Goals as goal

pub undo-requires : goal.undo-requires
undo-requires c =
    let is = c.loop-done.invariant in
    let test = c.loop-done-test.true in
    let room = c.requires.within in
    let len = is.0 in
    let more : c.args.from + c.loop-done.done < c.args.many = omega (arith, test) in
    let within : c.args.many ≤ length c.loop-done.asides = omega (arith, room, len) in
    undoing_one c.args.self.now c.loop-done.self c.args.asides.now c.loop-done.asides c.args.from c.args.many c.loop-done.done c.index-asides-many.result is.1 more within

pub loop-done-preserved : goal.loop-done-preserved
loop-done-preserved c =
    let is = c.loop-done.invariant in
    let test = c.loop-done-test.true in
    let room = c.requires.within in
    let len = is.0 in
    let more : c.args.from + c.loop-done.done < c.args.many = omega (arith, test) in
    let within : c.args.many ≤ length c.loop-done.asides = omega (arith, room, len) in (
      length-set c.loop-done.asides (c.args.many - 1 - c.loop-done.done) c.undo.new.aside ∙ len,
      undoing_more c.args.self.now c.loop-done.self c.args.asides.now c.loop-done.asides c.args.from c.args.many c.loop-done.done c.index-asides-many.result is.1 more within c.undo.new.aside c.undo.new.self c.undo.ensures.state c.undo.ensures.free,
    )

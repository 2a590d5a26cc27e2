use Rattle.swift_interpreter.proofs.Prelude.{◌≡◌, Some, length, refl, sym, ap, ◌∙◌, slice_get_read, slice_get, NextAction, first_by, first_if, Act, act, state_of}
use Rattle.swift_interpreter.proofs.play.gives_way.Goals as goal

pub returns-in-Yield-clause-done : goal.returns-in-Yield-clause-done
returns-in-Yield-clause-done c = λ _ g code at follows.
    let ins = c.args.instructions.now in
    let k = c.args.turn.now.frame.instruction in
    let line = c.in-Some.instruction.now in
    let s = state_of at c.args.turn.now in
    let there : slice_get ins k ≡ Some line = slice_get_read ins (length ins) k line refl c.in-Some.ensures.lookup.3.0 c.in-Some.ensures.lookup.1 in
    ap (λ (a : Act). act g (first_by at a line.next line.other) s) (sym c.in-Yield.is)
    ∙ ap (λ (n : NextAction). act g n s) (sym (follows.each k ∙ ap (first_if at) there))

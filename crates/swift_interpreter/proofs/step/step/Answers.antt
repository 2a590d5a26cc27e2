use Rattle.swift_interpreter.proofs.Prelude.{◌≡◌, Some, length, refl, sym, ap, ◌∙◌, slice_get_read, IfOk-weaker, slice_get, NextAction, first_if, act, lent, state_of}
use Rattle.swift_interpreter.proofs.step.step.Goals as goal

pub returns-clause-next : goal.returns-clause-next
returns-clause-next c =
    let g = lent c.args.outer.now c.args.env.now in
    let ins = c.args.instructions.now in
    let turn = c.args.turn.now in
    let k = turn.frame.instruction in
    let line = c.in-Some.instruction.now in
    let there : slice_get ins k ≡ Some line =
    slice_get_read ins (length ins) k line refl c.in-Some.ensures.lookup.3.0 c.in-Some.ensures.lookup.1 in
    IfOk-weaker c.perform.result _ _ (λ exit h. λ code at follows.
    h at
    ∙ ap (λ (n : NextAction). act g n (state_of at turn)) (sym (follows.each k ∙ ap (first_if at) there))) c.perform.ensures.next

pub returns-clause-back : goal.returns-clause-back
returns-clause-back c = c.perform.ensures.back

pub returns-clause-method : goal.returns-clause-method
returns-clause-method c = c.perform.ensures.method

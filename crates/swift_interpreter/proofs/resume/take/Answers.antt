use Rattle.swift_interpreter.proofs.Prelude.{◌≡◌, Option, Some, None, length, refl, sym, ap, ◌∙◌, rules, slice_get_read, IfOk-weaker, slice_get, Fault, Act, NextAction, first, first_by, first_if, taken, lent, state_of}
use Rattle.script_code.specs.declared.instruction.Act.TheVariants.{Receive}
use Rattle.swift_interpreter.proofs.resume.take.Goals as goal

pub returns-in-Some-clause-next : goal.returns-in-Some-clause-next
returns-in-Some-clause-next c = λ code at follows.
    let g = lent c.args.outer.now c.args.env.now in
    let turn = c.args.turn.now in
    ap (λ (p : Option Fault). taken g p (first (at turn.frame.instruction)) c.args.resume (state_of at turn)) (sym c.in-Some.is)

pub returns-clause-next : goal.returns-clause-next
returns-clause-next c =
    let g = lent c.args.outer.now c.args.env.now in
    let ins = c.args.instructions.now in
    let turn = c.args.turn.now in
    let k = turn.frame.instruction in
    let resume = c.args.resume in
    let line = c.in-Some-Receive.field-0.now in
    let act : line.act ≡ Receive c.in-Some-Receive.place c.in-Some-Receive.other = search rules in
    let there : slice_get ins k ≡ Some line =
    slice_get_read ins (length ins) k line refl c.in-Some-Receive.ensures.lookup.3.0 c.in-Some-Receive.ensures.lookup.1 in
    IfOk-weaker c.receive.result _ _ (λ exit h. λ code at follows.
    h at
    ∙ ap (λ (n : NextAction). taken g None n resume (state_of at turn))
    (sym (follows.each k ∙ ap (first_if at) there ∙ ap (λ (a : Act). first_by at a line.next line.other) act))
    ∙ ap (λ (p : Option Fault). taken g p (first (at k)) resume (state_of at turn)) (sym c.in_default.is))
    c.receive.ensures.next

pub returns-clause-back : goal.returns-clause-back
returns-clause-back c = c.receive.ensures.back

pub returns-clause-method : goal.returns-clause-method
returns-clause-method c = c.receive.ensures.method

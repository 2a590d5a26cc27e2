use Rattle.swift_interpreter.proofs.Prelude.{◌≡◌, ℕ, Some, None, List, length, refl, sym, ap, ◌∙◌, slice_get_past, slice_get_read, slice_get, NextAction, FollowsCode, first, first_by, first_if, Code, Act, Instruction, TurnStateView, at_limit, end_of, state_of}
use Rattle.swift_interpreter.proofs.play.end_of_steps.Goals as goal

-- what stands there at the limit
at_end : (ins : List Instruction) (body : Code) (at : ℕ → Code) → FollowsCode ins body at
    → (k : ℕ) (line : Instruction) (a : Act) (s : TurnStateView) → slice_get ins k ≡ Some line → line.act ≡ a
    → end_of (at_limit (first_by at a line.next line.other) s) ≡ end_of (at_limit (first (at k)) s)
at_end ins body at follows k line a s there is =
    ap (λ (n : NextAction). end_of (at_limit n s))
    (sym (follows.each k ∙ ap (first_if at) there ∙ ap (λ (b : Act). first_by at b line.next line.other) is))

pub returns-in_default-clause-end : goal.returns-in_default-clause-end
returns-in_default-clause-end c = λ code at follows.
    let k = c.args.turn.now.frame.instruction in
    let none : slice_get c.args.instructions.now k ≡ None =
    slice_get_past c.args.instructions.now k c.in_default.ensures.lookup.3 in
    ap (λ (n : NextAction). end_of (at_limit n (state_of at c.args.turn.now)))
    (sym (follows.each k ∙ ap (first_if at) none))

pub returns-in-End-clause-end : goal.returns-in-End-clause-end
returns-in-End-clause-end c = λ code at follows.
    let ins = c.args.instructions.now in
    let k = c.args.turn.now.frame.instruction in
    let line = c.in-Some.instruction.now in
    let there = slice_get_read ins (length ins) k line refl c.in-Some.ensures.lookup.3.0 c.in-Some.ensures.lookup.1 in
    at_end ins code at follows k line _ (state_of at c.args.turn.now) there c.in-End.is

pub returns-in-Some-close-clause-end : goal.returns-in-Some-close-clause-end
returns-in-Some-close-clause-end c = λ code at follows.
    let ins = c.args.instructions.now in
    let k = c.args.turn.now.frame.instruction in
    let line = c.in-Some.instruction.now in
    let there = slice_get_read ins (length ins) k line refl c.in-Some.ensures.lookup.3.0 c.in-Some.ensures.lookup.1 in
    ap end_of (c.in-Some-close.ensures.next at)
    ∙ at_end ins code at follows k line _ (state_of at c.args.turn.now) there c.in-Close.is

pub returns-in-None-clause-end : goal.returns-in-None-clause-end
returns-in-None-clause-end c = λ code at follows.
    let ins = c.args.instructions.now in
    let k = c.args.turn.now.frame.instruction in
    let line = c.in-Some.instruction.now in
    let there = slice_get_read ins (length ins) k line refl c.in-Some.ensures.lookup.3.0 c.in-Some.ensures.lookup.1 in
    ap end_of (c.in-None.ensures.next at)
    ∙ at_end ins code at follows k line _ (state_of at c.args.turn.now) there c.in-Close.is

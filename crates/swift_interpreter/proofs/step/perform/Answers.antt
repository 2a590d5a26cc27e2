use Rattle.swift_interpreter.proofs.Prelude.{◌≡◌, ℕ, ℤ, Option, Some, List, ◌∷◌, sym, ap, ◌∙◌, if◌then◌else◌, IfOk-weaker, Vec, first_by, rows_of, Code, term_of, is_zero, Act, Instruction, Variable, Field, Thrown, restored, TurnStateView, TurnInputView, act, failing, given, goes, leaves, returning, with_value, fields_before, lent, state_of, TurnState}
use Rattle.swift_interpreter.proofs.Arguments.{seen}
use Rattle.swift_interpreter.proofs.step.perform.Goals as goal

-- what stands there is done
done : (g : TurnInputView) (at : ℕ → Code) (line : Instruction) (a : Act) (s : TurnStateView) → line.act ≡ a
    → act g (first_by at a line.next line.other) s ≡ act g (first_by at line.act line.next line.other) s
done g at line a s is = ap (λ (b : Act). act g (first_by at b line.next line.other) s) (sym is)

-- the fields are as before
kept : (saved : List (ℕ × List ℤ)) (old new : TurnState) → new.fields.items ≡ old.fields.items
    → fields_before saved new ≡ fields_before saved old
kept saved old new is = ap (λ (rows : List (Vec ℤ)). restored saved (rows_of rows)) is

pub returns-in-Test-clause-next : goal.returns-in-Test-clause-next
returns-in-Test-clause-next c =
    let g = lent c.args.outer.now c.args.env.now in
    let line = c.args.instruction.now in
    let turn = c.args.turn.now in
    let value = seen (term_of c.in-Test.e) _ turn c.args.outer.now c.args.env.now _ _ _
    c.deref.ensures.value c.deref-2.ensures.value c.deref-3.ensures.value c.value.ensures in
    λ at. c.branch-value.ensures.next at
    ∙ ap (λ (o : Option ℤ). with_value o (state_of at turn) (λ x. goes (record (state_of at turn) { todo = if is_zero x then at line.other else at line.next }))) (value at)
    ∙ done g at line _ (state_of at turn) c.in-Test.is

pub returns-in-SetVariable-clause-next : goal.returns-in-SetVariable-clause-next
returns-in-SetVariable-clause-next c =
    let g = lent c.args.outer.now c.args.env.now in
    let line = c.args.instruction.now in
    let turn = c.args.turn.now in
    let value = seen (term_of c.in-SetVariable.e) _ turn c.args.outer.now c.args.env.now _ _ _
    c.deref.ensures.value c.deref-2.ensures.value c.deref-3.ensures.value c.value-in-SetVariable.ensures in
    λ at. c.set_variable.ensures.next at
    ∙ ap (λ (o : Option ℤ). with_value o (state_of at turn) (given (Some (Variable c.in-SetVariable.x)) (at line.next) (state_of at turn))) (value at)
    ∙ done g at line _ (state_of at turn) c.in-SetVariable.is

pub returns-in-SetField-clause-next : goal.returns-in-SetField-clause-next
returns-in-SetField-clause-next c =
    let g = lent c.args.outer.now c.args.env.now in
    let line = c.args.instruction.now in
    let turn = c.args.turn.now in
    let value = seen (term_of c.in-SetField.e) _ turn c.args.outer.now c.args.env.now _ _ _
    c.deref.ensures.value c.deref-2.ensures.value c.deref-3.ensures.value c.value-in-SetField.ensures in
    IfOk-weaker c.set_field.result _ _ (λ exit h. λ at.
    h at
    ∙ ap (λ (o : Option ℤ). with_value o (state_of at turn) (given (Some (Field c.in-SetField.place)) (at line.next) (state_of at turn))) (value at)
    ∙ done g at line _ (state_of at turn) c.in-SetField.is) c.set_field.ensures.next

pub returns-in-Return-clause-next : goal.returns-in-Return-clause-next
returns-in-Return-clause-next c =
    let g = lent c.args.outer.now c.args.env.now in
    let line = c.args.instruction.now in
    let turn = c.args.turn.now in
    let value = seen (term_of c.in-Return.e) _ turn c.args.outer.now c.args.env.now _ _ _
    c.deref.ensures.value c.deref-2.ensures.value c.deref-3.ensures.value c.value-in-Return.ensures in
    λ at. c.return_value.ensures (state_of at turn)
    ∙ ap (λ (o : Option ℤ). with_value o (state_of at turn) (λ x. leaves (state_of at turn) (returning x))) (value at)
    ∙ done g at line _ (state_of at turn) c.in-Return.is

pub returns-in-Throw-clause-next : goal.returns-in-Throw-clause-next
returns-in-Throw-clause-next c =
    let g = lent c.args.outer.now c.args.env.now in
    let line = c.args.instruction.now in
    let turn = c.args.turn.now in
    let value = seen (term_of c.in-Throw.e) _ turn c.args.outer.now c.args.env.now _ _ _
    c.deref.ensures.value c.deref-2.ensures.value c.deref-3.ensures.value c.value-in-Throw.ensures in
    λ at. c.thrown.ensures (state_of at turn)
    ∙ ap (λ (o : Option ℤ). with_value o (state_of at turn) (λ x. leaves (state_of at turn) (failing (Thrown x)))) (value at)
    ∙ done g at line _ (state_of at turn) c.in-Throw.is

pub returns-in-Bind-clause-next : goal.returns-in-Bind-clause-next
returns-in-Bind-clause-next c =
    let g = lent c.args.outer.now c.args.env.now in
    let line = c.args.instruction.now in
    let turn = c.args.turn.now in
    let value = seen (term_of c.in-Bind.e) _ turn c.args.outer.now c.args.env.now _ _ _
    c.deref.ensures.value c.deref-2.ensures.value c.deref-3.ensures.value c.value-in-Bind.ensures in
    IfOk-weaker c.bind.result _ _ (λ exit h. λ at.
    h at
    ∙ ap (λ (o : Option ℤ). with_value o (state_of at turn) (λ x. goes (record (state_of at turn) { todo = at line.next; own = (c.in-Bind.local.0, x) ∷ (state_of at turn).own }))) (value at)
    ∙ done g at line _ (state_of at turn) c.in-Bind.is) c.bind.ensures.next

pub returns-in-Wait-clause-next : goal.returns-in-Wait-clause-next
returns-in-Wait-clause-next c =
    let g = lent c.args.outer.now c.args.env.now in
    let line = c.args.instruction.now in
    let turn = c.args.turn.now in
    IfOk-weaker c.wait.result _ _ (λ exit h. λ at.
    h at ∙ done g at line _ (state_of at turn) c.in-Wait.is) c.wait.ensures.next

pub returns-in-Receive-clause-next : goal.returns-in-Receive-clause-next
returns-in-Receive-clause-next c =
    let g = lent c.args.outer.now c.args.env.now in
    let line = c.args.instruction.now in
    let turn = c.args.turn.now in
    IfOk-weaker c.give.result _ _ (λ exit h. λ at.
    h at ∙ done g at line _ (state_of at turn) c.in-Receive.is) c.give.ensures.next

pub returns-in-Spawn-clause-next : goal.returns-in-Spawn-clause-next
returns-in-Spawn-clause-next c =
    let g = lent c.args.outer.now c.args.env.now in
    let line = c.args.instruction.now in
    let turn = c.args.turn.now in
    IfOk-weaker c.spawn.result _ _ (λ exit h. λ at.
    h at ∙ done g at line _ (state_of at turn) c.in-Spawn.is) c.spawn.ensures.next

pub returns-in-Detach-clause-next : goal.returns-in-Detach-clause-next
returns-in-Detach-clause-next c =
    let g = lent c.args.outer.now c.args.env.now in
    let line = c.args.instruction.now in
    let turn = c.args.turn.now in
    IfOk-weaker c.detach.result _ _ (λ exit h. λ at.
    h at ∙ done g at line _ (state_of at turn) c.in-Detach.is) c.detach.ensures.next

pub returns-in-Add-clause-next : goal.returns-in-Add-clause-next
returns-in-Add-clause-next c =
    let g = lent c.args.outer.now c.args.env.now in
    let line = c.args.instruction.now in
    let turn = c.args.turn.now in
    IfOk-weaker c.add.result _ _ (λ exit h. λ at.
    h at ∙ done g at line _ (state_of at turn) c.in-Add.is) c.add.ensures.next

pub returns-in-Cancel-clause-next : goal.returns-in-Cancel-clause-next
returns-in-Cancel-clause-next c =
    let g = lent c.args.outer.now c.args.env.now in
    let line = c.args.instruction.now in
    let turn = c.args.turn.now in
    IfOk-weaker c.cancel.result _ _ (λ exit h. λ at.
    h at ∙ done g at line _ (state_of at turn) c.in-Cancel.is) c.cancel.ensures.next

pub returns-in-Open-clause-next : goal.returns-in-Open-clause-next
returns-in-Open-clause-next c =
    let g = lent c.args.outer.now c.args.env.now in
    let line = c.args.instruction.now in
    let turn = c.args.turn.now in
    IfOk-weaker c.open.result _ _ (λ exit h. λ at.
    h at ∙ done g at line _ (state_of at turn) c.in-Open.is) c.open.ensures.next

pub returns-in-Check-clause-next : goal.returns-in-Check-clause-next
returns-in-Check-clause-next c =
    let g = lent c.args.outer.now c.args.env.now in
    let line = c.args.instruction.now in
    let turn = c.args.turn.now in
    λ at. c.check.ensures.next at ∙ done g at line _ (state_of at turn) c.in-Check.is

pub returns-in-Close-clause-next : goal.returns-in-Close-clause-next
returns-in-Close-clause-next c =
    let g = lent c.args.outer.now c.args.env.now in
    let line = c.args.instruction.now in
    let turn = c.args.turn.now in
    λ at. c.close.ensures.next at ∙ done g at line _ (state_of at turn) c.in-Close.is

pub returns-in-Unbind-clause-next : goal.returns-in-Unbind-clause-next
returns-in-Unbind-clause-next c =
    let g = lent c.args.outer.now c.args.env.now in
    let line = c.args.instruction.now in
    let turn = c.args.turn.now in
    λ at. c.end_block.ensures.next at ∙ done g at line _ (state_of at turn) c.in-Unbind.is

pub returns-in-End-clause-next : goal.returns-in-End-clause-next
returns-in-End-clause-next c =
    let g = lent c.args.outer.now c.args.env.now in
    let line = c.args.instruction.now in
    let turn = c.args.turn.now in
    λ at. done g at line _ (state_of at turn) c.in-End.is

pub returns-in-Yield-clause-next : goal.returns-in-Yield-clause-next
returns-in-Yield-clause-next c =
    let g = lent c.args.outer.now c.args.env.now in
    let line = c.args.instruction.now in
    let turn = c.args.turn.now in
    λ at. done g at line _ (state_of at turn) c.in-Yield.is

pub returns-in-Assume-clause-next : goal.returns-in-Assume-clause-next
returns-in-Assume-clause-next c =
    let g = lent c.args.outer.now c.args.env.now in
    let line = c.args.instruction.now in
    let turn = c.args.turn.now in
    λ at. done g at line _ (state_of at turn) c.in-Assume.is

pub returns-in-Isolated-clause-next : goal.returns-in-Isolated-clause-next
returns-in-Isolated-clause-next c =
    let g = lent c.args.outer.now c.args.env.now in
    let line = c.args.instruction.now in
    let turn = c.args.turn.now in
    λ at. done g at line _ (state_of at turn) c.in-Isolated.is

pub returns-in-Test-clause-back : goal.returns-in-Test-clause-back
returns-in-Test-clause-back c = kept c.args.saved.now c.args.turn.now c.branch-value.new.turn c.branch-value.ensures.fields

pub returns-in-SetVariable-clause-back : goal.returns-in-SetVariable-clause-back
returns-in-SetVariable-clause-back c = kept c.args.saved.now c.args.turn.now c.set_variable.new.turn c.set_variable.ensures.fields

pub returns-in-Check-clause-back : goal.returns-in-Check-clause-back
returns-in-Check-clause-back c = kept c.args.saved.now c.args.turn.now c.check.new.turn c.check.ensures.fields

pub returns-in-Wait-clause-back : goal.returns-in-Wait-clause-back
returns-in-Wait-clause-back c = kept c.args.saved.now c.args.turn.now c.wait.new.turn c.wait.ensures.fields

pub returns-in-Spawn-clause-back : goal.returns-in-Spawn-clause-back
returns-in-Spawn-clause-back c = kept c.args.saved.now c.args.turn.now c.spawn.new.turn c.spawn.ensures.fields

pub returns-in-Detach-clause-back : goal.returns-in-Detach-clause-back
returns-in-Detach-clause-back c = kept c.args.saved.now c.args.turn.now c.detach.new.turn c.detach.ensures.fields

pub returns-in-Add-clause-back : goal.returns-in-Add-clause-back
returns-in-Add-clause-back c = kept c.args.saved.now c.args.turn.now c.add.new.turn c.add.ensures.fields

pub returns-in-Cancel-clause-back : goal.returns-in-Cancel-clause-back
returns-in-Cancel-clause-back c = kept c.args.saved.now c.args.turn.now c.cancel.new.turn c.cancel.ensures.fields

pub returns-in-Open-clause-back : goal.returns-in-Open-clause-back
returns-in-Open-clause-back c = kept c.args.saved.now c.args.turn.now c.open.new.turn c.open.ensures.fields

pub returns-in-Close-clause-back : goal.returns-in-Close-clause-back
returns-in-Close-clause-back c = kept c.args.saved.now c.args.turn.now c.close.new.turn c.close.ensures.fields

pub returns-in-Bind-clause-back : goal.returns-in-Bind-clause-back
returns-in-Bind-clause-back c = kept c.args.saved.now c.args.turn.now c.bind.new.turn c.bind.ensures.fields

pub returns-in-Unbind-clause-back : goal.returns-in-Unbind-clause-back
returns-in-Unbind-clause-back c = kept c.args.saved.now c.args.turn.now c.end_block.new.turn c.end_block.ensures.fields

use Rattle.swift_tasks.proofs.Prelude.{◌≡◌, ◌∙◌, sym, true, false, is_left_out}
use Rattle.swift_tasks.proofs.effects.note_add.Goals as goal

pub returns-then-left_out-clause-log : goal.returns-then-left_out-clause-log
returns-then-left_out-clause-log c =
    let b : is_left_out c.args.task.0 c.args.group c.args.unless c.args.ledger.now.log ≡ true = sym c.leaves_out-left_out.ensures ∙ c.if-left_out.true in
    rw b c.note_aside.ensures.log

pub returns-else-left_out-clause-log : goal.returns-else-left_out-clause-log
returns-else-left_out-clause-log c =
    let b : is_left_out c.args.task.0 c.args.group c.args.unless c.args.ledger.now.log ≡ false = sym c.leaves_out-left_out.ensures ∙ c.if-left_out.false in
    rw b c.note_child.ensures.log

use Rattle.swift_executor.proofs.Prelude.{inl, err_from_is_err_and}
use Rattle.swift_executor.proofs.run.turn_one.Goals as goal

pub returns-in_err-task-clause-refused : goal.returns-in_err-task-clause-refused
returns-in_err-task-clause-refused g c =
    let p = err_from_is_err_and c.from_residual.result c.from_residual.ensures.1 in
    rw (p.1, p.2) (record { stays = c.in_err-task.ensures.stays; why = inl c.in_err-task.ensures.refused })

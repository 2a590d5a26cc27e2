use Rattle.swift_ledger.proofs.Prelude.{sym, arith, slice_get_past}
use Rattle.swift_ledger.proofs.lists.TaskLists.get.Goals as goal

pub returns-then-place-len : goal.returns-then-place-len
returns-then-place-len c = λ lists kept.
    let past = c.if-place-len.true in
    let long = c.len.ensures.lists lists kept in
    sym (slice_get_past (lists c.args.task.0) c.args.place (omega (arith, past, long)))

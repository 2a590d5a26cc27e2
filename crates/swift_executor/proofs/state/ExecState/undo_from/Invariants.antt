use Rattle.swift_executor.proofs.Prelude.{◌≡◌, length}
use Rattle.swift_executor.proofs.TurnsAside.{IsUndoing}
use Rattle.swift_executor.proofs.state.ExecState.undo_from.Given as goal

abbrev pub invariant-loop-done : goal.invariant-loop-done
invariant-loop-done l = (length l.asides ≡ length l.initial.asides) × IsUndoing l.initial.self l.self l.initial.asides l.asides l.from l.many l.done

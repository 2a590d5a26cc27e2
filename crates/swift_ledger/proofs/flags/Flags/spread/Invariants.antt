use Rattle.swift_ledger.proofs.Prelude.{tasks_of, AreMarked}
use Rattle.swift_ledger.proofs.flags.Flags.spread.Given as goal

abbrev pub invariant-loop-task : goal.invariant-loop-task
invariant-loop-task l = AreMarked l.self.flags.items l.task (tasks_of l.roots l.log.events) l.log.events l.event

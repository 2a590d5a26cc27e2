use Rattle.swift_explorer.proofs.history.SearchedHistory.begin_fault.Goals as goal

pub returns-in-Some : goal.returns-in-Some
returns-in-Some c = c.busy_fault.ensures c.args.task.0

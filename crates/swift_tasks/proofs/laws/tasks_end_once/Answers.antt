use Rattle.swift_tasks.proofs.Endings.{ends_once}
use Rattle.swift_tasks.proofs.laws.tasks_end_once.Goals as goal

pub returns : goal.returns
returns c = ends_once

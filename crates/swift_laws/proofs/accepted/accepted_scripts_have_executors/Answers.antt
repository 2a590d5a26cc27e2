use Rattle.swift_laws.proofs.OpenExecutors.{runs_on_executor}
use Rattle.swift_laws.proofs.accepted.accepted_scripts_have_executors.Goals as goal

pub returns : goal.returns
returns c = runs_on_executor

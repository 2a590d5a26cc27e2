use Rattle.swift_script.proofs.Short.{no_larger, within_limit}
use Rattle.swift_script.proofs.laws.scripts_are_short.Goals as goal

pub returns-clause-text : goal.returns-clause-text
returns-clause-text c = no_larger

pub returns-clause-bytes : goal.returns-clause-bytes
returns-clause-bytes c = within_limit

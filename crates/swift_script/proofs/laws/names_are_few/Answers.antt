use Rattle.swift_script.proofs.Short.{no_more_names, names_within_limit}
use Rattle.swift_script.proofs.laws.names_are_few.Goals as goal

pub returns-clause-text : goal.returns-clause-text
returns-clause-text c = no_more_names

pub returns-clause-bytes : goal.returns-clause-bytes
returns-clause-bytes c = names_within_limit

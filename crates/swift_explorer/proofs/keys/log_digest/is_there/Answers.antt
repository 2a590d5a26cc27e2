use Rattle.swift_explorer.proofs.keys.log_digest.is_there.Goals as goal

pub returns-in-Some-clause-there : goal.returns-in-Some-clause-there
returns-in-Some-clause-there c = λ _. (c.in-Some.field-0, c.in-Some.ensures.some)

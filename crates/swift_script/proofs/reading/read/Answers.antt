use Rattle.swift_script.proofs.Accepting.{is_accepted}
use Rattle.swift_script.proofs.reading.read.Goals as goal

pub returns-clause-accepted : goal.returns-clause-accepted
returns-clause-accepted c = is_accepted c.args.bytes.now c.accept.result c.accept.ensures.found c.accept.ensures.refused

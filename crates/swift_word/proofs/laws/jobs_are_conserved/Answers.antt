use Rattle.swift_word.specs.Mail.{start}
use Rattle.swift_word.proofs.MailLemmas.{all_parts}
use Rattle.swift_word.proofs.laws.jobs_are_conserved.Goals as goal

pub returns : goal.returns
returns c events = all_parts events start

use Rattle.swift_word.specs.Mail.{start, after}
use Rattle.swift_word.proofs.MailLemmas.{runs, starts, has_job}
use Rattle.swift_word.proofs.laws.pending_jobs_are_there.Goals as goal

pub returns-clause-all : goal.returns-clause-all
returns-clause-all c events = (runs events start starts).counts

pub returns-clause-found : goal.returns-clause-found
returns-clause-found c events = has_job (after events start) (runs events start starts)

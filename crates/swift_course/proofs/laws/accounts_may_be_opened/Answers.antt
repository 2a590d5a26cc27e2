use Rattle.swift_course.proofs.Parts.{account_opens}
use Rattle.swift_course.proofs.laws.accounts_may_be_opened.Goals as goal

pub returns : goal.returns
returns c = account_opens

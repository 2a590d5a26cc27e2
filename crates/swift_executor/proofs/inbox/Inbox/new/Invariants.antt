use Rattle.swift_executor.proofs.Prelude.{Some}
use Rattle.swift_executor.proofs.inbox.Inbox.new.Given as goal

abbrev pub ghosts-make_placed : goal.ghosts-make_placed
ghosts-make_placed a = record { site = Some a.site.now }

use Rattle.swift_executor.proofs.AccountIsKept.{is_told}
use Rattle.swift_executor.proofs.inbox.make_placed.Goals as goal

pub another-requires-clause-rule : goal.another-requires-clause-rule
another-requires-clause-rule g c = rw (c.requires.site, c.requires.first.2) (is_told _ c.args.site.now c.requires.first.1)

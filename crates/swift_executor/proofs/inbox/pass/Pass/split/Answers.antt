use Rattle.swift_executor.proofs.Prelude.{rules}
use Rattle.swift_executor.proofs.AccountIsKept.{splits}
use Rattle.swift_executor.proofs.inbox.pass.Pass.split.Goals as goal

pub another-raw-requires-clause-rule : goal.another-raw-requires-clause-rule
another-raw-requires-clause-rule c = splits _ _ c.args.inbox.now.site (search rules)

use Rattle.swift_executor.proofs.Prelude.{rules}
use Rattle.swift_executor.proofs.AccountIsKept.{puts}
use Rattle.swift_executor.proofs.inbox.Inbox.put.Goals as goal

pub push_as-requires-clause-rule : goal.push_as-requires-clause-rule
push_as-requires-clause-rule g c = (puts _ _ _ c.args.self.now.site _ (search rules) (search rules) (search rules), λ _ _ _ _. tt)

use Rattle.swift_executor.proofs.Prelude.{rules}
use Rattle.swift_executor.proofs.AccountIsKept.{takes}
use Rattle.swift_executor.proofs.inbox.Inbox.take.Goals as goal

pub pop_as-requires-clause-rule : goal.pop_as-requires-clause-rule
pop_as-requires-clause-rule g c = (takes _ _ (search rules), λ _ _ _ _. tt)

use Rattle.swift_executor.proofs.InboxCrossesThreads.{inbox_sync}
use Rattle.swift_executor.proofs.inbox.laws.threads_share_an_inbox.Goals as goal

pub returns : goal.returns
returns c = inbox_sync

use Rattle.swift_ledger.proofs.GroupCalls.{end-closed, end-handed}
use Rattle.swift_ledger.proofs.group_index.end_in.Goals as goal

pub returns-then-held : goal.returns-then-held
returns-then-held c = λ found at.
    end-closed c.args.groups.now c.finished.new.self c.close.new.self c.args.id.0 c.args.held c.args.task c.args.ending found c.requires at c.finished.ensures.after c.close.ensures.after c.if-held.true

pub returns : goal.returns
returns c = λ found at.
    end-handed c.args.groups.now c.finished.new.self c.next.new.self c.args.id.0 c.args.held c.args.task c.args.ending found c.requires at c.finished.ensures.after c.next.ensures.after c.if-held.false c.if-held-2.false

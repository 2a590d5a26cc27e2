use Rattle.swift_journal.proofs.EffectsReadBack.{bound_reads_back}
use Rattle.swift_journal.proofs.effects.write_bound.Goals as goal

pub returns-clause-reads_back : goal.returns-clause-reads_back
returns-clause-reads_back c =
    bound_reads_back c.args.invocation.now c.in_ok-stored.stored c.args.bindings.now c.depth.result c.in_ok-stored.ensures.stored c.depth.ensures c.in_ok-write_bindings.ensures.narrow

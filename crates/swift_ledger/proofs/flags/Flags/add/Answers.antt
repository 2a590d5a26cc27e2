use Rattle.swift_ledger.proofs.Prelude.{◌∙◌}
use Rattle.swift_ledger.proofs.FlagLemmas.{flags_made}
use Rattle.swift_ledger.proofs.flags.Flags.add.Goals as goal

pub returns-clause-flags : goal.returns-clause-flags
returns-clause-flags c =
    let r = c.requires in
    c.push_reserved.ensures.items ∙ flags_made c.args.roots c.args.log.now.events c.args.event c.args.is_named c.args.self.now.flags.items c.is_born_cancelled-is_cancelled.result r.log r.fits r.made r.named r.flags c.is_born_cancelled-is_cancelled.ensures

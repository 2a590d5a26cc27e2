use Rattle.swift_ledger.proofs.Prelude.{◌∙◌}
use Rattle.swift_ledger.proofs.FlagLemmas.{no_flags}
use Rattle.swift_ledger.proofs.flags.Flags.new.Goals as goal

pub returns : goal.returns
returns c = c.in_ok-vec.ensures.items_if_clones_equal (λ y e. e) ∙ no_flags c.args.roots

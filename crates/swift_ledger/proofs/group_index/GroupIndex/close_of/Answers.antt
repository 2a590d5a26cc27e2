use Rattle.swift_ledger.proofs.Prelude.{ap, sym, ◌∙◌, close_among, unfinished_of, GroupFacts}
use Rattle.swift_ledger.proofs.GroupSteps.{no_place}
use Rattle.swift_ledger.proofs.group_index.GroupIndex.close_of.Goals as goal

pub returns-in_default : goal.returns-in_default
returns-in_default c =
    sym (ap (λ (f : GroupFacts). close_among (unfinished_of f.children f.endings)) (no_place c.args.self.now c.args.log.now.events c.args.owner c.args.group c.requires (sym c.place.ensures ∙ c.in_default.is)))

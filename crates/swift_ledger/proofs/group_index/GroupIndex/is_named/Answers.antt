use Rattle.swift_ledger.proofs.Prelude.{ap, sym, ◌∙◌, GroupFacts}
use Rattle.swift_ledger.proofs.GroupSteps.{no_place}
use Rattle.swift_ledger.proofs.group_index.GroupIndex.is_named.Goals as goal

pub returns-in-None : goal.returns-in-None
returns-in-None c = sym (ap (λ (f : GroupFacts). f.named) (no_place c.args.self.now c.args.log.now.events c.args.owner c.args.group c.requires (sym c.place.ensures ∙ c.in-None.is)))

use Rattle.swift_ledger.proofs.Prelude.{ap, sym, ◌∙◌, GroupFacts, has_any}
use Rattle.swift_ledger.proofs.GroupSteps.{no_place}
use Rattle.swift_ledger.proofs.group_index.GroupIndex.has_children.Goals as goal

pub returns-in-None : goal.returns-in-None
returns-in-None c = sym (ap (λ (f : GroupFacts). has_any f.children) (no_place c.args.self.now c.args.log.now.events c.args.owner c.args.group c.requires (sym c.place.ensures ∙ c.in-None.is)))

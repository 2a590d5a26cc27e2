use Rattle.swift_ledger.proofs.Prelude.{ap, sym, ◌∙◌, subst, ◌++◌, ◌∷◌, [], TaskId, Option, Event, AreGroupsOf, FitsGroups, IsParentIn, plain_parent}
use Rattle.std.specs.Prelude.{ℕ}
use Rattle.swift_ledger.proofs.GroupSteps.{other-step, end-alone}
use Rattle.swift_ledger.proofs.group_index.GroupIndex.note.Goals as goal

pub returns-in-Child-clause-groups : goal.returns-in-Child-clause-groups
returns-in-Child-clause-groups c = subst (λ (e : Event). AreGroupsOf c.add_child.new.self (c.args.log.now.events ++ e ∷ [])) (sym c.in-Child.is) (c.add_child.ensures.groups c.in-Child.priority)

pub returns-in_default-parent-clause-groups : goal.returns-in_default-parent-clause-groups
returns-in_default-parent-clause-groups c =
    subst (λ (e : Event). AreGroupsOf c.args.self.now (c.args.log.now.events ++ e ∷ [])) (sym c.in-End.is)
    (end-alone c.args.self.now c.args.log.now.events c.in-End.task c.in-End.ending c.requires.groups
    (subst (FitsGroups c.args.log.now.events) c.in-End.is c.requires.fits)
    (sym (subst (λ (e : Event). IsParentIn c.args.log.now.events e c.args.parent) c.in-End.is c.requires.parent) ∙ ap (λ (p : Option (TaskId × ℕ)). plain_parent p) c.in_default-parent.is))

pub returns-in_default-clause-groups : goal.returns-in_default-clause-groups
returns-in_default-clause-groups c =
    other-step c.args.self.now c.args.log.now.events c.args.event c.requires.groups c.requires.fits
    (λ o g. c.in_default.not-Open o g) (λ t o g p. c.in_default.not-Child t o g p) (λ o g. c.in_default.not-CancelGroup o g) (λ o g. c.in_default.not-Next o g) (λ o g. c.in_default.not-Close o g) (λ t x. c.in_default.not-End t x)

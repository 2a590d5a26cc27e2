use Rattle.swift_script.proofs.Prelude.{ap, subst, ◌∙◌, printed, WasAccepted}
use Rattle.swift_script.proofs.Printing.{says}
use Rattle.swift_script.proofs.script.Script.says_the_same.Goals as goal

pub returns-clause-same : goal.returns-clause-same
returns-clause-same c =
    says c.args.self.now c.args.other.now c.as_slice.result.now c.as_slice-2.result.now c.eq.result
    (subst WasAccepted c.self.view_is c.self.invariant.accepted) (subst WasAccepted c.other.view_is c.other.invariant.accepted)
    (c.as_slice.ensures.value ∙ c.self.invariant.has_printed ∙ ap printed c.self.view_is) (c.as_slice-2.ensures.value ∙ c.other.invariant.has_printed ∙ ap printed c.other.view_is)
    c.eq.ensures

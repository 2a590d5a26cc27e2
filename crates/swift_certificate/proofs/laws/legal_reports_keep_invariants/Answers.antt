use Rattle.swift_certificate.proofs.Prelude.{sym, subst, List, ℤ, IsTrue, Some}
use Rattle.script_code.specs.Value.{holds}
use Rattle.swift_certificate.proofs.laws.legal_reports_keep_invariants.Goals as goal

pub returns : goal.returns
returns c = λ script report e journal checkpoint fields t legal has is_one held.
    (let is = c.legal_reports_are_replayed.ensures script report e journal checkpoint fields legal has in
    subst (λ (fs : List (List ℤ)). IsTrue (holds (Some t) fs)) (sym is.replayed) (c.invariants_stay.ensures script e checkpoint.fields journal t is.runs is_one held))

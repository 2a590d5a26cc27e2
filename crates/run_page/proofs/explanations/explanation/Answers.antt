use Rattle.run_page.proofs.Prelude.{subst, Explains, Tells}
use Rattle.run_page.proofs.Explained.{one}
use Rattle.run_page.proofs.explanations.explanation.Goals as goal

pub returns-in-Found : goal.returns-in-Found
returns-in-Found c =
    let p = c.args.script.now in
    let r = c.args.report.now in
    let t = c.args.task.0 in
    let n = c.args.number in
    let is = subst (λ x. Explains r t n x) c.in-Found.is c.in_ok-said.ensures.stands in
    let tells = subst (λ x. Tells p r t n x) c.in-Found.is c.in_ok-said.ensures.told in
    one c.explained.result p r t n c.in-Found.said _ _ c.deref.result.now is tells c.deref.ensures.value c.explained.ensures

use Rattle.std.proofs.lemmas.Result.{IfOk-weaker}
use Rattle.nuchapay_runs.proofs.Prelude.{Explains, IsNotFolded}
use Rattle.nuchapay_runs.proofs.Explaining.{explains_there}
use Rattle.nuchapay_runs.proofs.explained.explain_turn.Goals as goal

pub returns-in-Journal-clause-stands : goal.returns-in-Journal-clause-stands
returns-in-Journal-clause-stands c =
    let report = c.args.report.now in
    IfOk-weaker c.explain_at.result IsNotFolded (Explains report c.args.task.0 c.args.number)
    (λ said not. explains_there report c.in-Journal.executor c.in-Journal.place c.args.task.0 c.args.number said c.in-Journal.ensures not)
    c.explain_at.ensures.folded

use Rattle.nuchapay.proofs.Prelude.{subst, arc_value, ScriptView}
use Rattle.nuchapay.specs.Runs.{IsAsked}
use Rattle.nuchapay.proofs.values.explained_turn.Goals as goal

pub returns : goal.returns
returns g c = record {
  script = arc_value c.in_ok-script.script;
  report = c.in_ok-script.report;
  is = c.in_ok-script.ensures;
  holds = subst (λ (p : ScriptView). IsAsked c.args.word p c.in_ok-script.report c.in_ok-found.found) c.deref.ensures c.in_ok-found.ensures;
}

use Rattle.nuchapay.proofs.Prelude.{rules, arc_value}
use Rattle.nuchapay.proofs.show.show_run.Goals as goal

pub returns : goal.returns
returns g c = record { script = arc_value c.in_ok-script.script; report = c.in_ok-script.report; is = c.in_ok-script.ensures; holds = search rules }

use Rattle.nuchapay.proofs.Prelude.{sym, subst, arc_value, IsAccepted}
use Rattle.nuchapay.proofs.scheduled.broken_line.Goals as goal

pub returns : goal.returns
returns c = record {
  script = arc_value c.in_ok-script.script;
  accepted = subst (IsAccepted c.args.text.now) (sym c.in_ok-script.ensures.ok) c.in_ok-read.ensures.found;
  never = λ all. c.in_ok-found.ensures.unbroken all c.in-None.is;
}

use Rattle.nuchapay.proofs.Prelude.{rules}
use Rattle.nuchapay.proofs.scheduled.scheduled_report.Goals as goal

pub returns : goal.returns
returns c = record { legal = search rules; log = search rules }

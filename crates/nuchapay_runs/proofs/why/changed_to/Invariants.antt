use Rattle.nuchapay_runs.proofs.Prelude.{◌≡◌, drop, changed_to}
use Rattle.nuchapay_runs.proofs.why.changed_to.Given as goal

abbrev pub invariant-loop-change : goal.invariant-loop-change
invariant-loop-change l = changed_to (drop l.change-index l.changes) l.actor l.field ≡ changed_to l.changes l.actor l.field

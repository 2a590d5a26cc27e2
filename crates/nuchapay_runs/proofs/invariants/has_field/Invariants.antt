use Rattle.nuchapay_runs.proofs.Prelude.{◌≡◌, drop, has_field}
use Rattle.nuchapay_runs.proofs.invariants.has_field.Given as goal

abbrev pub invariant-loop-field : goal.invariant-loop-field
invariant-loop-field l = has_field (drop l.field-index l.fields) l.place ≡ has_field l.fields l.place

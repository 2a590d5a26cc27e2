use Rattle.nuchapay_runs.proofs.Prelude.{drop, row_text}
use Rattle.nuchapay_runs.proofs.Joined.{UpTo}
use Rattle.nuchapay_runs.proofs.why.write_row.Given as goal

abbrev pub invariant-loop-field : goal.invariant-loop-field
invariant-loop-field l = UpTo l.initial.out l.out (row_text l.script l.executor.0 l.actor l.changes l.field (drop l.field l.row)) (row_text l.script l.executor.0 l.actor l.changes 0 l.row)

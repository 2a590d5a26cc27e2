use Rattle.nuchapay_runs.proofs.Prelude.{[], drop, rows_of, left_text}
use Rattle.nuchapay_runs.proofs.Joined.{UpTo}
use Rattle.nuchapay_runs.proofs.invariants.write_left.Given as goal

abbrev pub invariant-loop-place : goal.invariant-loop-place
invariant-loop-place l =
    UpTo l.initial.out l.out (left_text l.script l.executor.0 l.changes (rows_of l.before) l.between (drop l.place-index l.places)) (left_text l.script l.executor.0 l.changes (rows_of l.before) [] l.places)

use Rattle.nuchapay_runs.proofs.Prelude.{drop, noted_executors}
use Rattle.nuchapay_runs.proofs.Joined.{UpTo}
use Rattle.nuchapay_runs.proofs.report.write_noted_executors.Given as goal

abbrev pub invariant-loop-place : goal.invariant-loop-place
invariant-loop-place l = UpTo l.initial.out l.out (noted_executors l.script l.endings l.checkpoints l.place (drop l.place l.journals)) (noted_executors l.script l.endings l.checkpoints 0 l.journals)

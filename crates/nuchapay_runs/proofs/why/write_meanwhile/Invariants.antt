use Rattle.nuchapay_runs.proofs.Prelude.{slice_range, values_views, meanwhile_text}
use Rattle.nuchapay_runs.proofs.Joined.{UpTo}
use Rattle.nuchapay_runs.proofs.why.write_meanwhile.Given as goal

abbrev pub invariant-loop-place : goal.invariant-loop-place
invariant-loop-place l =
    UpTo l.initial.out l.out
    (meanwhile_text l.script l.endings l.executor.0 l.actor l.waiting.0 (slice_range l.journal l.place l.to) (slice_range (values_views l.values) l.place l.to))
    (meanwhile_text l.script l.endings l.executor.0 l.actor l.waiting.0 (slice_range l.journal l.from l.to) (slice_range (values_views l.values) l.from l.to))

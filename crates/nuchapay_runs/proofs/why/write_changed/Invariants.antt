use Rattle.nuchapay_runs.proofs.Prelude.{drop, flat_map, blamed_text}
use Rattle.nuchapay_runs.proofs.Joined.{UpTo}
use Rattle.nuchapay_runs.proofs.why.write_changed.Given as goal

abbrev pub invariant-loop-change : goal.invariant-loop-change
invariant-loop-change l = UpTo l.initial.out l.out (flat_map (blamed_text l.script l.between.endings.now l.executor.0 l.actor l.between.waiting.0 l.between.task.0 l.between.number) (drop l.change-index l.changes)) (flat_map (blamed_text l.script l.between.endings.now l.executor.0 l.actor l.between.waiting.0 l.between.task.0 l.between.number) l.changes)

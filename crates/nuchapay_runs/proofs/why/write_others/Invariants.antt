use Rattle.nuchapay_runs.proofs.Prelude.{drop, flat_map, other_text}
use Rattle.nuchapay_runs.proofs.Joined.{UpTo}
use Rattle.nuchapay_runs.proofs.why.write_others.Given as goal

abbrev pub invariant-loop-change : goal.invariant-loop-change
invariant-loop-change l = UpTo l.initial.out l.out (flat_map (other_text l.script l.executor.0 l.actor) (drop l.change-index l.changes)) (flat_map (other_text l.script l.executor.0 l.actor) l.changes)

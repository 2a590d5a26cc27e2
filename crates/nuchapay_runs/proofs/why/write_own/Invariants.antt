use Rattle.nuchapay_runs.proofs.Prelude.{drop, map, pair_of, bindings_text}
use Rattle.nuchapay_runs.proofs.Joined.{UpTo}
use Rattle.nuchapay_runs.proofs.why.write_own.Given as goal

abbrev pub invariant-loop-binding : goal.invariant-loop-binding
invariant-loop-binding l = UpTo l.initial.out l.out (bindings_text l.script (map pair_of (drop l.binding-index l.own))) (bindings_text l.script (map pair_of l.own))

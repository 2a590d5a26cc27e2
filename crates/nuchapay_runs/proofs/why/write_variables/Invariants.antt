use Rattle.nuchapay_runs.proofs.Prelude.{drop, names_view, variables_text}
use Rattle.nuchapay_runs.proofs.Joined.{UpTo}
use Rattle.nuchapay_runs.proofs.why.write_variables.Given as goal

abbrev pub invariant-loop-place : goal.invariant-loop-place
invariant-loop-place l = UpTo l.initial.out l.out (variables_text (names_view l.names) l.place (drop l.place l.variables)) (variables_text (names_view l.names) 0 l.variables)

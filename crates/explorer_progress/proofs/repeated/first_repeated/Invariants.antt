use Rattle.explorer_progress.specs.HintsInside.{AllRepeat}
use Rattle.explorer_progress.proofs.repeated.first_repeated.Given as goal

abbrev pub invariant-loop : goal.invariant-loop
invariant-loop l = AllRepeat l.run l.turns l.period l.from l.end

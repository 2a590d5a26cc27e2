use Rattle.expectations.proofs.Prelude.{◌≡◌, map, take, number_in}
use Rattle.expectations.proofs.judging.numbers.Given as goal

abbrev pub invariant-loop-ended : goal.invariant-loop-ended
invariant-loop-ended l = l.numbers.items ≡ map number_in (take l.ended-index l.endings)

use Rattle.std.proofs.Common.{length}
use Rattle.plain_forms.proofs.walk.Walk.+numbers.Given as goal

abbrev pub decreases-numbers : goal.decreases-numbers
decreases-numbers l = length l.exprs.now

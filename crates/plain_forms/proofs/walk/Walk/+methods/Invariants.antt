use Rattle.std.proofs.Common.{length}
use Rattle.plain_forms.proofs.walk.Walk.+methods.Given as goal

abbrev pub decreases-methods : goal.decreases-methods
decreases-methods l = length l.methods.now

use Rattle.std.proofs.Common.{length}
use Rattle.plain_forms.proofs.walk.Walk.+decls.Given as goal

abbrev pub decreases-decls : goal.decreases-decls
decreases-decls l = length l.left.now

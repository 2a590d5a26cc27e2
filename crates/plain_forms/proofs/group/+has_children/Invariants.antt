use Rattle.std.proofs.Common.{length}
use Rattle.plain_forms.proofs.group.+has_children.Given as goal

abbrev pub decreases-has_children : goal.decreases-has_children
decreases-has_children l = length l.block.now

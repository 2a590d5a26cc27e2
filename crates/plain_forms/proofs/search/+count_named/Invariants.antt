use Rattle.std.proofs.Common.{length}
use Rattle.plain_forms.proofs.search.+count_named.Given as goal

abbrev pub decreases-count_named : goal.decreases-count_named
decreases-count_named l = length l.decls.now

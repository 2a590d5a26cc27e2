use Rattle.explorer_answers.proofs.Prelude.{length}
use Rattle.explorer_answers.proofs.meaning.+at_limit.Given as goal

abbrev pub decreases-at_limit : goal.decreases-at_limit
decreases-at_limit l = length l.endings.now

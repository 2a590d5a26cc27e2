use Rattle.explorer_answers.proofs.Prelude.{length}
use Rattle.explorer_answers.proofs.meaning.+ends_process.Given as goal

abbrev pub decreases-ends_process : goal.decreases-ends_process
decreases-ends_process l = length l.endings.now

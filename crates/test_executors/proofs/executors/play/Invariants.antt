use Rattle.std.proofs.Common.{Some}
use Rattle.test_executors.proofs.executors.play.Given as goal

abbrev pub ghosts-play_of : goal.ghosts-play_of
ghosts-play_of g a = record { lock = Some a.booked }

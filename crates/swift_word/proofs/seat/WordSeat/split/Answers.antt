use Rattle.std.proofs.Common.{rules}
use Rattle.swift_word.proofs.WordSteps.{splits}
use Rattle.swift_word.proofs.seat.WordSeat.split.Goals as goal

pub split_seat-token-requires : goal.split_seat-token-requires
split_seat-token-requires g c = (search rules, search rules, splits _ g.T.Named.image _ _ _)

use Rattle.swift_course.proofs.CountedTurns.{kept_turn_counts}
use Rattle.swift_course.proofs.counts.kept_turns_count.Goals as goal

pub returns : goal.returns
returns c = kept_turn_counts

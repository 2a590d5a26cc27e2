use Rattle.std.proofs.Common.{length}
use Rattle.swift_plain.proofs.file.+after_numbers.Given as goal

abbrev pub decreases-after_numbers : goal.decreases-after_numbers
decreases-after_numbers l = length l.numbers.now

use Rattle.std.proofs.Common.{length}
use Rattle.swift_plain.proofs.file.+say_named_numbers.Given as goal

abbrev pub decreases-say_named_numbers : goal.decreases-say_named_numbers
decreases-say_named_numbers l = length l.numbers.now

use Rattle.explorer_answers.proofs.Prelude.{◌≡◌, drop}
use Rattle.explorer_answers.specs.Dots.{has_dots}
use Rattle.explorer_answers.proofs.dots.has_dots.Given as goal

abbrev pub invariant-loop-byte : goal.invariant-loop-byte
invariant-loop-byte l = has_dots l.before (drop l.byte-index l.text) ≡ has_dots 0 l.text

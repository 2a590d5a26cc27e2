use Rattle.std.proofs.Common.{◌≡◌}
use Rattle.swift_translation.specs.MethodTexts.{operand_before, params_before}
use Rattle.swift_translation.specs.WritingInside.{GoesOn}
use Rattle.swift_translation.proofs.frame.write_params.Given as goal

-- the parameters among the first `place` variables are written
abbrev pub invariant-loop-place : goal.invariant-loop-place
invariant-loop-place l = record {
  text : GoesOn l.initial.out l.out (params_before l.at l.unit l.first l.caller l.place);
  operand : l.operand ≡ operand_before l.at.source l.unit l.first l.place;
}

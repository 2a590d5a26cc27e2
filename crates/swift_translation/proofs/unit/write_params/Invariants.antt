use Rattle.std.proofs.Common.{◌≡◌, ◌&&◌, true}
use Rattle.swift_translation.specs.ActorTexts.{each_of, is_param, none_before, param_listed}
use Rattle.swift_translation.specs.WritingInside.{GoesOn}
use Rattle.swift_translation.proofs.unit.write_params.Given as goal

abbrev pub invariant-loop-place : goal.invariant-loop-place
invariant-loop-place l = record {
  text : GoesOn l.initial.out l.out (each_of (is_param l.source l.unit) (param_listed l.source l.unit) true l.place);
  first : l.is_first ≡ (true && none_before (is_param l.source l.unit) l.place);
}

use Rattle.std.proofs.Common.{◌≡◌, ◌&&◌, not}
use Rattle.swift_translation.specs.ActorTexts.{each_of, invariant_at, is_invariant_of, none_before}
use Rattle.swift_translation.specs.WritingInside.{GoesOn}
use Rattle.swift_translation.proofs.requirement.write_own_invariants.Given as goal

abbrev pub invariant-loop-place : goal.invariant-loop-place
invariant-loop-place l = record {
  text : GoesOn l.initial.out l.out (each_of (is_invariant_of l.source l.actor) (invariant_at l.source l.actor) (not l.is_required) l.place);
  first : l.is_first ≡ (not l.is_required && none_before (is_invariant_of l.source l.actor) l.place);
}

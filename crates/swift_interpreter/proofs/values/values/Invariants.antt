use Rattle.swift_interpreter.proofs.Prelude.{◌≡◌, drop, scene_of, terms_of, evs}
use Rattle.swift_interpreter.proofs.Arguments.{after}
use Rattle.swift_interpreter.proofs.values.values.Given as goal

abbrev pub invariant-loop-e : goal.invariant-loop-e
invariant-loop-e l =
    after l.vs.items (evs (terms_of (drop l.e-index l.formulas)) (scene_of l.sight)) ≡ evs (terms_of l.formulas) (scene_of l.sight)

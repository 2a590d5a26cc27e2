use Rattle.std.proofs.Common.{ap, ◌∙◌}
use Rattle.swift_expressions.specs.States.{put}
use Rattle.swift_lowering.specs.Assignments.{set_of}
use Rattle.swift_lowering.proofs.assignment.set.Goals as goal

pub returns-clause-state : goal.returns-clause-state
returns-clause-state c = λ n. (c.in-Some.to, c.in-Some.ensures.goes, c.store.ensures.state n ∙ ap (put (set_of c.in-Some.to c.args.found.value)) (c.destination_of.ensures.state (c.store.ensures.refused n)))

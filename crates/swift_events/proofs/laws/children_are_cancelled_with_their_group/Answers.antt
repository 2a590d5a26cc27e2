use Rattle.std.proofs.Common.{ap, ◌∙◌}
use Rattle.std.specs.Prelude.{◌||◌}
use Rattle.swift_events.specs.Relations.{parent_by, of_parent, is_named, is_cancelled_group}
use Rattle.swift_events.proofs.Cancels.{cancelled_step}
use Rattle.swift_events.proofs.laws.children_are_cancelled_with_their_group.Goals as goal

pub returns : goal.returns
returns c = λ log t o g older child. cancelled_step t log older ∙ ap (λ p. is_named t log || of_parent p (λ a b. is_cancelled_group a b log)) (ap parent_by child)

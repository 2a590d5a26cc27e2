use Rattle.std.proofs.Common.{codes}
use Rattle.swift_translation.specs.ActorTexts.{precondition_field}
use Rattle.swift_translation.specs.Names.{Precondition, spelled}
use Rattle.swift_translation.proofs.Writes.{three}
use Rattle.swift_translation.proofs.requirement.write_precondition_field.Goals as goal

pub returns : goal.returns
unfolding precondition_field
returns c =
    three c.args.out.now c.say.new.self c.say-2.new.self c.say-3.new.self
    (codes "\n    var ") (spelled Precondition) (codes " = 0;") c.say.ensures c.say-2.ensures c.say-3.ensures

use Rattle.swift_plain.specs.Actors.{field_text}
use Rattle.swift_plain.proofs.Lines.{then_goes}
use Rattle.swift_plain.proofs.actor.say_field.Goals as goal

pub returns : goal.returns
unfolding field_text
returns c =
    then_goes c.args.page.now c.say.new.self c.say_start.new.page _ _ c.say.ensures (then_goes c.say.new.self c.say_value.new.page c.say_start.new.page _ _ c.say_value.ensures (c.say_start.ensures))

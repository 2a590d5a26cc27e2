use Rattle.swift_plain.specs.Actors.{required_text}
use Rattle.swift_plain.proofs.Lines.{then_goes}
use Rattle.swift_plain.proofs.actor.say_required.Goals as goal

pub returns : goal.returns
unfolding required_text
returns c =
    then_goes c.args.page.now c.say.new.self c.say-2.new.self _ _ c.say.ensures (then_goes c.say.new.self c.say_test.new.page c.say-2.new.self _ _ c.say_test.ensures (c.say-2.ensures))

use Rattle.swift_plain.specs.Calls.{stated_priority}
use Rattle.swift_plain.proofs.Lines.{then_goes}
use Rattle.swift_plain.proofs.call.say_stated.Goals as goal

pub returns : goal.returns
unfolding stated_priority
returns c =
    then_goes c.args.page.now c.say.new.self c.say-3.new.self _ _ c.say.ensures (then_goes c.say.new.self c.say-2.new.self c.say-3.new.self _ _ (rw c.priority.ensures at c.say-2.ensures) (c.say-3.ensures))

use Rattle.swift_plain.specs.Calls.{detached_text}
use Rattle.swift_plain.proofs.Lines.{then_goes}
use Rattle.swift_plain.proofs.call.say_detached.Goals as goal

pub returns : goal.returns
unfolding detached_text
returns c =
    then_goes c.args.page.now c.say.new.self c.say_closure.new.page _ _ c.say.ensures (then_goes c.say.new.self c.say_priority.new.page c.say_closure.new.page _ _ (rw c.given_of.ensures at c.say_priority.ensures) (c.say_closure.ensures))

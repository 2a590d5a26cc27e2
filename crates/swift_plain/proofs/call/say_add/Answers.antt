use Rattle.swift_plain.proofs.Lines.{then_goes}
use Rattle.swift_plain.proofs.call.say_add.Goals as goal

pub returns : goal.returns
returns c =
    then_goes c.args.page.now c.say_all_named.new.page c.say_closure.new.page _ _ (rw c.deref.ensures.value at c.say_all_named.ensures) (then_goes c.say_all_named.new.page c.begin.new.self c.say_closure.new.page _ _ c.begin.ensures (then_goes c.begin.new.self c.say_value.new.page c.say_closure.new.page _ _ c.say_value.ensures (then_goes c.say_value.new.page c.say.new.self c.say_closure.new.page _ _ c.say.ensures (c.say_closure.ensures))))

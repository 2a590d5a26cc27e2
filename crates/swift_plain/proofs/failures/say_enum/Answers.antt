use Rattle.swift_plain.specs.Failures.{enum_text}
use Rattle.swift_plain.proofs.Lines.{then_goes}
use Rattle.swift_plain.proofs.failures.say_enum.Goals as goal

pub returns : goal.returns
unfolding enum_text
returns c =
    then_goes c.args.page.now c.say.new.self c.say-2.new.self _ _ c.say.ensures (then_goes c.say.new.self c.say_cases.new.page c.say-2.new.self _ _ c.say_cases.ensures (c.say-2.ensures))

use Rattle.swift_plain.specs.Statements.{throw_text}
use Rattle.swift_plain.proofs.Lines.{then_goes}
use Rattle.swift_plain.proofs.statement.say_throw.Goals as goal

pub returns : goal.returns
unfolding throw_text
returns c =
    then_goes c.args.page.now c.begin.new.self c.say-2.new.self _ _ c.begin.ensures (then_goes c.begin.new.self c.say.new.self c.say-2.new.self _ _ c.say.ensures (then_goes c.say.new.self c.say_thrown.new.page c.say-2.new.self _ _ c.say_thrown.ensures (c.say-2.ensures)))

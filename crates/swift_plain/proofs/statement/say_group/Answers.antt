use Rattle.swift_plain.specs.Statements.{group_text}
use Rattle.swift_plain.proofs.Lines.{then_goes}
use Rattle.swift_plain.proofs.statement.say_group.Goals as goal

pub returns : goal.returns
unfolding group_text
returns c =
    then_goes c.args.page.now c.say.new.self c.say-2.new.self _ _ (rw c.group_word.ensures at c.say.ensures) (then_goes c.say.new.self c.say_value.new.page c.say-2.new.self _ _ c.say_value.ensures (c.say-2.ensures))

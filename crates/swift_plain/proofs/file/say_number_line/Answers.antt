use Rattle.swift_plain.specs.Files.{number_line}
use Rattle.swift_plain.proofs.Lines.{then_goes}
use Rattle.swift_plain.proofs.file.say_number_line.Goals as goal

pub returns : goal.returns
unfolding number_line
returns c =
    then_goes c.args.page.now c.say.new.self c.say_number.new.page _ _ c.say.ensures (then_goes c.say.new.self c.say_given.new.page c.say_number.new.page _ _ (rw c.one_more.ensures at c.say_given.ensures) (c.say_number.ensures))

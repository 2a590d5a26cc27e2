use Rattle.swift_plain.specs.Files.{main_text}
use Rattle.swift_plain.proofs.Lines.{then_goes}
use Rattle.swift_plain.proofs.file.say_main.Goals as goal

pub returns : goal.returns
unfolding main_text
returns c =
    then_goes c.args.page.now c.say.new.self c.say-2.new.self _ _ c.say.ensures (then_goes c.say.new.self c.say_roots.new.page c.say-2.new.self _ _ c.say_roots.ensures (then_goes c.say_roots.new.page c.say_waits.new.page c.say-2.new.self _ _ c.say_waits.ensures (c.say-2.ensures)))

use Rattle.swift_plain.specs.Files.{task_text}
use Rattle.swift_plain.proofs.Lines.{then_goes}
use Rattle.swift_plain.proofs.file.say_task.Goals as goal

pub returns : goal.returns
unfolding task_text
returns c =
    then_goes c.args.page.now c.say.new.self c.say-6.new.self _ _ c.say.ensures (then_goes c.say.new.self c.say_value.new.page c.say-6.new.self _ _ c.say_value.ensures (then_goes c.say_value.new.page c.say-2.new.self c.say-6.new.self _ _ c.say-2.ensures (then_goes c.say-2.new.self c.say_priority.new.page c.say-6.new.self _ _ (rw c.given_of.ensures at c.say_priority.ensures) (then_goes c.say_priority.new.page c.say-3.new.self c.say-6.new.self _ _ c.say-3.ensures (then_goes c.say-3.new.self c.say-4.new.self c.say-6.new.self _ _ (rw c.method_throws-throws.ensures at (rw c.awaiting.ensures at c.say-4.ensures)) (then_goes c.say-4.new.self c.say_called.new.page c.say-6.new.self _ _ c.say_called.ensures (then_goes c.say_called.new.page c.say-5.new.self c.say-6.new.self _ _ c.say-5.ensures (then_goes c.say-5.new.self c.say_arguments.new.page c.say-6.new.self _ _ (rw c.deref.ensures.value at c.say_arguments.ensures) (c.say-6.ensures)))))))))

use Rattle.std.proofs.Common.{codes}
use Rattle.swift_translation.specs.ActorTexts.{root_text}
use Rattle.swift_translation.specs.ValueTexts.{name_text}
use Rattle.swift_translation.proofs.Writes.{three}
use Rattle.swift_translation.proofs.pool.write_root.Goals as goal

pub returns : goal.returns
unfolding root_text
returns c =
    three c.args.out.now c.say.new.self c.write_name.new.out c.say-2.new.self
    (codes "}\nroot main = ") (name_text c.args.source.now c.args.name) (codes ".main();\n") c.say.ensures c.write_name.ensures c.say-2.ensures

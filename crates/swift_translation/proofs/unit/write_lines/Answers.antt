use Rattle.std.proofs.Common.{codes, max}
use Rattle.swift_translation.specs.ActorTexts.{line_of_token, unit_lines}
use Rattle.swift_translation.specs.PlaceTexts.{lines_text}
use Rattle.swift_translation.proofs.Writes.{both}
use Rattle.swift_translation.proofs.unit.write_lines.Goals as goal

pub returns : goal.returns
unfolding unit_lines
returns c =
    both c.args.out.now c.say.new.self c.say_lines.new.out (codes "\n    // lines ")
    (lines_text (line_of_token c.args.source.now c.args.unit.token) (max (line_of_token c.args.source.now c.args.unit.end) (line_of_token c.args.source.now c.args.unit.token)))
    c.say.ensures (rw (c.later.ensures, c.line_of_token-first.ensures, c.line_of_token-last.ensures) at c.say_lines.ensures)

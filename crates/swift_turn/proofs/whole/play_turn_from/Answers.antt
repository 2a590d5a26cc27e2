use Rattle.script_code.specs.Seen.{rows_of}
use Rattle.swift_turn.proofs.Sparing.{first_spared}
use Rattle.swift_turn.proofs.whole.play_turn_from.Goals as goal

pub play_in_place-requires-clause-spared : goal.play_in_place-requires-clause-spared
play_in_place-requires-clause-spared c =
    first_spared c.args.body.now.script c.args.body.now.task.frames c.args.rows.now (rows_of c.args.fields.now.items) c.requires.rows c.requires.hold

use Rattle.nuchapay_runs.proofs.Prelude.{ap, turn_text}
use Rattle.swift_report.specs.declared.line.Line.{Line}
use Rattle.nuchapay_runs.proofs.Joined.{both, same}
use Rattle.nuchapay_runs.proofs.explained.write_head.Goals as goal

pub returns : goal.returns
returns c =
    let t = c.args.turn.now in
    let line = ap (λ (l : Line). turn_text t.names.script.now t.position l) c.requires.line in
    both (both (both (both (both (same line c.write_turn.ensures) c.say.ensures) c.write_task.ensures) c.say-2.ensures) c.say-3.ensures) c.write_ends.ensures

use Rattle.swift_report.proofs.Prelude.{codes, method_text, env_json, resume_and_exit_json, run_json}
use Rattle.swift_report.proofs.Pieces.{seven_joined}
use Rattle.swift_report.proofs.json.turns.turn.Goals as goal

pub returns : goal.returns
returns c =
    let p = c.args.script.now in
    let entry = c.args.entry.now in
    seven_joined c.say-3.result
    c.args.out.now.items c.run.new.out.items c.say.new.out.items c.method.new.out.items c.say-2.new.out.items c.env.new.out.items c.resume_and_exit.new.out.items c.say-3.new.out.items
    (run_json c.args.place entry) (codes ",\"method\":\"") (method_text p entry.method.0) (codes "\"") (env_json entry.env) (resume_and_exit_json p entry) (codes "}")
    c.in_ok-run.ensures c.in_ok-say.ensures c.in_ok-method.ensures c.in_ok-say-2.ensures c.in_ok-env.ensures c.in_ok-resume_and_exit.ensures
    c.say-3.ensures

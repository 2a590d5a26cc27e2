use Rattle.std.specs.Prelude.{codes}
use Rattle.swift_report.specs.Text.{method_text, env_text, run_text, resume_and_exit_text}
use Rattle.swift_report.proofs.Joined.{seven_joined}
use Rattle.swift_report.proofs.turns.turn.Goals as goal

pub returns : goal.returns
returns c =
    seven_joined c.extend_from_slice-3.result
    c.args.out.now.items c.run.new.out.items c.extend_from_slice.new.self.items c.method.new.out.items c.env.new.out.items c.extend_from_slice-2.new.self.items c.resume_and_exit.new.out.items c.extend_from_slice-3.new.self.items
    (run_text c.args.place c.args.entry.now) (codes " ") (method_text c.args.script.now c.args.entry.now.method.0) (env_text c.args.entry.now.env) (codes " ") (resume_and_exit_text c.args.script.now c.args.entry.now) (codes "\n")
    c.in_ok-run.ensures c.in_ok-extend_from_slice.ensures.items c.in_ok-method.ensures c.in_ok-env.ensures c.in_ok-extend_from_slice-2.ensures.items c.in_ok-resume_and_exit.ensures c.extend_from_slice-3.ensures.items

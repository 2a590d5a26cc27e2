use Rattle.swift_steps.proofs.Prelude.{rules, refl}
use Rattle.swift_steps.proofs.Steps.{root_step}
use Rattle.swift_steps.proofs.history.OpenHistory.add_root.Goals as goal

pub returns-in_ok-put-in-Ok-clause-follows : goal.returns-in_ok-put-in-Ok-clause-follows
returns-in_ok-put-in-Ok-clause-follows c = λ yes.
    (let made = c.from_job-ready.ensures in
    root_step c.args.self.now _ c.in-Ok.job c.from_job-ready.result.0 c.from_job-ready.result.1 c.requires refl refl refl (search rules) (search rules) (search rules) (search rules) c.in-Ok.ensures.body made.task made.ready c.in_ok-put-in-Ok.ensures)

use Rattle.swift_steps.proofs.Prelude.{rules, ◌≡◌, Some, ◌∙◌, sym, refl, given_at}
use Rattle.swift_steps.proofs.Steps.{begin_step}
use Rattle.swift_steps.proofs.history.OpenHistory.begin.Goals as goal

pub returns-in_ok-put-in-Ok-clause-follows : goal.returns-in_ok-put-in-Ok-clause-follows
returns-in_ok-put-in-Ok-clause-follows c = λ yes.
    (let x = c.args.self.now in
    let made = c.from_job-ready.ensures in
    let was : given_at x.tasks.items c.args.task.0 ≡ Some c.in-Some.ready = sym c.take.ensures.found ∙ c.in-Some.is in
    begin_step x _ c.take.new.tasks.items c.into_job-job.result c.args.task c.from_job-ready.result.0 c.in-Some.ready c.from_job-ready.result.1 c.in-Ok.field-0
    c.requires was c.into_job-job.ensures refl refl refl refl (search rules) (search rules) (search rules) made.task made.ready c.take.ensures.rest c.in_ok-put-in-Ok.ensures)

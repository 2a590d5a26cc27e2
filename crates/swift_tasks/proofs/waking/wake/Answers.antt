use Rattle.swift_tasks.proofs.Prelude.{◌∙◌, ap, sym, slice_set, Resume, WaitingTask, job_facts}
use Rattle.swift_tasks.proofs.HeldTaken.{job_at, wake_taken}
use Rattle.swift_tasks.proofs.waking.wake.Goals as goal

pub returns-in-Some-clause-follows : goal.returns-in-Some-clause-follows
returns-in-Some-clause-follows c =
    let h : WaitingTask = c.in-Some.field-0 in
    wake_taken c.args.held.now (slice_set c.args.held.now c.args.task.0 c.take.new.self) c.args.task.0 h c.args.resume c.args.jobs.now.items c.push_reserved.new.self.items c.new.result
    c.index-held-place.result c.if-place-held.true (sym c.in-Some.ensures.value)
    (ap (slice_set c.args.held.now c.args.task.0) c.take.ensures.after)
    c.push_reserved.ensures.items
    (ap job_facts c.new.ensures ∙ ap (λ (r : Resume). job_at c.args.task.0 h.number r h.body) c.resume_at-resume.ensures)

use Rattle.swift_tasks.proofs.waking.wake_all.Goals as goal

pub returns-clause-bodies : goal.returns-clause-bodies
returns-clause-bodies c = λ script held. (let b = c.wake_waiters.ensures.bodies script held in let d = c.wake_parent.ensures.bodies script b.0 in (d.0, λ jobs. d.1 (b.1 jobs)))

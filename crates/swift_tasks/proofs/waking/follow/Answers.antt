use Rattle.swift_tasks.proofs.Prelude.{sym, refl, subst, arith, [], ◌∷◌, Some, AllByRecursion, GoesOn, JobView, BodyView, at_rest, resume_at, WaitingTask, FitsScript, IsJobOf}
use Rattle.swift_tasks.proofs.HeldJobs.{all-append}
use Rattle.swift_tasks.proofs.HeldTaken.{all-set, held_follows}
use Rattle.swift_tasks.proofs.waking.follow.Goals as goal

pub returns-in-Some-clause-bodies : goal.returns-in-Some-clause-bodies
returns-in-Some-clause-bodies c = λ script is held.
    let j : JobView BodyView = record { task = c.args.task; number = c.args.number; resume = resume_at c.args.number c.in-Some.resume; body = at_rest c.args.body } in
    (held, λ jobs. subst (AllByRecursion (IsJobOf script)) (sym c.go_on.ensures.jobs) (all-append (IsJobOf script) c.args.jobs.now.items (j ∷ []) jobs (record { script_is = is; runs = c.requires.running (c.requires.goes c.in-Some.resume c.in-Some.is); rests = refl }, tt)))

pub returns-in-Ended-clause-bodies : goal.returns-in-Ended-clause-bodies
returns-in-Ended-clause-bodies c = λ script is held. c.wake_all.ensures.bodies script held

pub returns-in-Await : goal.returns-in-Await
returns-in-Await c =
    let h : WaitingTask = record { number = c.args.number; body = at_rest c.args.body } in
    record {
      follows = rw (c.in-None.is, c.in-Await.is) (held_follows c.args.held.now c.hold.new.held c.args.task.0 h c.args.jobs.now.items c.hold.ensures.held);
      bodies = λ script is held. (subst (AllByRecursion (FitsScript script)) (sym c.hold.ensures.held) (all-set (FitsScript script) c.args.held.now c.args.task.0 (Some h) held (is, c.requires.running (subst GoesOn (sym c.in-Await.is) tt), refl)), λ jobs. jobs);
      few = omega arith;
      capacity = refl;
    }

pub returns-in-Run : goal.returns-in-Run
returns-in-Run c =
    let h : WaitingTask = record { number = c.args.number; body = at_rest c.args.body } in
    record {
      follows = rw (c.in-None.is, c.in-Run.is) (held_follows c.args.held.now c.hold-in-Run.new.held c.args.task.0 h c.args.jobs.now.items c.hold-in-Run.ensures.held);
      bodies = λ script is held. (subst (AllByRecursion (FitsScript script)) (sym c.hold-in-Run.ensures.held) (all-set (FitsScript script) c.args.held.now c.args.task.0 (Some h) held (is, c.requires.running (subst GoesOn (sym c.in-Run.is) tt), refl)), λ jobs. jobs);
      few = omega arith;
      capacity = refl;
    }

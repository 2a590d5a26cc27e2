use Rattle.swift_executor.proofs.Prelude.{◌≡◌, ◌≤◌, ◌<◌, ◌+◌, List, length, map, get_or, ◌∷◌, refl, ap, sym, subst, ◌∙◌, arith, job_facts, TaskId}
use Rattle.std.specs.Prelude.{slice_set}
use Rattle.swift_shared_book.specs.declared.commits.Committed.{Committed}
use Rattle.swift_shared_book.specs.declared.commits.Committed.TheVariants as committed
use Rattle.swift_executor.specs.declared.aside.Aside.{Aside}
use Rattle.swift_executor.specs.BatchInside.{Batch, BeginsNext, CommitsEach, IsBatch, between}
use Rattle.swift_executor.specs.CommitAsideInside.{CommitsAside, LeavesAside}
use Rattle.swift_shared_book.specs.Commits.{SameUnlessApplied}
use Rattle.swift_shared_book.specs.Shared.{TicketedJobsView}
use Rattle.swift_executor.proofs.Batches.{StandsAt, aside_there, batch_begins, begins_here, between_at, between_none, between_set, between_set_here, may_commit, refuses_here, set_length, stands_next}
use Rattle.swift_executor.proofs.batch.commit_each.Goals as goal

pub loop-at-init : goal.loop-at-init
loop-at-init c = record {
  untouched = c.requires.untouched;
  run = c.requires.run;
  lock = refl;
  bodies = λ b. b;
  same = λ e. refl;
  stands = λ g is. (
    g.first.state,
    batch_begins c.args.worker c.args.book.now c.args.ready.now c.args.taken.seat.knows c.args.is_orderly.now (between 0 c.args.many c.args.asides.now) g (record { 0 = 0 }) (map job_facts c.args.jobs.now.jobs) is,
    is.plays,
  );
}

pub task_of-task-requires : goal.task_of-task-requires
task_of-task-requires c =
    let xs = c.loop-at.asides in
    let at = c.loop-at.at in
    let many = c.args.many in
    let d = c.index-asides-at.result in
    let within = c.requires.within in
    let len = c.loop-at.auto.asides in
    let le : many ≤ length xs = omega (arith, within, len) in
    let b = c.requires.batch in
    let jobs = map job_facts c.args.jobs.now.jobs in
    let mid = map job_facts c.loop-at.jobs.jobs in
    let st : StandsAt c.args.book.now c.args.worker at c.loop-at.last jobs mid b.0 c.loop-at.taken.seat.knows c.loop-at.is_orderly (get_or xs at d ∷ between (at + 1) many xs) =
    subst (λ (ys : List Aside). StandsAt c.args.book.now c.args.worker at c.loop-at.last jobs mid b.0 c.loop-at.taken.seat.knows c.loop-at.is_orderly ys) (between_at xs at many d c.loop-at-test.true le) (c.loop-at.invariant.stands b.0 b.1)
    in
    aside_there c.args.worker c.args.book.now c.args.ready.now c.args.taken.seat.knows c.args.is_orderly.now (between 0 many c.args.asides.now) b.0 b.1 at c.loop-at.last jobs mid c.loop-at.taken.seat.knows c.loop-at.is_orderly (get_or xs at d) (between (at + 1) many xs) st

pub commit_aside-ended-requires-clause-untouched : goal.commit_aside-ended-requires-clause-untouched
commit_aside-ended-requires-clause-untouched c = c.loop-at.invariant.untouched

pub commit_aside-ended-requires-clause-run : goal.commit_aside-ended-requires-clause-run
commit_aside-ended-requires-clause-run c = c.loop-at.invariant.run

pub commit_aside-ended-requires-clause-jobs : goal.commit_aside-ended-requires-clause-jobs
commit_aside-ended-requires-clause-jobs c = c.loop-at.invariant.lock ∙ c.requires.jobs

pub commit_aside-ended-requires-clause-aside : goal.commit_aside-ended-requires-clause-aside
commit_aside-ended-requires-clause-aside c =
    let xs = c.loop-at.asides in
    let at = c.loop-at.at in
    let many = c.args.many in
    let d = c.index-asides-at.result in
    let within = c.requires.within in
    let len = c.loop-at.auto.asides in
    let le : many ≤ length xs = omega (arith, within, len) in
    let b = c.requires.batch in
    let jobs = map job_facts c.args.jobs.now.jobs in
    let mid = map job_facts c.loop-at.jobs.jobs in
    let st : StandsAt c.args.book.now c.args.worker at c.loop-at.last jobs mid b.0 c.loop-at.taken.seat.knows c.loop-at.is_orderly (get_or xs at d ∷ between (at + 1) many xs) =
    subst (λ (ys : List Aside). StandsAt c.args.book.now c.args.worker at c.loop-at.last jobs mid b.0 c.loop-at.taken.seat.knows c.loop-at.is_orderly ys) (between_at xs at many d c.loop-at-test.true le) (c.loop-at.invariant.stands b.0 b.1)
    in (
      st.2.1.played,
      may_commit c.args.worker c.args.book.now c.args.ready.now c.args.taken.seat.knows c.args.is_orderly.now (between 0 many c.args.asides.now) b.0 b.1 at c.loop-at.last jobs mid c.loop-at.taken.seat.knows c.loop-at.is_orderly (get_or xs at d) (between (at + 1) many xs) st,
    )

pub returns-in-Begun : goal.returns-in-Begun
returns-in-Begun c =
    let xs = c.loop-at.asides in
    let at = c.loop-at.at in
    let many = c.args.many in
    let d = c.index-asides-at.result in
    let a = get_or xs at d in
    let others = between (at + 1) many xs in
    let within = c.requires.within in
    let len = c.loop-at.auto.asides in
    let le : many ≤ length xs = omega (arith, within, len) in
    let jobs = map job_facts c.args.jobs.now.jobs in
    let mid = map job_facts c.loop-at.jobs.jobs in
    let call = c.commit_aside-ended in
    let jobs' = map job_facts call.new.jobs.jobs in
    let knows = c.loop-at.taken.seat.knows in
    let order = c.loop-at.is_orderly in
    let env = c.in-Begun.env in
    let b = c.args.book.now in
    let left : call.new.aside ≡ a = subst (LeavesAside a call.new.aside) c.in-Begun.is call.ensures.aside in
    let there : between at many (slice_set xs at call.new.aside) ≡ a ∷ others = between_set_here xs at many call.new.aside c.loop-at-test.true le ∙ ap (λ (y : Aside). y ∷ others) left in
    let same_jobs = subst (λ (e : Committed). SameUnlessApplied c.loop-at.jobs call.new.jobs e) c.in-Begun.is call.ensures.same in
    record {
      done = λ g is. (
          let st : StandsAt b c.args.worker at c.loop-at.last jobs mid g knows order (a ∷ others) =
          subst (λ (ys : List Aside). StandsAt b c.args.worker at c.loop-at.last jobs mid g knows order ys) (between_at xs at many d c.loop-at-test.true le) (c.loop-at.invariant.stands g is)
          in
          subst (λ (ys : List Aside). BeginsNext b c.args.worker at c.loop-at.last jobs jobs' g ys env call.result.1.seat.knows call.new.is_orderly) (sym there)
          (begins_here c.args.worker b c.args.ready.now c.args.taken.seat.knows c.args.is_orderly.now (between 0 many c.args.asides.now) g is at c.loop-at.last jobs mid knows order a others st env jobs' call.result.1.seat.knows call.new.is_orderly
          (ap (λ (t : TicketedJobsView). map job_facts t.jobs) same_jobs)
          (λ q m. subst (λ (e : Committed). CommitsAside c.args.worker b mid jobs' knows call.result.1.seat.knows order call.new.is_orderly a q m.is e) c.in-Begun.is (call.ensures.done q m)))
          );
      within = c.loop-at.auto.at-end;
      same = λ e. same_jobs ∙ c.loop-at.invariant.same e;
      many = set_length xs at call.new.aside ∙ len;
      untouched = call.ensures.untouched;
      bodies = λ h. call.ensures.bodies (c.loop-at.invariant.bodies h);
      lock = call.ensures.lock ∙ c.loop-at.invariant.lock;
    }

pub returns-in-Refused : goal.returns-in-Refused
returns-in-Refused c =
    let xs = c.loop-at.asides in
    let at = c.loop-at.at in
    let many = c.args.many in
    let d = c.index-asides-at.result in
    let a = get_or xs at d in
    let others = between (at + 1) many xs in
    let within = c.requires.within in
    let len = c.loop-at.auto.asides in
    let le : many ≤ length xs = omega (arith, within, len) in
    let jobs = map job_facts c.args.jobs.now.jobs in
    let mid = map job_facts c.loop-at.jobs.jobs in
    let call = c.commit_aside-ended in
    let jobs' = map job_facts call.new.jobs.jobs in
    let knows = c.loop-at.taken.seat.knows in
    let order = c.loop-at.is_orderly in
    let b = c.args.book.now in
    let left : call.new.aside ≡ a = subst (LeavesAside a call.new.aside) c.in-Refused.is call.ensures.aside in
    let there : between at many (slice_set xs at call.new.aside) ≡ a ∷ others = between_set_here xs at many call.new.aside c.loop-at-test.true le ∙ ap (λ (y : Aside). y ∷ others) left in
    let same_jobs = subst (λ (e : Committed). SameUnlessApplied c.loop-at.jobs call.new.jobs e) c.in-Refused.is call.ensures.same in
    record {
      done = λ g is. (
          let st : StandsAt b c.args.worker at c.loop-at.last jobs mid g knows order (a ∷ others) =
          subst (λ (ys : List Aside). StandsAt b c.args.worker at c.loop-at.last jobs mid g knows order ys) (between_at xs at many d c.loop-at-test.true le) (c.loop-at.invariant.stands g is)
          in
          subst (λ (ys : List Aside). StandsAt b c.args.worker at c.loop-at.last jobs jobs' g call.result.1.seat.knows call.new.is_orderly ys) (sym there)
          (refuses_here c.args.worker b c.args.ready.now c.args.taken.seat.knows c.args.is_orderly.now (between 0 many c.args.asides.now) g is at c.loop-at.last jobs mid knows order a others st jobs' call.result.1.seat.knows call.new.is_orderly
          (ap (λ (t : TicketedJobsView). map job_facts t.jobs) same_jobs)
          (λ q m. subst (λ (e : Committed). CommitsAside c.args.worker b mid jobs' knows call.result.1.seat.knows order call.new.is_orderly a q m.is e) c.in-Refused.is (call.ensures.done q m)))
          );
      within = c.loop-at.auto.at-end;
      same = λ e. same_jobs ∙ c.loop-at.invariant.same e;
      many = set_length xs at call.new.aside ∙ len;
      untouched = call.ensures.untouched;
      bodies = λ h. call.ensures.bodies (c.loop-at.invariant.bodies h);
      lock = call.ensures.lock ∙ c.loop-at.invariant.lock;
    }

pub loop-at-preserved : goal.loop-at-preserved
loop-at-preserved c =
    let xs = c.loop-at.asides in
    let at = c.loop-at.at in
    let many = c.args.many in
    let d = c.index-asides-at.result in
    let a = get_or xs at d in
    let others = between (at + 1) many xs in
    let within = c.requires.within in
    let len = c.loop-at.auto.asides in
    let le : many ≤ length xs = omega (arith, within, len) in
    let jobs = map job_facts c.args.jobs.now.jobs in
    let mid = map job_facts c.loop-at.jobs.jobs in
    let call = c.commit_aside-ended in
    let jobs' = map job_facts call.new.jobs.jobs in
    let knows = c.loop-at.taken.seat.knows in
    let order = c.loop-at.is_orderly in
    let b = c.args.book.now in
    record {
      untouched = call.ensures.untouched;
      run = call.ensures.run;
      lock = call.ensures.lock ∙ c.loop-at.invariant.lock;
      bodies = λ h. call.ensures.bodies (c.loop-at.invariant.bodies h);
      same = λ e. absurd (omega (arith, e));
      stands = λ g is. (
          let st : StandsAt b c.args.worker at c.loop-at.last jobs mid g knows order (a ∷ others) =
          subst (λ (ys : List Aside). StandsAt b c.args.worker at c.loop-at.last jobs mid g knows order ys) (between_at xs at many d c.loop-at-test.true le) (c.loop-at.invariant.stands g is)
          in
          subst (λ (ys : List Aside). StandsAt b c.args.worker (at + 1) c.task_of-task.result jobs jobs' g call.result.1.seat.knows call.new.is_orderly ys) (sym (between_set xs at many call.new.aside))
          (stands_next c.args.worker b c.args.ready.now c.args.taken.seat.knows c.args.is_orderly.now (between 0 many c.args.asides.now) g is at c.loop-at.last jobs mid knows order a others st c.task_of-task.result jobs' call.result.1.seat.knows call.new.is_orderly
          c.task_of-task.ensures (λ q m. subst (λ (e : Committed). CommitsAside c.args.worker b mid jobs' knows call.result.1.seat.knows order call.new.is_orderly a q m.is e) c.in-Applied.is (call.ensures.done q m)))
          );
    }

pub returns-clause-done : goal.returns-clause-done
returns-clause-done c = λ g is. (
    let xs = c.loop-at.asides in
    let many = c.args.many in
    let test = c.loop-at-test.false in
    let end = c.loop-at.auto.at-end in
    let same : c.loop-at.at ≡ many = omega (arith, test, end) in
    let jobs = map job_facts c.args.jobs.now.jobs in
    let jobs' = map job_facts c.loop-at.jobs.jobs in
    let b = c.args.book.now in
    let st : StandsAt b c.args.worker many c.loop-at.last jobs jobs' g c.loop-at.taken.seat.knows c.loop-at.is_orderly (between many many xs) =
    subst (λ n. StandsAt b c.args.worker n c.loop-at.last jobs jobs' g c.loop-at.taken.seat.knows c.loop-at.is_orderly (between n many xs)) same (c.loop-at.invariant.stands g is)
    in
    subst (λ (ys : List Aside). StandsAt b c.args.worker many c.loop-at.last jobs jobs' g c.loop-at.taken.seat.knows c.loop-at.is_orderly ys) (between_none xs many) st
    )

pub returns-clause-same : goal.returns-clause-same
returns-clause-same c = λ e. (
    let test = c.loop-at-test.false in
    let end = c.loop-at.auto.at-end in
    c.loop-at.invariant.same (omega (arith, test, end, e))
    )

pub returns-clause-untouched : goal.returns-clause-untouched
returns-clause-untouched c = c.loop-at.invariant.untouched

pub returns-clause-bodies : goal.returns-clause-bodies
returns-clause-bodies c = c.loop-at.invariant.bodies

pub returns-clause-lock : goal.returns-clause-lock
returns-clause-lock c = c.loop-at.invariant.lock

use Rattle.swift_executor.proofs.Prelude.{◌≡◌, ◌≤◌, ◌<◌, ◌+◌, Option, Some, None, List, length, map, refl, ap, sym, subst, ◌∙◌, arith, job_facts, BookSeatView, OpenSeatView, seat_of, GoesTogether, ExecStateView, TakenView, taken_of, ScriptView, ReadyJobsView}
use Rattle.swift_shared_book.specs.declared.commits.Committed.{Committed}
use Rattle.swift_shared_book.specs.declared.commits.Committed.TheVariants as committed
use Rattle.swift_executor.specs.AsideInside.{IsShuffled, PlayAside, WasAside}
use Rattle.swift_executor.specs.BatchInside.{Batch, BeginsNext, CommitsEach, RewindsTo, RunsBatch, StartsBatch, between}
use Rattle.swift_executor.proofs.BatchEnds.{before_many, begun_ends, begun_task, behind_play, end_script, has_job, in_bounds, none_run, seat_there, starts, was_here}
use Rattle.swift_executor.proofs.Batches.{some_shuffled}
use Rattle.swift_executor.proofs.VisitSteps.{Done}
use Rattle.swift_executor.proofs.state.ExecState.commit_many.Goals as goal

pub lock-taken-requires : goal.lock-taken-requires
lock-taken-requires g c = (let r = c.requires.batch in seat_there c.args.worker c.args.book.now c.args.seat.now c.args.is_orderly.now (between 0 c.args.many c.args.asides.now) c.args.self.now r.0 r.1)

pub commit_each-kept-requires-clause-script : goal.commit_each-kept-requires-clause-script
commit_each-kept-requires-clause-script g c =
    let r = c.requires.batch in
    end_script c.args.worker c.args.book.now c.args.seat.now c.args.is_orderly.now (between 0 c.args.many c.args.asides.now) c.args.self.now r.0 r.1
    ∙ sym (ap (λ (s : ExecStateView). s.script) c.self.view_is) ∙ sym c.script-script.ensures

pub commit_each-kept-requires-clause-batch : goal.commit_each-kept-requires-clause-batch
commit_each-kept-requires-clause-batch g c =
    let r = c.requires.batch in (
      record { first = r.0; end = c.args.self.now },
      starts c.args.worker c.args.book.now c.args.seat.now c.args.is_orderly.now (between 0 c.args.many c.args.asides.now) c.args.self.now r.0 r.1
          c.self.inside.ready c.lock-taken.result.seat.knows (ap (λ (s : ExecStateView). s.ready) c.self.view_is) (ap (λ (o : OpenSeatView). o.knows) c.lock-taken.ensures.seat),
    )

pub bounds-asides-done : goal.bounds-asides-done
bounds-asides-done g c =
    let r = c.requires.batch in
    let b = c.args.book.now in
    let call = c.commit_each-kept in
    let end = call.result.0 in
    let batch : Batch = record { first = r.0; end = c.args.self.now } in
    let jobs = map job_facts c.args.jobs.now.jobs in
    let jobs' = map job_facts call.new.jobs.jobs in
    let knows = call.result.1.seat.knows in
    let order = call.new.is_orderly in
    let within = c.requires.within in
    let many = call.ensures.many in
    let le : c.args.many ≤ length call.new.asides = omega (arith, within, many) in
    let is =
    starts c.args.worker b c.args.seat.now c.args.is_orderly.now (between 0 c.args.many c.args.asides.now) c.args.self.now r.0 r.1
    c.self.inside.ready c.lock-taken.result.seat.knows (ap (λ (s : ExecStateView). s.ready) c.self.view_is) (ap (λ (o : OpenSeatView). o.knows) c.lock-taken.ensures.seat)
    in
    let x : BeginsNext b c.args.worker end.done end.last jobs jobs' batch (between end.done c.args.many call.new.asides) c.in-Begun.env knows order =
    subst (λ (e : Committed). CommitsEach b c.args.worker end.done end.last jobs jobs' batch (between end.done c.args.many call.new.asides) knows order e) c.in-Begun.is (call.ensures.done batch is)
    in
    in_bounds b c.args.worker end.done end.last jobs jobs' batch call.new.asides end.done c.args.many c.in-Begun.env knows order x call.ensures.within le

pub task_of-task-requires : goal.task_of-task-requires
task_of-task-requires g c =
    let r = c.requires.batch in
    let b = c.args.book.now in
    let call = c.commit_each-kept in
    let end = call.result.0 in
    let batch : Batch = record { first = r.0; end = c.args.self.now } in
    let jobs = map job_facts c.args.jobs.now.jobs in
    let jobs' = map job_facts call.new.jobs.jobs in
    let knows = call.result.1.seat.knows in
    let order = call.new.is_orderly in
    let within = c.requires.within in
    let many = call.ensures.many in
    let le : c.args.many ≤ length call.new.asides = omega (arith, within, many) in
    let is =
    starts c.args.worker b c.args.seat.now c.args.is_orderly.now (between 0 c.args.many c.args.asides.now) c.args.self.now r.0 r.1
    c.self.inside.ready c.lock-taken.result.seat.knows (ap (λ (s : ExecStateView). s.ready) c.self.view_is) (ap (λ (o : OpenSeatView). o.knows) c.lock-taken.ensures.seat)
    in
    let x : BeginsNext b c.args.worker end.done end.last jobs jobs' batch (between end.done c.args.many call.new.asides) c.in-Begun.env knows order =
    subst (λ (e : Committed). CommitsEach b c.args.worker end.done end.last jobs jobs' batch (between end.done c.args.many call.new.asides) knows order e) c.in-Begun.is (call.ensures.done batch is)
    in
    has_job b c.args.worker end.done end.last jobs jobs' batch call.new.asides end.done c.args.many c.in-Begun.env knows order x call.ensures.within le c.index-asides-done.result

pub undo_from-requires-clause-places : goal.undo_from-requires-clause-places
undo_from-requires-clause-places g c =
    let r = c.requires.batch in
    let b = c.args.book.now in
    let call = c.commit_each-kept in
    let end = call.result.0 in
    let batch : Batch = record { first = r.0; end = c.args.self.now } in
    let jobs = map job_facts c.args.jobs.now.jobs in
    let jobs' = map job_facts call.new.jobs.jobs in
    let knows = call.result.1.seat.knows in
    let order = call.new.is_orderly in
    let within = c.requires.within in
    let many = call.ensures.many in
    let le : c.args.many ≤ length call.new.asides = omega (arith, within, many) in
    let is =
    starts c.args.worker b c.args.seat.now c.args.is_orderly.now (between 0 c.args.many c.args.asides.now) c.args.self.now r.0 r.1
    c.self.inside.ready c.lock-taken.result.seat.knows (ap (λ (s : ExecStateView). s.ready) c.self.view_is) (ap (λ (o : OpenSeatView). o.knows) c.lock-taken.ensures.seat)
    in
    let x : BeginsNext b c.args.worker end.done end.last jobs jobs' batch (between end.done c.args.many call.new.asides) c.in-Begun.env knows order =
    subst (λ (e : Committed). CommitsEach b c.args.worker end.done end.last jobs jobs' batch (between end.done c.args.many call.new.asides) knows order e) c.in-Begun.is (call.ensures.done batch is)
    in
    let lt = before_many b c.args.worker end.done end.last jobs jobs' batch call.new.asides end.done c.args.many c.in-Begun.env knows order x call.ensures.within le in
    omega (arith, lt)

pub undo_from-requires-clause-aside : goal.undo_from-requires-clause-aside
undo_from-requires-clause-aside g c =
    let r = c.requires.batch in
    let b = c.args.book.now in
    let call = c.commit_each-kept in
    let end = call.result.0 in
    let batch : Batch = record { first = r.0; end = c.args.self.now } in
    let jobs = map job_facts c.args.jobs.now.jobs in
    let jobs' = map job_facts call.new.jobs.jobs in
    let knows = call.result.1.seat.knows in
    let order = call.new.is_orderly in
    let within = c.requires.within in
    let many = call.ensures.many in
    let le : c.args.many ≤ length call.new.asides = omega (arith, within, many) in
    let is =
    starts c.args.worker b c.args.seat.now c.args.is_orderly.now (between 0 c.args.many c.args.asides.now) c.args.self.now r.0 r.1
    c.self.inside.ready c.lock-taken.result.seat.knows (ap (λ (s : ExecStateView). s.ready) c.self.view_is) (ap (λ (o : OpenSeatView). o.knows) c.lock-taken.ensures.seat)
    in
    let x : BeginsNext b c.args.worker end.done end.last jobs jobs' batch (between end.done c.args.many call.new.asides) c.in-Begun.env knows order =
    subst (λ (e : Committed). CommitsEach b c.args.worker end.done end.last jobs jobs' batch (between end.done c.args.many call.new.asides) knows order e) c.in-Begun.is (call.ensures.done batch is)
    in
    (c.args.worker, x.next, behind_play b c.args.worker end.done end.last jobs jobs' batch call.new.asides end.done c.args.many c.in-Begun.env knows order x call.ensures.within le)

pub bounds-asides-done-in-Begun : goal.bounds-asides-done-in-Begun
bounds-asides-done-in-Begun g c =
    let r = c.requires.batch in
    let b = c.args.book.now in
    let call = c.commit_each-kept in
    let end = call.result.0 in
    let batch : Batch = record { first = r.0; end = c.args.self.now } in
    let jobs = map job_facts c.args.jobs.now.jobs in
    let jobs' = map job_facts call.new.jobs.jobs in
    let knows = call.result.1.seat.knows in
    let order = call.new.is_orderly in
    let within = c.requires.within in
    let many = call.ensures.many in
    let le : c.args.many ≤ length call.new.asides = omega (arith, within, many) in
    let is =
    starts c.args.worker b c.args.seat.now c.args.is_orderly.now (between 0 c.args.many c.args.asides.now) c.args.self.now r.0 r.1
    c.self.inside.ready c.lock-taken.result.seat.knows (ap (λ (s : ExecStateView). s.ready) c.self.view_is) (ap (λ (o : OpenSeatView). o.knows) c.lock-taken.ensures.seat)
    in
    let x : BeginsNext b c.args.worker end.done end.last jobs jobs' batch (between end.done c.args.many call.new.asides) c.in-Begun.env knows order =
    subst (λ (e : Committed). CommitsEach b c.args.worker end.done end.last jobs jobs' batch (between end.done c.args.many call.new.asides) knows order e) c.in-Begun.is (call.ensures.done batch is)
    in
    let lt = in_bounds b c.args.worker end.done end.last jobs jobs' batch call.new.asides end.done c.args.many c.in-Begun.env knows order x call.ensures.within le in
    let len = c.undo_from.ensures.len in
    omega (arith, lt, len)

pub take_begun-requires : goal.take_begun-requires
take_begun-requires g c =
    let r = c.requires.batch in
    let b = c.args.book.now in
    let call = c.commit_each-kept in
    let end = call.result.0 in
    let batch : Batch = record { first = r.0; end = c.args.self.now } in
    let jobs = map job_facts c.args.jobs.now.jobs in
    let jobs' = map job_facts call.new.jobs.jobs in
    let knows = call.result.1.seat.knows in
    let order = call.new.is_orderly in
    let within = c.requires.within in
    let many = call.ensures.many in
    let le : c.args.many ≤ length call.new.asides = omega (arith, within, many) in
    let is =
    starts c.args.worker b c.args.seat.now c.args.is_orderly.now (between 0 c.args.many c.args.asides.now) c.args.self.now r.0 r.1
    c.self.inside.ready c.lock-taken.result.seat.knows (ap (λ (s : ExecStateView). s.ready) c.self.view_is) (ap (λ (o : OpenSeatView). o.knows) c.lock-taken.ensures.seat)
    in
    let x : BeginsNext b c.args.worker end.done end.last jobs jobs' batch (between end.done c.args.many call.new.asides) c.in-Begun.env knows order =
    subst (λ (e : Committed). CommitsEach b c.args.worker end.done end.last jobs jobs' batch (between end.done c.args.many call.new.asides) knows order e) c.in-Begun.is (call.ensures.done batch is)
    in
    let play = behind_play b c.args.worker end.done end.last jobs jobs' batch call.new.asides end.done c.args.many c.in-Begun.env knows order x call.ensures.within le in
    record {
      aside = (
        x.plays.played,
        was_here b c.args.worker end.done end.last jobs jobs' batch call.new.asides end.done c.args.many c.in-Begun.env knows order x call.ensures.within le
            c.undo_from.new.asides c.index-asides-done-in-Begun.result c.undo_from.new.self c.undo_from.ensures.before c.undo_from.ensures.len (c.undo_from.ensures.state c.args.worker x.next play),
      );
    }

pub undo_from-requires-in-Refused-clause-aside : goal.undo_from-requires-in-Refused-clause-aside
undo_from-requires-in-Refused-clause-aside g c =
    let r = c.requires.batch in
    let b = c.args.book.now in
    let call = c.commit_each-kept in
    let end = call.result.0 in
    let batch : Batch = record { first = r.0; end = c.args.self.now } in
    let is =
    starts c.args.worker b c.args.seat.now c.args.is_orderly.now (between 0 c.args.many c.args.asides.now) c.args.self.now r.0 r.1
    c.self.inside.ready c.lock-taken.result.seat.knows (ap (λ (s : ExecStateView). s.ready) c.self.view_is) (ap (λ (o : OpenSeatView). o.knows) c.lock-taken.ensures.seat)
    in
    let st =
    subst (λ (e : Committed). CommitsEach b c.args.worker end.done end.last (map job_facts c.args.jobs.now.jobs) (map job_facts call.new.jobs.jobs) batch (between end.done c.args.many call.new.asides) call.result.1.seat.knows call.new.is_orderly e)
    c.in-Refused.is (call.ensures.done batch is)
    in
    (c.args.worker, st.0, st.2)

pub returns-in-Applied-clause-done : goal.returns-in-Applied-clause-done
returns-in-Applied-clause-done g c = λ r st. (
    let b = c.args.book.now in
    let call = c.commit_each-kept in
    let end = call.result.0 in
    let batch : Batch = record { first = r; end = c.args.self.now } in
    let jobs = map job_facts c.args.jobs.now.jobs in
    let jobs' = map job_facts call.new.jobs.jobs in
    let knows = call.result.1.seat.knows in
    let order = call.new.is_orderly in
    let is =
    starts c.args.worker b c.args.seat.now c.args.is_orderly.now (between 0 c.args.many c.args.asides.now) c.args.self.now r st
    c.self.inside.ready c.lock-taken.result.seat.knows (ap (λ (s : ExecStateView). s.ready) c.self.view_is) (ap (λ (o : OpenSeatView). o.knows) c.lock-taken.ensures.seat)
    in
    let h = subst (λ (e : Committed). CommitsEach b c.args.worker end.done end.last jobs jobs' batch (between end.done c.args.many call.new.asides) knows order e) c.in-Applied.is (call.ensures.done batch is) in
    let all : Done (RunsBatch c.args.worker end.done end.last None jobs jobs' r) (taken_of c.args.self.now r.taker (seat_of b knows) order) = some_shuffled b c.args.worker end.done end.last jobs jobs' r knows order h.0 c.args.self.now h.1 h.2 in
    subst (λ (y : BookSeatView). RunsBatch c.args.worker end.done end.last None jobs jobs' r (taken_of c.args.self.now r.taker y order)) (sym c.leave.ensures) all.does
    )

pub returns-in-Applied-clause-together : goal.returns-in-Applied-clause-together
returns-in-Applied-clause-together g c = λ r st. (
    let b = c.args.book.now in
    let call = c.commit_each-kept in
    let end = call.result.0 in
    let batch : Batch = record { first = r; end = c.args.self.now } in
    let jobs = map job_facts c.args.jobs.now.jobs in
    let jobs' = map job_facts call.new.jobs.jobs in
    let knows = call.result.1.seat.knows in
    let order = call.new.is_orderly in
    let is =
    starts c.args.worker b c.args.seat.now c.args.is_orderly.now (between 0 c.args.many c.args.asides.now) c.args.self.now r st
    c.self.inside.ready c.lock-taken.result.seat.knows (ap (λ (s : ExecStateView). s.ready) c.self.view_is) (ap (λ (o : OpenSeatView). o.knows) c.lock-taken.ensures.seat)
    in
    let h = subst (λ (e : Committed). CommitsEach b c.args.worker end.done end.last jobs jobs' batch (between end.done c.args.many call.new.asides) knows order e) c.in-Applied.is (call.ensures.done batch is) in
    let all : Done (RunsBatch c.args.worker end.done end.last None jobs jobs' r) (taken_of c.args.self.now r.taker (seat_of b knows) order) = some_shuffled b c.args.worker end.done end.last jobs jobs' r knows order h.0 c.args.self.now h.1 h.2 in
    subst (λ (y : BookSeatView). GoesTogether (taken_of c.args.self.now r.taker y order)) (sym c.leave.ensures) all.together
    )

pub returns-in-Begun-clause-done : goal.returns-in-Begun-clause-done
returns-in-Begun-clause-done g c = λ r st. (
    let b = c.args.book.now in
    let call = c.commit_each-kept in
    let end = call.result.0 in
    let batch : Batch = record { first = r; end = c.args.self.now } in
    let jobs = map job_facts c.args.jobs.now.jobs in
    let jobs' = map job_facts call.new.jobs.jobs in
    let knows = call.result.1.seat.knows in
    let order = call.new.is_orderly in
    let is =
    starts c.args.worker b c.args.seat.now c.args.is_orderly.now (between 0 c.args.many c.args.asides.now) c.args.self.now r st
    c.self.inside.ready c.lock-taken.result.seat.knows (ap (λ (s : ExecStateView). s.ready) c.self.view_is) (ap (λ (o : OpenSeatView). o.knows) c.lock-taken.ensures.seat)
    in
    let within = c.requires.within in
    let many = call.ensures.many in
    let le : c.args.many ≤ length call.new.asides = omega (arith, within, many) in
    let x : BeginsNext b c.args.worker end.done end.last jobs jobs' batch (between end.done c.args.many call.new.asides) c.in-Begun.env knows order =
    subst (λ (e : Committed). CommitsEach b c.args.worker end.done end.last jobs jobs' batch (between end.done c.args.many call.new.asides) knows order e) c.in-Begun.is (call.ensures.done batch is)
    in
    let play = behind_play b c.args.worker end.done end.last jobs jobs' batch call.new.asides end.done c.args.many c.in-Begun.env knows order x call.ensures.within le in
    let was =
    was_here b c.args.worker end.done end.last jobs jobs' batch call.new.asides end.done c.args.many c.in-Begun.env knows order x call.ensures.within le
    c.undo_from.new.asides c.index-asides-done-in-Begun.result c.undo_from.new.self c.undo_from.ensures.before c.undo_from.ensures.len (c.undo_from.ensures.state c.args.worker x.next play)
    in
    let rw : RewindsTo c.in-Begun.env x.plays.played c.take_begun.new.self = c.take_begun.ensures.begun x.plays.played was in
    let task = c.task_of-task.result in
    let of_task = begun_task b c.args.worker end.done end.last jobs jobs' batch call.new.asides end.done c.args.many c.in-Begun.env knows order x call.ensures.within le c.index-asides-done.result task c.task_of-task.ensures in
    let all : Done (RunsBatch c.args.worker end.done end.last (Some task) jobs jobs' r) (taken_of c.take_begun.new.self r.taker (seat_of b knows) order) =
    begun_ends b c.args.worker end.done end.last jobs jobs' batch (between end.done c.args.many call.new.asides) c.in-Begun.env knows order x c.take_begun.new.self rw task of_task
    in
    subst (λ (s : ExecStateView). RunsBatch c.args.worker end.done end.last (Some task) jobs jobs' r (taken_of s r.taker c.leave.new.seat order)) (sym c.pause.ensures)
    (subst (λ (y : BookSeatView). RunsBatch c.args.worker end.done end.last (Some task) jobs jobs' r (taken_of c.take_begun.new.self r.taker y order)) (sym c.leave.ensures) all.does)
    )

pub returns-in-Begun-clause-together : goal.returns-in-Begun-clause-together
returns-in-Begun-clause-together g c = λ r st. (
    let b = c.args.book.now in
    let call = c.commit_each-kept in
    let end = call.result.0 in
    let batch : Batch = record { first = r; end = c.args.self.now } in
    let jobs = map job_facts c.args.jobs.now.jobs in
    let jobs' = map job_facts call.new.jobs.jobs in
    let knows = call.result.1.seat.knows in
    let order = call.new.is_orderly in
    let is =
    starts c.args.worker b c.args.seat.now c.args.is_orderly.now (between 0 c.args.many c.args.asides.now) c.args.self.now r st
    c.self.inside.ready c.lock-taken.result.seat.knows (ap (λ (s : ExecStateView). s.ready) c.self.view_is) (ap (λ (o : OpenSeatView). o.knows) c.lock-taken.ensures.seat)
    in
    let within = c.requires.within in
    let many = call.ensures.many in
    let le : c.args.many ≤ length call.new.asides = omega (arith, within, many) in
    let x : BeginsNext b c.args.worker end.done end.last jobs jobs' batch (between end.done c.args.many call.new.asides) c.in-Begun.env knows order =
    subst (λ (e : Committed). CommitsEach b c.args.worker end.done end.last jobs jobs' batch (between end.done c.args.many call.new.asides) knows order e) c.in-Begun.is (call.ensures.done batch is)
    in
    let play = behind_play b c.args.worker end.done end.last jobs jobs' batch call.new.asides end.done c.args.many c.in-Begun.env knows order x call.ensures.within le in
    let was =
    was_here b c.args.worker end.done end.last jobs jobs' batch call.new.asides end.done c.args.many c.in-Begun.env knows order x call.ensures.within le
    c.undo_from.new.asides c.index-asides-done-in-Begun.result c.undo_from.new.self c.undo_from.ensures.before c.undo_from.ensures.len (c.undo_from.ensures.state c.args.worker x.next play)
    in
    let rw : RewindsTo c.in-Begun.env x.plays.played c.take_begun.new.self = c.take_begun.ensures.begun x.plays.played was in
    let task = c.task_of-task.result in
    let of_task = begun_task b c.args.worker end.done end.last jobs jobs' batch call.new.asides end.done c.args.many c.in-Begun.env knows order x call.ensures.within le c.index-asides-done.result task c.task_of-task.ensures in
    let all : Done (RunsBatch c.args.worker end.done end.last (Some task) jobs jobs' r) (taken_of c.take_begun.new.self r.taker (seat_of b knows) order) =
    begun_ends b c.args.worker end.done end.last jobs jobs' batch (between end.done c.args.many call.new.asides) c.in-Begun.env knows order x c.take_begun.new.self rw task of_task
    in
    subst (λ (s : ExecStateView). GoesTogether (taken_of s r.taker c.leave.new.seat order)) (sym c.pause.ensures)
    (subst (λ (y : BookSeatView). GoesTogether (taken_of c.take_begun.new.self r.taker y order)) (sym c.leave.ensures) all.together)
    )

pub returns-in-Refused-clause-done : goal.returns-in-Refused-clause-done
returns-in-Refused-clause-done g c = λ r st. (
    let b = c.args.book.now in
    let call = c.commit_each-kept in
    let end = call.result.0 in
    let batch : Batch = record { first = r; end = c.args.self.now } in
    let jobs = map job_facts c.args.jobs.now.jobs in
    let jobs' = map job_facts call.new.jobs.jobs in
    let knows = call.result.1.seat.knows in
    let order = call.new.is_orderly in
    let is =
    starts c.args.worker b c.args.seat.now c.args.is_orderly.now (between 0 c.args.many c.args.asides.now) c.args.self.now r st
    c.self.inside.ready c.lock-taken.result.seat.knows (ap (λ (s : ExecStateView). s.ready) c.self.view_is) (ap (λ (o : OpenSeatView). o.knows) c.lock-taken.ensures.seat)
    in
    let h = subst (λ (e : Committed). CommitsEach b c.args.worker end.done end.last jobs jobs' batch (between end.done c.args.many call.new.asides) knows order e) c.in-Refused.is (call.ensures.done batch is) in
    let undone : IsShuffled h.0 c.undo_from-in-Refused.new.self = c.undo_from-in-Refused.ensures.state c.args.worker h.0 h.2 in
    let new = c.undo_from-in-Refused.new.self in
    let all : Done (RunsBatch c.args.worker end.done end.last None jobs jobs' r) (taken_of new r.taker (seat_of b knows) order) = some_shuffled b c.args.worker end.done end.last jobs jobs' r knows order h.0 new h.1 undone in
    subst (λ (s : ExecStateView). RunsBatch c.args.worker end.done end.last None jobs jobs' r (taken_of s r.taker c.leave.new.seat order)) (sym c.pause-in-Refused.ensures)
    (subst (λ (y : BookSeatView). RunsBatch c.args.worker end.done end.last None jobs jobs' r (taken_of new r.taker y order)) (sym c.leave.ensures) all.does)
    )

pub returns-in-Refused-clause-together : goal.returns-in-Refused-clause-together
returns-in-Refused-clause-together g c = λ r st. (
    let b = c.args.book.now in
    let call = c.commit_each-kept in
    let end = call.result.0 in
    let batch : Batch = record { first = r; end = c.args.self.now } in
    let jobs = map job_facts c.args.jobs.now.jobs in
    let jobs' = map job_facts call.new.jobs.jobs in
    let knows = call.result.1.seat.knows in
    let order = call.new.is_orderly in
    let is =
    starts c.args.worker b c.args.seat.now c.args.is_orderly.now (between 0 c.args.many c.args.asides.now) c.args.self.now r st
    c.self.inside.ready c.lock-taken.result.seat.knows (ap (λ (s : ExecStateView). s.ready) c.self.view_is) (ap (λ (o : OpenSeatView). o.knows) c.lock-taken.ensures.seat)
    in
    let h = subst (λ (e : Committed). CommitsEach b c.args.worker end.done end.last jobs jobs' batch (between end.done c.args.many call.new.asides) knows order e) c.in-Refused.is (call.ensures.done batch is) in
    let undone : IsShuffled h.0 c.undo_from-in-Refused.new.self = c.undo_from-in-Refused.ensures.state c.args.worker h.0 h.2 in
    let new = c.undo_from-in-Refused.new.self in
    let all : Done (RunsBatch c.args.worker end.done end.last None jobs jobs' r) (taken_of new r.taker (seat_of b knows) order) = some_shuffled b c.args.worker end.done end.last jobs jobs' r knows order h.0 new h.1 undone in
    subst (λ (s : ExecStateView). GoesTogether (taken_of s r.taker c.leave.new.seat order)) (sym c.pause-in-Refused.ensures)
    (subst (λ (y : BookSeatView). GoesTogether (taken_of new r.taker y order)) (sym c.leave.ensures) all.together)
    )

pub returns-in-Begun-clause-begun : goal.returns-in-Begun-clause-begun
returns-in-Begun-clause-begun g c =
    let r = c.requires.batch in
    let b = c.args.book.now in
    let call = c.commit_each-kept in
    let end = call.result.0 in
    let batch : Batch = record { first = r.0; end = c.args.self.now } in
    let jobs = map job_facts c.args.jobs.now.jobs in
    let jobs' = map job_facts call.new.jobs.jobs in
    let knows = call.result.1.seat.knows in
    let order = call.new.is_orderly in
    let within = c.requires.within in
    let many = call.ensures.many in
    let le : c.args.many ≤ length call.new.asides = omega (arith, within, many) in
    let is =
    starts c.args.worker b c.args.seat.now c.args.is_orderly.now (between 0 c.args.many c.args.asides.now) c.args.self.now r.0 r.1
    c.self.inside.ready c.lock-taken.result.seat.knows (ap (λ (s : ExecStateView). s.ready) c.self.view_is) (ap (λ (o : OpenSeatView). o.knows) c.lock-taken.ensures.seat)
    in
    let x : BeginsNext b c.args.worker end.done end.last jobs jobs' batch (between end.done c.args.many call.new.asides) c.in-Begun.env knows order =
    subst (λ (e : Committed). CommitsEach b c.args.worker end.done end.last jobs jobs' batch (between end.done c.args.many call.new.asides) knows order e) c.in-Begun.is (call.ensures.done batch is)
    in
    before_many b c.args.worker end.done end.last jobs jobs' batch call.new.asides end.done c.args.many c.in-Begun.env knows order x call.ensures.within le

pub returns-then-many-eq0-clause-done : goal.returns-then-many-eq0-clause-done
returns-then-many-eq0-clause-done g c = λ r st. (none_run c.args.worker c.args.book.now c.args.seat.now c.args.is_orderly.now c.args.asides.now c.args.many c.args.self.now (map job_facts c.args.jobs.now.jobs) r st c.if-many-eq0.true).does

pub returns-then-many-eq0-clause-together : goal.returns-then-many-eq0-clause-together
returns-then-many-eq0-clause-together g c = λ r st. (none_run c.args.worker c.args.book.now c.args.seat.now c.args.is_orderly.now c.args.asides.now c.args.many c.args.self.now (map job_facts c.args.jobs.now.jobs) r st c.if-many-eq0.true).together

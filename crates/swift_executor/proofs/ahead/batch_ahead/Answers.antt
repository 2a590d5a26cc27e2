use Rattle.swift_executor.proofs.Prelude.{◌≡◌, ◌+◌, Option, Some, None, map, sym, subst, ap, ◌∙◌, job_facts, TaskId}
use Rattle.swift_shared_book.specs.Shared.{TicketedJobsView}
use Rattle.swift_executor.specs.BatchInside.{RunsBatch}
use Rattle.swift_executor.specs.Visits.{RunsTurns}
use Rattle.swift_executor.proofs.TurnsRun.{begun_finished, begun_name, begun_of, begun_refused, begun_stays, jobs_more}
use Rattle.swift_executor.proofs.VisitSteps.{script_stays, stays_so}
use Rattle.swift_executor.proofs.ahead.batch_ahead.Goals as goal

pub finish_one-requires-clause-book : goal.finish_one-requires-clause-book
finish_one-requires-clause-book g c =
    let call = c.run_batch-ran in
    let ran = call.result in
    let jobs = map job_facts c.args.jobs.now.jobs in
    let mid = map job_facts call.new.jobs.jobs in
    let is : RunsBatch c.args.worker ran.done ran.last (Some c.in-Some.task) jobs mid c.args.held.now call.new.held = subst (λ (o : Option TaskId). RunsBatch c.args.worker ran.done ran.last o jobs mid c.args.held.now call.new.held) c.in-Some.is call.ensures.done in
    begun_of c.args.worker ran.done ran.last c.in-Some.task jobs mid c.args.held.now call.new.held is c.args.book.now c.requires.book

pub returns-in-Ok-clause-runs : goal.returns-in-Ok-clause-runs
returns-in-Ok-clause-runs g c =
    let call = c.run_batch-ran in
    let ran = call.result in
    let jobs = map job_facts c.args.jobs.now.jobs in
    let mid = map job_facts call.new.jobs.jobs in
    let is : RunsBatch c.args.worker ran.done ran.last (Some c.in-Some.task) jobs mid c.args.held.now call.new.held = subst (λ (o : Option TaskId). RunsBatch c.args.worker ran.done ran.last o jobs mid c.args.held.now call.new.held) c.in-Some.is call.ensures.done in
    begun_finished c.args.worker ran.done ran.last c.in-Some.task jobs mid c.args.held.now call.new.held is (map job_facts c.finish_one.new.jobs.jobs) c.finish_one.new.held c.in-Ok.ensures.finishes

pub returns-in-Ok-clause-jobs : goal.returns-in-Ok-clause-jobs
returns-in-Ok-clause-jobs g c =
    let call = c.run_batch-ran in
    let ran = call.result in
    let jobs = map job_facts c.args.jobs.now.jobs in
    let mid = map job_facts call.new.jobs.jobs in
    let is : RunsBatch c.args.worker ran.done ran.last (Some c.in-Some.task) jobs mid c.args.held.now call.new.held = subst (λ (o : Option TaskId). RunsBatch c.args.worker ran.done ran.last o jobs mid c.args.held.now call.new.held) c.in-Some.is call.ensures.done in
    let name = is.3.name ∙ (begun_name c.args.worker ran.done ran.last c.in-Some.task jobs mid c.args.held.now call.new.held is).0 in
    jobs_more c.args.held.now.state.script call.new.held.state.script c.args.jobs.now call.new.jobs c.finish_one.new.jobs (script_stays c.args.held.now call.new.held name) call.ensures.jobs c.finish_one.ensures.jobs

pub returns-then-done-eq0-clause-refused : goal.returns-then-done-eq0-clause-refused
returns-then-done-eq0-clause-refused g c =
    let call = c.run_batch-ran in
    let ran = call.result in
    let jobs = map job_facts c.args.jobs.now.jobs in
    let mid = map job_facts call.new.jobs.jobs in
    let is : RunsBatch c.args.worker ran.done ran.last (Some c.in-Some.task) jobs mid c.args.held.now call.new.held = subst (λ (o : Option TaskId). RunsBatch c.args.worker ran.done ran.last o jobs mid c.args.held.now call.new.held) c.in-Some.is call.ensures.done in
    begun_refused c.args.worker ran.done ran.last c.in-Some.task jobs mid c.args.held.now call.new.held is c.finish_one.new.held c.in-Err.fault c.if-done-eq0.true c.in-Err.ensures.stays c.in-Err.ensures.refused

pub returns-else-done-eq0-clause-runs : goal.returns-else-done-eq0-clause-runs
returns-else-done-eq0-clause-runs g c =
    let call = c.run_batch-ran in
    let ran = call.result in
    let jobs = map job_facts c.args.jobs.now.jobs in
    let mid = map job_facts call.new.jobs.jobs in
    let is : RunsBatch c.args.worker ran.done ran.last (Some c.in-Some.task) jobs mid c.args.held.now call.new.held = subst (λ (o : Option TaskId). RunsBatch c.args.worker ran.done ran.last o jobs mid c.args.held.now call.new.held) c.in-Some.is call.ensures.done in
    let runs = begun_stays c.args.worker ran.done ran.last c.in-Some.task jobs mid c.args.held.now call.new.held is c.finish_one.new.held c.in-Err.ensures.stays in
    subst (λ (t : TicketedJobsView). RunsTurns c.args.worker ran.done ran.last jobs (map job_facts t.jobs) c.args.held.now c.finish_one.new.held) (sym c.in-Err.ensures.none) runs

pub returns-then-most-lt2-clause-none : goal.returns-then-most-lt2-clause-none
returns-then-most-lt2-clause-none g c = record { stays = stays_so c.args.held.now c.requires.free; is_of = λ x. x }

pub returns-in-Ok-clause-kept : goal.returns-in-Ok-clause-kept
returns-in-Ok-clause-kept g c = λ fact h. c.finish_one.ensures.kept fact (c.run_batch-ran.ensures.kept fact h)

use Rattle.swift_executor.proofs.Prelude.{inr, map, ap, subst, ◌∙◌, List, IfOk, IfSome, err_from_is_err_and, JobFacts, job_facts, Finishes, FindsNone, IsRefused, RunsTurn}
use Rattle.swift_shared_book.specs.Shared.{TicketedJobsView}
use Rattle.swift_executor.proofs.PlayedAhead.{lift_err, lift_none, lift_runs}
use Rattle.swift_executor.proofs.VisitSteps.{book_stays, is_begun, stays_begun}
use Rattle.swift_executor.proofs.ahead.turn_ahead.Goals as goal

pub finish_one-requires-clause-begun : goal.finish_one-requires-clause-begun
finish_one-requires-clause-begun g c = (let d = c.in-Begun.ensures.done in is_begun c.args.worker c.in-Begun.task d.ready c.play_ahead.new.held d.does)

pub finish_one-requires-clause-book : goal.finish_one-requires-clause-book
finish_one-requires-clause-book g c = (let d = c.in-Begun.ensures.done in book_stays c.args.book.now c.args.held.now c.play_ahead.new.held (d.does.name ∙ d.whole.stays.goes_on.0) c.requires.book)

pub turn_one-requires-clause-free : goal.turn_one-requires-clause-free
turn_one-requires-clause-free g c = c.in-Not.ensures.done.stays.goes_on.1

pub turn_one-requires-clause-book : goal.turn_one-requires-clause-book
turn_one-requires-clause-book g c = book_stays c.args.book.now c.args.held.now c.play_ahead.new.held c.in-Not.ensures.done.stays.goes_on.0 c.requires.book

pub returns-in_ok-finish_one-in-Begun-clause-runs : goal.returns-in_ok-finish_one-in-Begun-clause-runs
returns-in_ok-finish_one-in-Begun-clause-runs g c =
    let d = c.in-Begun.ensures.done in
    let mid = c.play_ahead.new.held in
    let same = ap (λ (t : TicketedJobsView). map job_facts t.jobs) c.in-Begun.ensures.same in
    record {
      ready = d.ready;
      whole = d.whole;
      does = record {
        begun = mid;
        begins = d.does;
        finishes = subst (λ (l : List JobFacts). Finishes l (map job_facts c.finish_one.new.jobs.jobs) mid c.finish_one.new.held) same c.in_ok-finish_one-in-Begun.ensures.finishes;
      };
    }

pub returns-in_err-finish_one-in-Begun-clause-refused : goal.returns-in_err-finish_one-in-Begun-clause-refused
returns-in_err-finish_one-in-Begun-clause-refused g c =
    let d = c.in-Begun.ensures.done in
    let mid = c.play_ahead.new.held in
    let e = c.in_err-finish_one-in-Begun in
    let p = err_from_is_err_and c.from_residual.result c.from_residual.ensures.1 in
    rw (p.1, p.2) (record {
      ready = d.ready;
      whole = d.whole;
      does = record {
        stays = stays_begun c.args.worker c.in-Begun.task d.ready mid c.finish_one.new.held d.does e.ensures.stays;
        why = inr (record { task = c.in-Begun.task; begun = mid; begins = d.does; why = e.ensures.refused });
      };
    })

pub returns-in-Not-clause-runs : goal.returns-in-Not-clause-runs
returns-in-Not-clause-runs g c =
    let same = ap (λ (t : TicketedJobsView). map job_facts t.jobs) c.in-Not.ensures.same in
    let new = c.turn_one.new.held in
    let jobs' = map job_facts c.turn_one.new.jobs.jobs in
    lift_runs c.args.held.now c.play_ahead.new.held new c.in-Not.ensures.done c.turn_one.result (λ t. RunsTurn c.args.worker t (map job_facts c.args.jobs.now.jobs) jobs')
    (subst (λ (l : List JobFacts). IfOk c.turn_one.result (λ ran. IfSome ran (λ t. RunsTurn c.args.worker t l jobs' c.play_ahead.new.held new))) same c.turn_one.ensures.runs)

pub returns-in-Not-clause-none : goal.returns-in-Not-clause-none
returns-in-Not-clause-none g c = lift_none c.args.held.now c.play_ahead.new.held c.turn_one.new.held c.in-Not.ensures.done c.turn_one.result FindsNone c.turn_one.ensures.none

pub returns-in-Not-clause-refused : goal.returns-in-Not-clause-refused
returns-in-Not-clause-refused g c = lift_err c.args.held.now c.play_ahead.new.held c.turn_one.new.held c.in-Not.ensures.done c.turn_one.result (IsRefused c.args.worker) c.turn_one.ensures.refused

pub returns-in_ok-finish_one-in-Begun-clause-kept : goal.returns-in_ok-finish_one-in-Begun-clause-kept
returns-in_ok-finish_one-in-Begun-clause-kept g c = λ fact h. c.finish_one.ensures.kept fact (c.play_ahead.ensures.kept fact h)

pub returns-in_err-finish_one-in-Begun-clause-kept : goal.returns-in_err-finish_one-in-Begun-clause-kept
returns-in_err-finish_one-in-Begun-clause-kept g c = λ fact h. c.finish_one.ensures.kept fact (c.play_ahead.ensures.kept fact h)

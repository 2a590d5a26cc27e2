use Rattle.swift_executor.proofs.Prelude.{◌≡◌, IfSome, List, map, ap, sym, subst, ◌∙◌, effect_views, RecordView, BookKnown, BookSeatView, OpenSeatView, job_facts, facts_of, newest, HaveSeen, IsInRun, CommitsHere}
use Rattle.swift_executor.specs.PlayingInside.{HasJob}
use Rattle.swift_shared_book.specs.Commits.{HasPlayedAhead}
use Rattle.swift_executor.proofs.committing.commit_locked.Goals as goal

pub commit_open-committed-requires : goal.commit_open-committed-requires
commit_open-committed-requires g c =
    let v = c.args.seat.now.knows in
    let o = c.lock-taken.result.seat in
    let is = c.lock-taken.ensures.seat in
    let b0 = c.lock-taken.result.book.value in
    let knows : o.knows ≡ v = ap (λ (x : OpenSeatView). x.knows) is in
    let h = c.requires.plays in
    record {
      untouched = (ap (λ (x : OpenSeatView). x.lock) is, c.lock-taken.ensures.script, ap (λ (x : OpenSeatView). x.taken) is);
      run = subst (λ (k : BookKnown). IsInRun k (facts_of b0)) (sym knows) c.lock-taken.ensures.run;
      script = c.requires.script;
      jobs = c.requires.jobs;
      job = c.requires.job;
      plays = (
        h.0,
        h.1,
        (h.2.0, ap newest c.of-written.ensures ∙ h.2.1, h.2.2, h.2.3 ∙ ap effect_views (sym c.deref.ensures.value), h.2.4, subst (λ (k : BookKnown). HasPlayedAhead c.args.book.now.script k h.0 h.2.0) (sym knows) h.2.5),
      );
      stayed = λ b saw. c.requires.stayed b (subst (HaveSeen b.log) knows saw);
    }

pub returns-clause-done : goal.returns-clause-done
returns-clause-done g c =
    let v = c.args.seat.now.knows in
    let o = c.lock-taken.result.seat in
    let knows : o.knows ≡ v = ap (λ (x : OpenSeatView). x.knows) c.lock-taken.ensures.seat in
    let left : c.leave.new.seat.knows ≡ c.commit_open-committed.result.1.seat.knows = ap (λ (x : BookSeatView). x.knows) c.leave.ensures in
    let levels = c.args.ready.now.levels in
    let jobs = map job_facts c.args.jobs.now.jobs in
    let jobs' = map job_facts c.commit_open-committed.new.jobs.jobs in
    let was = c.args.is_orderly.now in
    let is = c.commit_open-committed.new.is_orderly in
    let answer = c.commit_open-committed.result.0 in
    subst (λ (w : BookKnown). HasJob c.args.chosen.now.job (λ j. IfSome (newest c.args.journal.now) (λ r. CommitsHere c.args.book.now levels j r jobs jobs' v w was is answer))) (sym left)
    (subst (λ (k : BookKnown). HasJob c.args.chosen.now.job (λ j. IfSome (newest c.args.journal.now) (λ r. CommitsHere c.args.book.now levels j r jobs jobs' k c.commit_open-committed.result.1.seat.knows was is answer))) knows
    (subst (λ (rs : List RecordView). HasJob c.args.chosen.now.job (λ j. IfSome (newest rs) (λ r. CommitsHere c.args.book.now levels j r jobs jobs' o.knows c.commit_open-committed.result.1.seat.knows was is answer))) c.of-written.ensures c.commit_open-committed.ensures.done))

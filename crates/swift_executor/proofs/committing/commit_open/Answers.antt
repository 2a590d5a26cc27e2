use Rattle.swift_executor.proofs.Prelude.{◌≡◌, true, Some, map, refl, ap, sym, subst, ◌∙◌, rules, BookView, has_last_root, TaskId, job_facts, facts_of, newest, HaveSeen, IsInRun, IsCurrent, IsThere}
use Rattle.swift_executor.proofs.Committed.{done_locked, placed, refused_locked, stage_env}
use Rattle.swift_executor.proofs.CommitsAside.{seen_in_run}
use Rattle.swift_executor.proofs.committing.commit_open.Goals as goal

pub are_current-requires : goal.are_current-requires
are_current-requires c =
    let v = c.args.taken.seat.knows in
    let b0 = c.args.taken.book.value in
    record { stayed = c.requires.stayed c.deref_mut.result.now (subst (λ (x : BookView). HaveSeen x.log v) (sym c.deref_mut.ensures.value) (seen_in_run v (facts_of b0) c.requires.run)) }

pub commit_kept-requires : goal.commit_kept-requires
commit_kept-requires c =
    let v = c.args.taken.seat.knows in
    let b0 = c.args.taken.book.value in
    let b = c.are_current.new.book in
    let same : b ≡ b0 = c.are_current.ensures.book ∙ c.deref_mut.ensures.value in
    record {
      untouched = (c.requires.untouched.0, ap (λ (x : BookView). x.script) same ∙ c.requires.untouched.1, c.requires.untouched.2 ∙ ap (λ (x : BookView). Some (facts_of x)) (sym same));
      run = subst (λ (x : BookView). IsInRun v (facts_of x)) (sym same) c.requires.run;
      jobs = c.requires.jobs;
      job = placed c.args.chosen.now.job _ _ c.requires.job (λ j x. x);
      played = placed c.args.chosen.now.job _ _ c.requires.plays (λ j x. (x.0, x.1, x.2, x.3, stage_env c.args.chosen.now.stage _ c.in-Played.env x.0.env c.in-Played.is x.4, x.5));
    }

pub returns-clause-done : goal.returns-clause-done
returns-clause-done c =
    let v = c.args.taken.seat.knows in
    let b0 = c.args.taken.book.value in
    let b = c.are_current.new.book in
    let same : b ≡ b0 = c.are_current.ensures.book ∙ c.deref_mut.ensures.value in
    let there : IsThere c.args.book.now c.args.ready.now.levels c.in-Some.job v c.args.is_orderly.now c.still_orderly.result b =
    record {
      script_is = ap (λ (x : BookView). x.script) same ∙ c.requires.untouched.1;
      run = subst (λ (x : BookView). IsInRun v (facts_of x)) (sym same) c.requires.run;
      front = subst (λ (x : BookView). HaveSeen x.log v) (sym same) (seen_in_run v (facts_of b0) c.requires.run);
      current = subst (λ (x : BookView). IsCurrent x.log c.args.ready.now.levels c.in-Some.job.task) (sym c.are_current.ensures.book)
          (subst (λ (t : TaskId). IsCurrent c.deref_mut.result.now.log c.args.ready.now.levels t) c.task-task.ensures (c.are_current.ensures.current (search rules)));
      order = λ e. (c.still_orderly.ensures.before e, subst (λ (x : BookView). has_last_root x.script x.log ≡ true) c.deref.ensures (c.still_orderly.ensures.there e));
    }
    in
    let jobs = map job_facts c.args.jobs.now.jobs in
    let jobs' = map job_facts c.commit_kept.new.jobs.jobs in
    done_locked c.args.chosen.now.job c.in-Some.job (newest c.args.written.now.value) c.args.book.now c.args.ready.now.levels jobs jobs' v c.commit_kept.result.1.seat.knows c.args.is_orderly.now c.still_orderly.result c.commit_kept.result.0 b c.in-Some.is there (λ e. c.still_orderly.ensures.before e)
    c.commit_kept.ensures.done

pub returns-then-not-are_current-clause-done : goal.returns-then-not-are_current-clause-done
returns-then-not-are_current-clause-done c =
    let v = c.args.taken.seat.knows in
    refused_locked c.args.chosen.now.job c.in-Some.job (newest c.args.written.now.value) v v c.args.is_orderly.now c.args.is_orderly.now c.in-Some.is refl (λ e. e)

pub returns-then-not-are_current-clause-untouched : goal.returns-then-not-are_current-clause-untouched
returns-then-not-are_current-clause-untouched c =
    let same : c.are_current.new.book ≡ c.args.taken.book.value = c.are_current.ensures.book ∙ c.deref_mut.ensures.value in
    (c.requires.untouched.0, ap (λ (x : BookView). x.script) same ∙ c.requires.untouched.1, c.requires.untouched.2 ∙ ap (λ (x : BookView). Some (facts_of x)) (sym same))

pub returns-then-not-are_current-clause-run : goal.returns-then-not-are_current-clause-run
returns-then-not-are_current-clause-run c =
    let same : c.are_current.new.book ≡ c.args.taken.book.value = c.are_current.ensures.book ∙ c.deref_mut.ensures.value in
    subst (λ (x : BookView). IsInRun c.args.taken.seat.knows (facts_of x)) (sym same) c.requires.run

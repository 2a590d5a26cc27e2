use Rattle.swift_executor.proofs.Prelude.{map, ap, sym, refl, ◌∙◌, effect_views, job_facts}
use Rattle.swift_executor.proofs.CommitsAside.{commits_aside, job_plays, job_runs, leaves, levels_stay}
use Rattle.swift_executor.proofs.committing.commit_aside.Goals as goal

pub commit_open-requires : goal.commit_open-requires
commit_open-requires c =
    let l = c.args.book.now in
    let ready = c.args.ready.now in
    let v = c.args.taken.seat.knows in
    let a = c.args.aside.now in
    let s = c.requires.aside.0 in
    let m = c.requires.aside.1 in
    let h = job_plays c.args.worker l ready v a s m in
    record {
      untouched = c.requires.untouched;
      run = c.requires.run;
      script = c.requires.script;
      jobs = c.requires.jobs;
      job = job_runs c.args.worker l ready v a s m;
      plays = (h.0, h.1, (h.2.0, h.2.1, h.2.2, h.2.3 ∙ ap effect_views (sym c.deref.ensures.value), h.2.4, h.2.5));
      stayed = levels_stay c.args.worker l ready v a s m;
    }

pub returns-clause-done : goal.returns-clause-done
returns-clause-done c =
    λ s m.
    commits_aside c.args.worker c.args.book.now c.args.ready.now c.args.taken.seat.knows c.args.aside.now s m (map job_facts c.args.jobs.now.jobs) (map job_facts c.commit_open.new.jobs.jobs) c.commit_open.result.1.seat.knows c.args.is_orderly.now c.commit_open.new.is_orderly
    c.lawful_grows.ensures c.invariants_stay.ensures c.commit_open.result.0 c.commit_open.ensures.done

pub returns-clause-aside : goal.returns-clause-aside
returns-clause-aside c = leaves c.args.aside.now _ c.commit_open.result.0 refl c.commit_open.ensures.rest c.commit_open.ensures.place

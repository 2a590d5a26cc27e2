use Rattle.swift_steps.proofs.Prelude.{List, [], refl, sym, subst, ◌≡◌, map, None, AllByRecursion, effect_views, exit_view, JobView, BodyView, IsEndOf, IsJobOf, job_facts, refusal_of_apply}
use Rattle.swift_steps.proofs.history.OpenHistory.apply.Goals as goal

pub returns-in_ok-put_all-in-Ok-clause-applies : goal.returns-in_ok-put_all-in-Ok-clause-applies
returns-in_ok-put_all-in-Ok-clause-applies c = λ _.
    (let book = c.args.self.now.book in
    let after = c.apply_known.new.self in
    let effects = effect_views c.args.effects.items in
    let exit = exit_view c.args.exit.now in
    let jobs = map job_facts c.apply_known.new.jobs.items in
    let put = c.in_ok-put_all-in-Ok.ensures in
    record {
      script_is = refl;
      book_is = c.apply_known.ensures.script;
      none = put.none;
      fields_are = refl;
      roots_are = refl;
      fits = subst (λ (j : JobView BodyView). refusal_of_apply book.script book.log j effects exit ≡ None) c.into_job-job.ensures c.in-Ok.ensures.refused;
      jobs = jobs;
      ends = subst (λ (j : JobView BodyView). IsEndOf book [] j effects exit after.log after.held jobs) c.into_job-job.ensures
          (subst (λ (js : List (JobView BodyView)). IsEndOf book (map job_facts js) c.into_job-job.result effects exit after.log after.held jobs) c.requires.none c.in-Ok.ensures.ok);
      given = put.given;
      scripts = λ of. put.scripts book.script (c.apply_known.ensures.bodies (subst (AllByRecursion (IsJobOf book.script)) (sym c.requires.none) tt)) of;
    })

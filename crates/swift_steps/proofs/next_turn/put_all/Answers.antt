use Rattle.swift_steps.proofs.Prelude.{◌≡◌, ℕ, Option, List, [], map, reverse, sym, subst, ap, ◌∙◌, rules, with_jobs, JobFacts, JobView, BodyView, AllByRecursion, IsJobOf, job_facts, AreGiven}
use Rattle.swift_steps.proofs.Given.{all_turned, given_step, of_step, twice}
use Rattle.swift_steps.proofs.next_turn.put_all.Goals as goal

pub loop-job-init : goal.loop-job-init
loop-job-init c = record {
  given = λ seen given. (seen, given, ap (λ (js : List (JobView BodyView)). with_jobs (map job_facts js) seen) (ap reverse c.reverse.ensures.items ∙ twice c.args.jobs.now.items));
  scripts = λ script all of. (subst (AllByRecursion (IsJobOf script)) (sym c.reverse.ensures.items) (all_turned script c.args.jobs.now.items all), of);
}

pub loop-job-preserved : goal.loop-job-preserved
loop-job-preserved c =
    let made = c.from_job-ready.ensures in
    record {
      given = λ seen given.
          (let before = c.loop-job.invariant.given seen given in
          let more = given_step before.0 c.loop-job.tasks.items c.put.new.tasks.items c.pop.new.self.items c.in-Some.job c.from_job-ready.result.0 c.from_job-ready.result.1 made.task made.ready before.1 c.in_ok-put.ensures in
          (more.0, more.1, more.2 ∙ ap (λ (js : List (JobView BodyView)). with_jobs (map job_facts (reverse js)) before.0) (sym (c.in-Some.ensures.items)) ∙ before.2));
      scripts = λ script all of.
          (let before = c.loop-job.invariant.scripts script all of in
          of_step script c.loop-job.tasks.items c.put.new.tasks.items c.pop.new.self.items c.in-Some.job c.from_job-ready.result.0 c.from_job-ready.result.1 made.ready c.in_ok-put.ensures
          (subst (AllByRecursion (IsJobOf script)) c.in-Some.ensures.items before.0, before.1));
    }

pub returns-clause-given : goal.returns-clause-given
returns-clause-given c = λ seen given.
    (let before = c.loop-job.invariant.given seen given in
    let none : c.loop-job.jobs.items ≡ [] = search rules in
    subst (λ (now : ℕ → Option JobFacts). AreGiven now c.loop-job.tasks.items) (ap (λ (js : List (JobView BodyView)). with_jobs (map job_facts (reverse js)) before.0) (sym none) ∙ before.2) before.1)

pub returns-clause-scripts : goal.returns-clause-scripts
returns-clause-scripts c = λ script all of. (c.loop-job.invariant.scripts script all of).1

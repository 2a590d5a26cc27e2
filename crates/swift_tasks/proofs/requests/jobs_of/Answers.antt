use Rattle.swift_tasks.proofs.Prelude.{arith, ◌≡◌, ◌∙◌, ap, [], ◌∷◌, ◌++◌, length, sym, subst, Option, Some, None, map, reverse, AllByRecursion, Go, JobView, BodyView, IsRunning, WaitingTask, FitsScript, IsJobOf, job_facts}
use Rattle.swift_tasks.proofs.HeldJobs.{job_step, none_step, job_end, all-front, all-back, all-append, all-reverse}
use Rattle.swift_tasks.proofs.requests.jobs_of.Goals as goal

pub loop-waiting-preserved-in-Some-waiting : goal.loop-waiting-preserved-in-Some-waiting
loop-waiting-preserved-in-Some-waiting c =
    let h : WaitingTask = c.in-Some-waiting.field-0 in
    let is : c.loop-waiting.held.items ≡ c.pop.new.self.items ++ Some h ∷ [] = c.in-Some.ensures.items ∙ ap (λ (w : Option WaitingTask). c.pop.new.self.items ++ w ∷ []) c.in-Some-waiting.is in
    let at : c.len.result ≡ length c.pop.new.self.items = c.len.ensures ∙ c.pop.new.self.ok.0 in
    let whole : job_facts c.new.result ≡ record { task = length c.pop.new.self.items; number = h.number; resume = Go; frames = h.body.task } = (let p = ap job_facts c.new.ensures in cc) in
    let body : c.new.result.body ≡ h.body = (let p = ap (λ (j : JobView BodyView). j.body) c.new.ensures in cc) in
    let more : c.push_reserved.new.self.items ≡ c.loop-waiting.jobs.items ++ c.new.result ∷ [] = c.push_reserved.ensures.items in
    record {
      all = job_step c.pop.new.self.items c.loop-waiting.held.items h c.loop-waiting.jobs.items c.push_reserved.new.self.items c.new.result _ is more whole c.loop-waiting.invariant.all;
      room = omega (arith, c.in-Some.ensures.cases, c.push_reserved.ensures.len, c.push_reserved.ensures.capacity, c.loop-waiting.invariant.room);
      few = omega (arith, c.in-Some.ensures.cases, c.loop-waiting.invariant.few);
      bodies = λ script a.
          (let b = c.loop-waiting.invariant.bodies script a in
          let both = subst (AllByRecursion (FitsScript script)) is b.0 in
          let last = all-back (FitsScript script) c.pop.new.self.items (Some h ∷ []) both in (
            all-front (FitsScript script) c.pop.new.self.items (Some h ∷ []) both,
            subst (AllByRecursion (IsJobOf script)) (sym more) (all-append (IsJobOf script) c.loop-waiting.jobs.items (c.new.result ∷ []) b.1 (record { script_is = ap (λ (b : BodyView). b.script) body ∙ last.0.0; runs = subst IsRunning (sym body) last.0.1; rests = ap (λ (b : BodyView). b.phase) body ∙ last.0.2 }, tt)),
          ));
    }

pub loop-waiting-preserved : goal.loop-waiting-preserved
loop-waiting-preserved c =
    let is : c.loop-waiting.held.items ≡ c.pop.new.self.items ++ None ∷ [] = c.in-Some.ensures.items ∙ ap (λ (w : Option WaitingTask). c.pop.new.self.items ++ w ∷ []) c.in_default-waiting.is in
    record {
      all = none_step c.pop.new.self.items c.loop-waiting.held.items (reverse (map job_facts c.loop-waiting.jobs.items)) _ is c.loop-waiting.invariant.all;
      room = omega (arith, c.in-Some.ensures.cases, c.loop-waiting.invariant.room);
      few = omega (arith, c.in-Some.ensures.cases, c.loop-waiting.invariant.few);
      bodies = λ script a.
          (let b = c.loop-waiting.invariant.bodies script a in
          (all-front (FitsScript script) c.pop.new.self.items (None ∷ []) (subst (AllByRecursion (FitsScript script)) is b.0), b.1));
    }

pub returns-clause-jobs : goal.returns-clause-jobs
returns-clause-jobs c = job_end c.loop-waiting.held.items c.loop-waiting.jobs.items c.reverse.new.self.items _ (omega (arith, c.in_default.ensures.cases.0, c.loop-waiting.held.ok.0)) c.reverse.ensures.items c.loop-waiting.invariant.all

pub returns-clause-bodies : goal.returns-clause-bodies
returns-clause-bodies c = λ script a. subst (AllByRecursion (IsJobOf script)) (sym c.reverse.ensures.items) (all-reverse (IsJobOf script) c.loop-waiting.jobs.items (c.loop-waiting.invariant.bodies script a).1)

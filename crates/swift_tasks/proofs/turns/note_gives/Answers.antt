use Rattle.swift_tasks.proofs.Prelude.{◌≡◌, ℕ, ◌+◌, ◌∙◌, ap, sym, subst, suc, add-one, drop, arith, List, [], ◌∷◌, ◌++◌, append_assoc, map, TaskId, Resume, Event, Give, LedgerView, JobFacts, gives, task, AreMade, job_facts}
use Rattle.swift_tasks.proofs.EffectsTaken.{drop_at}
use Rattle.swift_tasks.proofs.Grows.{made-push}
use Rattle.swift_tasks.proofs.JobsGiven.{made_on}
use Rattle.swift_tasks.proofs.turns.note_gives.Goals as goal

pub loop-job-preserved : goal.loop-job-preserved
loop-job-preserved c =
    let js = c.args.jobs.now in
    let k : ℕ = c.loop-job.job-index in
    let log : List Event = c.loop-job.ledger.log in
    let j : JobFacts = job_facts c.job-item.result in
    let next : List JobFacts = map job_facts (drop (suc k) js) in
    let at : map job_facts (drop k js) ≡ j ∷ next = ap (map job_facts) (drop_at js k c.job-item.result c.loop-job-test.true c.job-item.is) in
    let one : map job_facts (drop (k + 1) js) ≡ next = ap (λ (n : ℕ). map job_facts (drop n js)) (add-one k) in
    let g : Event = Give (task j.task) j.number j.resume in
    let event : Give c.task.result c.number.result c.resume.result ≡ g =
    ap (λ (t : TaskId). Give t c.number.result c.resume.result) c.task.ensures
    ∙ ap (λ (n : ℕ). Give (task j.task) n c.resume.result) c.number.ensures
    ∙ ap (λ (r : Resume). Give (task j.task) j.number r) c.resume.ensures in
    let more : c.note_give.new.self.log ≡ log ++ g ∷ [] = ap (λ (l : LedgerView). l.log) c.note_give.ensures.log ∙ ap (λ (e : Event). log ++ e ∷ []) event in
    let made = subst (AreMade log) at c.loop-job.invariant.made in
    record {
      roots = ap (λ (l : LedgerView). l.roots) c.note_give.ensures.log ∙ c.loop-job.invariant.roots;
      made = subst (AreMade c.note_give.new.self.log) (sym one) (subst (λ (l : List Event). AreMade l next) (sym more) (made_on log (log ++ g ∷ []) next (λ t h. made-push t log g h) made.1));
      log = ap (λ (vs : List JobFacts). c.note_give.new.self.log ++ gives vs) one
          ∙ ap (λ (l : List Event). l ++ gives next) more
          ∙ append_assoc log (g ∷ []) (gives next)
          ∙ sym (ap (λ (vs : List JobFacts). log ++ gives vs) at)
          ∙ c.loop-job.invariant.log;
      spare = (let a = c.loop-job.invariant.spare in let d = c.note_give.ensures.spare in omega (arith, a, d));
    }

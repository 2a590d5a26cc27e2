use Rattle.swift_tasks.proofs.Prelude.{◌≡◌, ℕ, ◌-◌, ◌≤◌, ◌∙◌, ap, sym, subst, arith, List, ◌++◌, length, take, replicate, None, map, AllByRecursion, JobFacts, AfterTurn, gives, AreMade, follows_of, followed_from, FitsScript, job_facts}
use Rattle.swift_tasks.proofs.HeldJobs.{all-append}
use Rattle.swift_tasks.proofs.FinishedTurn.{finished, finished_jobs, finished_there, all_none}
use Rattle.swift_tasks.proofs.WakesKept.{behind}
use Rattle.swift_tasks.proofs.turns.finish.Goals as goal

all : (c : goal.After-note_gives_from-arg-1) → follows_of c.follow_in.new.held.items c.follow_in.new.jobs.items ≡ behind (map job_facts (take c.args.first c.args.jobs.now.items)) (followed_from c.args.first c.args.held.now.items c.args.jobs.now.items c.args.task.0 c.args.number c.args.body.task c.args.resume c.args.step c.args.ledger.now.log)
all c =
    finished c.args.first c.args.held.now.items c.grow_held.new.held.items c.follow_in.new.held.items c.args.jobs.now.items c.follow_in.new.jobs.items c.args.task.0 c.args.number c.args.body.task c.args.resume c.args.step c.args.ledger.now.log
    (c.grow_held.ensures.held ∙ ap (λ (k : ℕ). c.args.held.now.items ++ replicate (k - c.args.first) None) (c.len.ensures ∙ c.args.jobs.now.ok.0)) c.follow_in.ensures.follows

le : (c : goal.After-note_gives_from-arg-1) → c.args.first ≤ length c.args.jobs.now.items
le c = omega (arith, c.requires.first, c.args.jobs.now.ok.0)

pub note_gives_from-requires-clause-there : goal.note_gives_from-requires-clause-there
note_gives_from-requires-clause-there c =
    let there = finished_there c.args.first c.args.jobs.now.items c.follow_in.new.jobs.items _ (le c) (ap (λ (f : AfterTurn). f.jobs) (all c)) in
    omega (arith, there, c.follow_in.new.jobs.ok.0)

pub note_gives_from-requires-clause-made : goal.note_gives_from-requires-clause-made
note_gives_from-requires-clause-made c =
    subst (AreMade c.args.ledger.now.log) (sym (finished_jobs c.args.first c.args.jobs.now.items c.follow_in.new.jobs.items _ (le c) (ap (λ (f : AfterTurn). f.jobs) (all c)))) c.requires.made

pub returns-clause-log : goal.returns-clause-log
returns-clause-log c =
    c.note_gives_from.ensures.log ∙ ap (λ (js : List JobFacts). c.args.ledger.now.log ++ gives js) (finished_jobs c.args.first c.args.jobs.now.items c.follow_in.new.jobs.items _ (le c.before) (ap (λ (f : AfterTurn). f.jobs) (all c.before)))

pub returns-clause-held : goal.returns-clause-held
returns-clause-held c = ap (λ (f : AfterTurn). f.held) (all c.before)

pub returns-clause-jobs : goal.returns-clause-jobs
returns-clause-jobs c = ap (λ (f : AfterTurn). f.jobs) (all c.before)

pub returns-clause-bodies : goal.returns-clause-bodies
returns-clause-bodies c = λ script is held.
    c.follow_in.ensures.bodies script is (subst (AllByRecursion (FitsScript script)) (sym c.grow_held.ensures.held) (all-append (FitsScript script) c.args.held.now.items (replicate (c.len.result - c.args.first) None) held (all_none script (c.len.result - c.args.first))))

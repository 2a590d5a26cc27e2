use Rattle.swift_ledger.proofs.Prelude.{ℕ, ◌<◌, ◌≤◌, length, ap, ◌∙◌, arith, tasks_of, length-lives_of}
use Rattle.swift_ledger.proofs.FlagLemmas.{length-flags_of, marked_first, marked_more, marked_all}
use Rattle.swift_ledger.proofs.flags.Flags.spread.Goals as goal

pub is_reached-is_cancelled-requires-clause-lives : goal.is_reached-is_cancelled-requires-clause-lives
is_reached-is_cancelled-requires-clause-lives c =
    let n : ℕ = tasks_of c.args.roots c.args.log.now.events in
    omega (arith, c.loop-task-test.true, c.len-task-end.ensures, c.args.self.now.flags.ok.0 ∙ ap length c.requires.flags ∙ length-flags_of n c.args.log.now.events, ap length c.requires.lives ∙ length-lives_of n c.args.log.now.events)

pub loop-task-init : goal.loop-task-init
loop-task-init c = marked_first (tasks_of c.args.roots c.args.log.now.events) c.args.log.now.events c.args.event c.args.self.now.flags.items c.requires.flags

pub loop-task-preserved : goal.loop-task-preserved
loop-task-preserved c =
    let r = c.requires in
    let n : ℕ = tasks_of c.args.roots c.args.log.now.events in
    let less : c.loop-task.task < tasks_of c.args.roots c.args.log.now.events = omega (arith, c.loop-task-test.true, c.len-task-end.ensures, c.args.self.now.flags.ok.0 ∙ ap length c.requires.flags ∙ length-flags_of n c.args.log.now.events) in
    marked_more c.args.roots c.args.log.now.events c.args.event c.loop-task.self.flags.items c.args.lives.now c.loop-task.task c.is_reached-is_cancelled.result r.log r.fits r.known r.lives c.loop-task.invariant less c.is_reached-is_cancelled.ensures

pub returns-clause-flags : goal.returns-clause-flags
returns-clause-flags c =
    let n : ℕ = tasks_of c.args.roots c.args.log.now.events in
    let end : tasks_of c.args.roots c.args.log.now.events ≤ c.loop-task.task = omega (arith, c.loop-task-test.false, c.len-task-end.ensures, c.args.self.now.flags.ok.0 ∙ ap length c.requires.flags ∙ length-flags_of n c.args.log.now.events) in
    marked_all c.args.roots c.args.log.now.events c.args.event c.loop-task.self.flags.items c.loop-task.task c.requires.known end c.loop-task.invariant

use Rattle.swift_tasks.proofs.Prelude.{sym, subst, List, ◌++◌, length, drop, Option, AllByRecursion, WaitingTask, FitsScript}
use Rattle.swift_tasks.proofs.HeldJobs.{all-append}
use Rattle.swift_tasks.proofs.HeldTaken.{all-take, all-drop}
use Rattle.swift_tasks.proofs.turns.follow_in.Goals as goal

pub returns-clause-bodies : goal.returns-clause-bodies
returns-clause-bodies c = λ script is held.
    let b = c.follow.ensures.bodies script is (subst (AllByRecursion (FitsScript script)) (sym c.deref_mut.ensures.value) held) in
    let rest : List (Option WaitingTask) = drop (length c.follow.new.held) c.args.held.now.items in
    (all-take (FitsScript script) c.args.held.now.len (c.follow.new.held ++ rest) (all-append (FitsScript script) c.follow.new.held rest b.0 (all-drop (FitsScript script) (length c.follow.new.held) c.args.held.now.items held)), b.1)

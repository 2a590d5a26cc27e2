-- The ends of some turns, worked out by hand and computed. The script doesn't matter: no task is made.
use Rattle.std.proofs.Common.{◌≡◌, ℤ, true, Some, None, [], ◌∷◌, ◌++◌, refl}
use Rattle.swift_types.specs.declared.outcome.Ending.TheVariants as ending
use Rattle.swift_types.specs.declared.outcome.Fault.TheVariants.{Overflow, Turns, Cancelled, Empty}
use Rattle.swift_types.specs.declared.outcome.Resume.TheVariants as resume
use Rattle.swift_types.specs.declared.priority.Priority.TheVariants.{Medium, High}
use Rattle.swift_script.specs.Scripts.{ScriptView}
use Rattle.swift_interpreter.specs.declared.effect.TaskName.TheVariants as name
use Rattle.swift_interpreter.specs.Turn.{InvocationView, opening, adding, cancelling_task, cancelling_group, waiting, asking_next, closing, returning, failing}
use Rattle.swift_turn.specs.declared.step.Step.TheVariants.{Ended, Await}
use Rattle.swift_turn.specs.Body.{TaskView}
use Rattle.swift_events.specs.declared.event.Event.TheVariants.{Root, Apply, Open, Child, Skip, CancelTask, CancelGroup, Wait, Next, Close, End, Give}
use Rattle.swift_events.specs.Lives.{life}
use Rattle.swift_history.specs.TurnEnds.{task, turn_end}

-- a task waits for one that has ended: its next turn begins with that ending, and nothing waits
waits_after_end : (s : ScriptView) (frames : TaskView) (v : ℤ) →
    let log = Root (task 0) Medium ∷ Root (task 1) High ∷ End (task 1) (ending.Value v) ∷ [] in
    turn_end s log (None ∷ None ∷ []) 0 3 Medium [] (waiting (name.Root (record { 0 = 1 }))) (record { task = frames; step = Await })
    ≡ record {
      log = log ++ Apply (task 0) 3 ∷ Give (task 0) 4 (resume.Value v) ∷ [];
      held = None ∷ None ∷ [];
      jobs = record { task = 0; number = 4; resume = resume.Value v; frames = frames } ∷ [];
    }
unfolding life
waits_after_end s frames v = refl

-- two tasks have waited for one that ends, and go on in order of waiting; the turn of the second one is numbered 1,000
wakes_waiters : (s : ScriptView) (mine one two : TaskView) →
    let log = Root (task 0) Medium ∷ Root (task 1) Medium ∷ Root (task 2) Medium ∷ Wait (task 2) (task 0) ∷ Wait (task 1) (task 0) ∷ [] in
    turn_end s log (None ∷ Some (record { number = 1000; frames = one }) ∷ Some (record { number = 3; frames = two }) ∷ []) 0 0 Medium [] (failing Overflow) (record { task = mine; step = Ended (ending.Fault Overflow) })
    ≡ record {
      log = log ++ Apply (task 0) 0 ∷ End (task 0) (ending.Fault Overflow) ∷ Give (task 2) 3 (resume.Fault Overflow) ∷ Give (task 1) 1000 (resume.Fault Turns) ∷ [];
      held = None ∷ None ∷ None ∷ [];
      jobs = record { task = 2; number = 3; resume = resume.Fault Overflow; frames = two } ∷ record { task = 1; number = 1000; resume = resume.Fault Turns; frames = one } ∷ [];
    }
unfolding life
wakes_waiters s mine one two = refl

-- an owner has asked for a result of its group, and goes on with that of the child that ends
wakes_owner : (s : ScriptView) (mine owner : TaskView) (v : ℤ) →
    let log = Root (task 0) Medium ∷ Open (task 0) 0 ∷ Child (task 1) (task 0) 0 High ∷ Next (task 0) 0 ∷ [] in
    turn_end s log (Some (record { number = 2; frames = owner }) ∷ None ∷ []) 1 0 High [] (returning v) (record { task = mine; step = Ended (ending.Value v) })
    ≡ record {
      log = log ++ Apply (task 1) 0 ∷ End (task 1) (ending.Value v) ∷ Give (task 0) 2 (resume.Value v) ∷ [];
      held = None ∷ None ∷ [];
      jobs = record { task = 0; number = 2; resume = resume.Value v; frames = owner } ∷ [];
    }
unfolding life
wakes_owner s mine owner v = refl

-- a group that is closed with a fault is cancelled, and its owner waits for the child
closes_with_fault : (s : ScriptView) (frames : TaskView) →
    let log = Root (task 0) Medium ∷ Open (task 0) 0 ∷ Child (task 1) (task 0) 0 High ∷ [] in
    turn_end s log (None ∷ None ∷ []) 0 1 Medium [] (closing 0 (Some Cancelled)) (record { task = frames; step = Await })
    ≡ record {
      log = log ++ Apply (task 0) 1 ∷ CancelGroup (task 0) 0 ∷ Close (task 0) 0 ∷ [];
      held = Some (record { number = 2; frames = frames }) ∷ None ∷ [];
      jobs = [];
    }
unfolding life
closes_with_fault s frames = refl

-- a group is cancelled, so a child is left out; a cancel of a task that has ended writes nothing; the group has no child
leaves_out : (s : ScriptView) (frames : TaskView) (i : InvocationView) (v : ℤ) →
    let log = Root (task 0) Medium ∷ Root (task 1) Medium ∷ End (task 1) (ending.Value v) ∷ [] in
    turn_end s log (None ∷ None ∷ []) 0 0 Medium (opening ∷ cancelling_group 0 ∷ adding 0 true i None [] ∷ cancelling_task (name.Root (record { 0 = 1 })) ∷ cancelling_task (name.Root (record { 0 = 0 })) ∷ []) (asking_next 0) (record { task = frames; step = Await })
    ≡ record {
      log = log ++ Apply (task 0) 0 ∷ Open (task 0) 0 ∷ CancelGroup (task 0) 0 ∷ Skip (task 0) 0 ∷ CancelTask (task 0) ∷ Give (task 0) 1 (resume.Fault Empty) ∷ [];
      held = None ∷ None ∷ [];
      jobs = record { task = 0; number = 1; resume = resume.Fault Empty; frames = frames } ∷ [];
    }
unfolding life
leaves_out s frames i v = refl

use Rattle.swift_tasks.proofs.Prelude.{◌∙◌, ap, sym, false, [], ◌∷◌, ◌++◌, TaskId, Priority, Free, tasks_of, invocation_view, task, cancel_events, is_left_out, add_events}
use Rattle.std.proofs.Common.{append-nil}
use Rattle.swift_tasks.proofs.JobsMade.{added_jobs, free_jobs, started_fits, added_fit}
use Rattle.swift_tasks.proofs.effects.note_effect.Goals as goal

pub returns-in-Some-clause-log : goal.returns-in-Some-clause-log
returns-in-Some-clause-log c =
    rw c.in-Spawn.is (c.note_free.ensures.log ∙ ap (λ (p : Priority). c.args.ledger.now.log ++ Free (task (tasks_of c.args.ledger.now.roots c.args.ledger.now.log)) c.args.task p false ∷ []) c.unwrap_or.ensures)

pub returns-in-Some-body-clause-log : goal.returns-in-Some-body-clause-log
returns-in-Some-body-clause-log c = rw c.in-Detach.is c.note_free-in-Detach.ensures.log

pub note_add-requires-clause-group : goal.note_add-requires-clause-group
note_add-requires-clause-group c = let take = rw c.in-Add.is at c.requires.take in take.0

pub returns-in-Some-body-2-clause-log : goal.returns-in-Some-body-2-clause-log
returns-in-Some-body-2-clause-log c =
    rw c.in-Add.is (c.note_add.ensures.log ∙ ap (λ (p : Priority). c.args.ledger.now.log ++ add_events c.args.ledger.now.roots c.args.task.0 c.in-Add.group (is_left_out c.args.task.0 c.in-Add.group c.in-Add.unless c.args.ledger.now.log) c.args.ledger.now.log p) c.unwrap_or-priority.ensures)

pub returns-in-Some-body-2-clause-jobs : goal.returns-in-Some-body-2-clause-jobs
returns-in-Some-body-2-clause-jobs c = λ script is count.
    let started = rw (c.in-Add.is, c.in-Some-body-2.is) at is in
    rw c.in-Add.is (added_jobs script c.in-Add.group c.in-Add.unless (invocation_view c.in-Add.invocation) c.in-Add.priority c.in-Add.bindings c.args.task.0 c.args.ledger.now.roots c.args.ledger.now.log c.in-Some-body-2.body c.args.jobs.now.items c.note_add.new.jobs.items started count c.note_add.ensures.jobs)

pub returns-in-Some-clause-jobs : goal.returns-in-Some-clause-jobs
returns-in-Some-clause-jobs c = λ script is count.
    let i = invocation_view c.in-Spawn.invocation in
    let started = rw (c.in-Spawn.is, c.in-Some.is) at is in
    rw c.in-Spawn.is (free_jobs script i.method i.args c.in-Spawn.bindings c.args.ledger.now.roots c.args.ledger.now.log c.in-Some.body c.args.jobs.now.items c.note_free.new.jobs.items started count c.note_free.ensures.jobs)

pub returns-in-Some-body-clause-jobs : goal.returns-in-Some-body-clause-jobs
returns-in-Some-body-clause-jobs c = λ script is count.
    let i = invocation_view c.in-Detach.field-0 in
    let started = rw (c.in-Detach.is, c.in-Some-body.is) at is in
    rw c.in-Detach.is (free_jobs script i.method i.args [] c.args.ledger.now.roots c.args.ledger.now.log c.in-Some-body.body c.args.jobs.now.items c.note_free-in-Detach.new.jobs.items started count c.note_free-in-Detach.ensures.jobs)

pub returns-in-Open-clause-log : goal.returns-in-Open-clause-log
returns-in-Open-clause-log c = rw c.in-Open.is c.note_open.ensures.log

pub returns-in-Open-clause-jobs : goal.returns-in-Open-clause-jobs
returns-in-Open-clause-jobs c = λ script is count. rw c.in-Open.is (sym (append-nil _))

pub returns-in-CancelTask-clause-log : goal.returns-in-CancelTask-clause-log
returns-in-CancelTask-clause-log c =
    rw c.in-CancelTask.is (c.note_cancel.ensures.log ∙ ap (λ (t : TaskId). c.args.ledger.now.log ++ cancel_events t c.args.ledger.now.log) c.task_of-named.ensures.named)

pub returns-in-CancelTask-clause-jobs : goal.returns-in-CancelTask-clause-jobs
returns-in-CancelTask-clause-jobs c = λ script is count. rw c.in-CancelTask.is (sym (append-nil _))

pub returns-in-CancelGroup-clause-log : goal.returns-in-CancelGroup-clause-log
returns-in-CancelGroup-clause-log c = rw c.in-CancelGroup.is c.note_aside.ensures.log

pub returns-in-CancelGroup-clause-jobs : goal.returns-in-CancelGroup-clause-jobs
returns-in-CancelGroup-clause-jobs c = λ script is count. rw c.in-CancelGroup.is (sym (append-nil _))

pub returns-in-Some-clause-bodies : goal.returns-in-Some-clause-bodies
returns-in-Some-clause-bodies c = λ script is.
    let i = invocation_view c.in-Spawn.invocation in
    let started = rw (c.in-Spawn.is, c.in-Some.is) at is in
    let t = tasks_of c.args.ledger.now.roots c.args.ledger.now.log in
    added_fit false script c.args.jobs.now.items c.note_free.new.jobs.items t c.in-Some.body (started_fits script i.method i.args c.in-Spawn.bindings t c.in-Some.body started) c.note_free.ensures.jobs

pub returns-in-Some-body-clause-bodies : goal.returns-in-Some-body-clause-bodies
returns-in-Some-body-clause-bodies c = λ script is.
    let i = invocation_view c.in-Detach.field-0 in
    let started = rw (c.in-Detach.is, c.in-Some-body.is) at is in
    let t = tasks_of c.args.ledger.now.roots c.args.ledger.now.log in
    added_fit false script c.args.jobs.now.items c.note_free-in-Detach.new.jobs.items t c.in-Some-body.body (started_fits script i.method i.args [] t c.in-Some-body.body started) c.note_free-in-Detach.ensures.jobs

pub returns-in-Some-body-2-clause-bodies : goal.returns-in-Some-body-2-clause-bodies
returns-in-Some-body-2-clause-bodies c = λ script is.
    let i = invocation_view c.in-Add.invocation in
    let started = rw (c.in-Add.is, c.in-Some-body-2.is) at is in
    let t = tasks_of c.args.ledger.now.roots c.args.ledger.now.log in
    let left_out = is_left_out c.args.task.0 c.in-Add.group c.in-Add.unless c.args.ledger.now.log in
    added_fit left_out script c.args.jobs.now.items c.note_add.new.jobs.items t c.in-Some-body-2.body (started_fits script i.method i.args c.in-Add.bindings t c.in-Some-body-2.body started) c.note_add.ensures.jobs

pub unreachable-requires : goal.unreachable-requires
unreachable-requires c = let body = rw (c.in-Spawn.is, c.in_default.is) at c.requires.body in body.1

pub unreachable-requires-in_default-body : goal.unreachable-requires-in_default-body
unreachable-requires-in_default-body c = let body = rw (c.in-Detach.is, c.in_default-body.is) at c.requires.body in body.1

pub unreachable-requires-in_default-body-2 : goal.unreachable-requires-in_default-body-2
unreachable-requires-in_default-body-2 c = let body = rw (c.in-Add.is, c.in_default-body-2.is) at c.requires.body in body.1

pub note_free-requires-clause-number : goal.note_free-requires-clause-number
note_free-requires-clause-number c = rw c.in-Spawn.is at c.requires.take

pub note_free-requires-in-Detach-clause-number : goal.note_free-requires-in-Detach-clause-number
note_free-requires-in-Detach-clause-number c = rw c.in-Detach.is at c.requires.take

pub note_open-requires-clause-number : goal.note_open-requires-clause-number
note_open-requires-clause-number c = rw c.in-Open.is at c.requires.take

pub note_add-requires-clause-number : goal.note_add-requires-clause-number
note_add-requires-clause-number c = let take = rw c.in-Add.is at c.requires.take in take.1

pub note_cancel-requires-clause-made : goal.note_cancel-requires-clause-made
note_cancel-requires-clause-made c = c.task_of-named.ensures.made (rw c.in-CancelTask.is at c.requires.take)

pub note_aside-requires-clause-fits : goal.note_aside-requires-clause-fits
note_aside-requires-clause-fits c = (c.requires.mine, rw c.in-CancelGroup.is at c.requires.take)

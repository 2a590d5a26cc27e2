-- What the proofs of this crate take from elsewhere.
pub use Rattle.std.proofs.Common.{Bool, IsSome, IsSomeAnd, IsTrue, List, None, Option, Some, [], add-one, ap, append_assoc, arith, cond, count_by, drop, false, get_or, get_or-set_other, get_or-set_same, if◌then◌else◌, inl, inr, is_none, is_some, leb, length, length-append, length-set, map, nat_lt, not, refl, replicate, reverse, rules, slice_get, slice_index_or, slice_set, subst, suc, sym, take, take_all, true, vec_capacity, vec_len, zero, ℕ, ℤ, ◌&&◌, ◌++◌, ◌+◌, ◌-◌, ◌<◌, ◌==◌, ◌^◌, ◌||◌, ◌∙◌, ◌∷◌, ◌≡◌, ◌≢◌, ◌≤◌}
pub use Rattle.std.proofs.lemmas.Bool.{cases_eq, cases_lt, eqb-true, false≢true}
pub use Rattle.std.proofs.lemmas.Bool.Decides.{nat_tests}
pub use Rattle.std.proofs.lemmas.List.{append-nil, length-map, length-replicate, map-append, reverse-append, reverse-reverse}
pub use Rattle.std.proofs.lemmas.List.Elements.{all_zip_more, filter_map-append}
pub use Rattle.std.specs.Arc.{arc_value}
pub use Rattle.std.specs.List.{AllByRecursion, AllZip, cons_option, filter_map, list_all}
pub use Rattle.std.specs.Prelude.{unwrap_or}
pub use Rattle.swift_events.proofs.LogLemmas.{events_of-push_other, is_closed-push, is_closed-push_no, life_of-push_other, life_of-push_same, none_beyond, opened_by-push, opened_by-push_no, opened_by-push_yes, origin-push, own_tasks-push_none, own_tasks-push_same, reserved_of-push, reserved_of-push_made, sum_of_none, tasks_of-push_made, tasks_of-push_other, unborn_without, waiters_of-push, waiters_of-push_none}
pub use Rattle.swift_events.specs.Events.{events_of, is_made, later, task_of, tasks_of}
pub use Rattle.swift_events.specs.Lives.{ending_in, is_open, is_waiting, life_of, lived, origin_in, room_held, room_in, stage_in, unborn, waits_at}
pub use Rattle.swift_events.specs.Relations.{closes, group_of, is_closed, is_open_group, link_in, links_of, opened_by, opens, own_in, own_tasks, parent_of, waiter_in, waiters_of}
pub use Rattle.swift_events.specs.Room.{reserved_of}
pub use Rattle.swift_events.specs.declared.event.Event.{Event}
pub use Rattle.swift_events.specs.declared.event.Event.TheVariants.{Apply, Begin, CancelGroup, CancelTask, Child, Close, End, Free, Give, Next, Open, Root, Skip, Wait}
pub use Rattle.swift_events.specs.declared.life.JobStage.{JobStage}
pub use Rattle.swift_events.specs.declared.life.JobStage.TheVariants.{Applied, Asks, Begun, Closes, Given, Waits}
pub use Rattle.swift_events.specs.declared.life.Life.{Life}
pub use Rattle.swift_events.specs.declared.life.Origin.{Origin}
pub use Rattle.swift_groups.specs.Close.{close_of}
pub use Rattle.swift_history.specs.Checks.{Counters, can_name, can_run, can_use, counted, counters, fits_effect, fits_exit, fits_turn}
pub use Rattle.swift_history.specs.Histories.{begun_priority}
pub use Rattle.swift_history.specs.Jobs.{job_facts}
pub use Rattle.swift_history.specs.TurnEnds.{AfterTurn, JobFacts, TurnEnd, WaitingTaskView, beginning, cancel_events, close_events, close_resume, effect_events, effect_jobs, end_events, exit_events, exit_resume, first_job, followed, gives, is_left_out, jobs_made, log_after, named_task, next_events, next_resume, resume_at, resume_of, root_events, step_resume, task, turn_end, wait_events, wait_resume, wake, wake_all, wake_closing, wake_each, wake_owner, wake_parent, woken}
pub use Rattle.swift_interpreter.specs.Frames.{FrameView, effect_view, effect_views, invocation_view}
pub use Rattle.swift_interpreter.specs.Turn.{EffectView, ExitView, InvocationView, adding, asking_next, calling, cancelling_group, cancelling_task, closing, detaching, failing, opening, returning, spawning, waiting, yielding}
pub use Rattle.swift_interpreter.specs.TurnStates.{exit_view}
pub use Rattle.swift_interpreter.specs.declared.effect.Effect.{Effect}
pub use Rattle.swift_job.specs.Job.{JobView}
pub use Rattle.swift_ledger.specs.Ledgers.{CanNote, IsMade, LedgerView}
pub use Rattle.swift_script.specs.Scripts.{ScriptView, method_actor, method_count, root_count, root_priority}
pub use Rattle.swift_tasks.specs.ApplyingInside.{AreMade, BookEnds, CanApply, CanLeave, CanName, CanTake, CanTakeAll, JobFits, StepFits, TurnLeaves, add_events, add_jobs, done_log, first_of, followed_from, follows_of, next_of, went_on, written_log}
pub use Rattle.swift_tasks.specs.BodiesInside.{AreBodiesOf, CanStart, IsBodyOf, IsStarted}
pub use Rattle.swift_tasks.specs.BookInvariant.{BookInvariant, FitsScript, IsSameHeld, held_view, held_views}
pub use Rattle.swift_tasks.specs.Books.{BookView, HoldsWaiting, IsEndOf, IsJobOf, empty_book, end_of_frames, end_of_turn, jobs_held}
pub use Rattle.swift_tasks.specs.CountedInside.{UnopenedAreNotClosed, counters_of}
pub use Rattle.swift_tasks.specs.Laws.{CanNoteAll}
pub use Rattle.swift_tasks.specs.Refusals.{fits_begun, refusal_of_apply, refusal_of_job, refusal_unless_open, refused_unless}
pub use Rattle.swift_tasks.specs.declared.held.WaitingTask.{WaitingTask}
pub use Rattle.swift_turn.specs.Body.{Advanced, AdvancesTo, BodyView, CanAdvance, GoesOn, HasFrames, IsRunning, TaskView, advanced, at_rest, called, resumed, runs}
pub use Rattle.swift_turn.specs.declared.step.Step.{Step}
pub use Rattle.swift_turn.specs.declared.step.Step.TheVariants.{Await, Ended, Run}
pub use Rattle.swift_types.specs.declared.env.Env.{Env}
pub use Rattle.swift_types.specs.declared.id.TaskId.{TaskId}
pub use Rattle.swift_types.specs.declared.limits.TheConstants.{FRAMES, TASKS}
pub use Rattle.swift_types.specs.declared.outcome.Ending.{Ending}
pub use Rattle.swift_types.specs.declared.outcome.Fault.TheVariants.{Depth, Empty}
pub use Rattle.swift_types.specs.declared.outcome.Resume.{Resume}
pub use Rattle.swift_types.specs.declared.outcome.Resume.TheVariants.{Go, Start}
pub use Rattle.swift_types.specs.declared.priority.Priority.{Priority}
pub use Rattle.swift_types.specs.declared.priority.Priority.TheVariants.{Background}

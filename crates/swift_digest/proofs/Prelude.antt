-- What the proofs of this crate take from elsewhere.
pub use Rattle.std.proofs.Common.{Bool, Contains, List, None, Option, Some, [], ap, append-nil, append_assoc, ap₂, arith, cond, count_by, drop, false, get_or, if◌then◌else◌, inl, inr, is_some, length, length-append, map, nat_lt, not, refl, replicate, set, slice_get, subst, subst₂, suc, sum_by, sym, true, zero, ℕ, ℤ, ◌&&◌, ◌++◌, ◌+◌, ◌<◌, ◌==◌, ◌||◌, ◌∙◌, ◌∷◌, ◌≡◌, ◌≤◌, ◌⊎◌}
pub use Rattle.std.proofs.lemmas.Bool.{cases_Bool, cases_eq, cond-false, cond-true, eq-eqb, ne_eqb, true≢false}
pub use Rattle.std.proofs.lemmas.List.Elements.{Contains-append_cases, Contains-append_left, Contains-append_right, filter_map-append}
pub use Rattle.std.specs.List.{cons_option, filter, filter_map, range_with_len}
pub use Rattle.std.specs.Option.{option_map}
pub use Rattle.std.specs.Prelude.{unwrap_or}
pub use Rattle.swift_digest.specs.Digests.{AreInPlace, Card, Digest, GroupCard, HasLink, IsInPlace, all_noted, cancelled_in, card_noted, card_of, close_in, digest_of, group_card_of, group_in, group_noted, is_cancelled_group_in, is_cancelled_in, no_digest, noted, one_if, open_ending, own_link, parent_in, reserved_in, room_in, said, remembered}
pub use Rattle.swift_digest.specs.Futures.{AreAlike, IsLike, LeadAlike, SameFutures, TurnsAreDetermined}
pub use Rattle.swift_digest.specs.Plans.{FramePlan, JobPlan, TaskPlan, WaitingTaskPlan, caller_plan, frame_plans, held_plan, held_plans, job_plan, job_plans, plan_of, task_plan}
pub use Rattle.swift_escalation.specs.Waits.{IsGiven, IsPriority, Leads, Reaches}
pub use Rattle.swift_events.proofs.GroupLemmas.{endings_of-push_kept, is_among-by, is_among-push}
pub use Rattle.swift_events.proofs.LogLemmas.{asked_of-push, children_of-push, children_of-push_none, is_closed-push, is_closed-push_no, is_named-push, is_named_group-push, life_of-push_other, life_of-push_same, opened_by-push, own_tasks-push, unborn_without, waiters_of-push}
pub use Rattle.swift_events.specs.Events.{is_made, later, task_of, tasks_of}
pub use Rattle.swift_events.specs.Lives.{ending_in, life_of, lived, room_held}
pub use Rattle.swift_events.specs.Relations.{asked_of, asks, cancelled_within, children_of, closes, ending_among, endings_of, group_of, is_cancelled, is_cancelled_group, is_closed, is_named, is_named_group, link_in, links_of, of_parent, opened_by, own_tasks, parent_by, parent_of, waiters_of}
pub use Rattle.swift_events.specs.Room.{IsEnv, reserved_of, room_of}
pub use Rattle.swift_events.specs.declared.event.Event.{Event}
pub use Rattle.swift_events.specs.declared.event.Event.TheVariants.{Apply, Begin, CancelGroup, CancelTask, Child, Close, End, Free, Give, Next, Open, Skip}
pub use Rattle.swift_events.specs.declared.life.JobStage.{JobStage}
pub use Rattle.swift_events.specs.declared.life.JobStage.TheVariants.{Asks, Begun, Closes}
pub use Rattle.swift_events.specs.declared.life.Life.{Life}
pub use Rattle.swift_groups.specs.Close.{close_among, close_of}
pub use Rattle.swift_groups.specs.Groups.{GroupView, has_ended, is_among, unfinished_of}
pub use Rattle.swift_groups.specs.Next.{next_of}
pub use Rattle.swift_history.specs.Checks.{Counters, can_name, can_run, can_use, counted, counters, fits_effect, fits_exit, fits_turn, is_begun, is_current, is_under_way}
pub use Rattle.swift_history.specs.Histories.{AllStand, Block, IsLegal, LeavesFrame, RecordStands, ReportView, Standing, Stands, TurnStands, added, after_block, after_blocks, at_first, begun, begun_priority, checkpoint_at, fields_of, folded, folded_in, folded_of, frames_applied, job_applied, left_as, makes_own, opens_group, ran, record_in, records_of, taken, turn_applied, with_jobs}
pub use Rattle.swift_history.specs.TurnEnds.{AfterTurn, JobFacts, TurnEnd, WaitingTaskView, cancel_events, close_events, close_resume, effect_events, effect_jobs, end_events, exit_events, exit_resume, first_job, followed, gives, is_left_out, jobs_made, log_after, named_task, next_events, next_resume, resume_at, resume_of, root_events, root_job, task, turn_end, wait_events, wait_resume, wake, wake_all, wake_closing, wake_each, wake_owner, wake_parent, woken}
pub use Rattle.swift_interpreter.specs.Frames.{FrameView}
pub use Rattle.swift_interpreter.specs.Turn.{EffectView, ExitView, InvocationView, Played, TurnStateView, adding, asking_next, calling, cancelling_group, cancelling_task, closing, detaching, failing, kept, opening, returning, spawning, waiting, yielding}
pub use Rattle.swift_interpreter.specs.declared.effect.TaskName.{TaskName}
pub use Rattle.swift_interpreter.specs.declared.effect.TaskName.TheVariants.{Own}
pub use Rattle.swift_journal.specs.Checkpoints.{CheckpointView, FoldedView}
pub use Rattle.swift_journal.specs.Records.{RecordView}
pub use Rattle.swift_history.specs.Replay.{IsAfter, IsLawfulRecord, StandsFor, replay, turn_of}
pub use Rattle.swift_laws.proofs.HistoriesTurns.{after_push, applied_is, block_keeps, both, first_counted}
pub use Rattle.swift_script.specs.Scripts.{ScriptView, actor_executor, executor_count, executor_invariants, method_actor, root_count, root_priority}
pub use Rattle.swift_turn.specs.Body.{Advanced, TaskView, advanced, called, resumed, state_at}
pub use Rattle.swift_turn.specs.declared.step.Step.{Step}
pub use Rattle.swift_turn.specs.declared.step.Step.TheVariants.{Await, Ended, Run}
pub use Rattle.swift_types.specs.declared.env.Env.{Env}
pub use Rattle.swift_types.specs.declared.id.TaskId.{TaskId}
pub use Rattle.swift_types.specs.declared.limits.TheConstants.{FRAMES, STEPS}
pub use Rattle.swift_types.specs.declared.outcome.Ending.{Ending}
pub use Rattle.swift_types.specs.declared.outcome.Resume.{Resume}
pub use Rattle.swift_types.specs.declared.priority.Priority.{Priority}
pub use Rattle.swift_types.specs.declared.priority.Priority.TheVariants.{Background}

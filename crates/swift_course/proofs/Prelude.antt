-- What the proofs of this crate take from elsewhere.
pub use Rattle.script_code.specs.Tree.{Code, Operation, Term, Wanted}
pub use Rattle.script_code.specs.Value.{ev, evs}
pub use Rattle.std.proofs.Common.{Bool, List, [], add-zero, ap, append_assoc, arith, cond, count_by, drop, false, get_or, if◌then◌else◌, inl, inr, length, length-append, map, refl, replicate, set, subst, suc, sym, take, take-append-drop, true, zero, ℕ, ℤ, ◌++◌, ◌+◌, ◌<◌, ◌==◌, ◌∙◌, ◌∷◌, ◌≡◌, ◌≢◌, ◌≤◌, ◌⊎◌}
pub use Rattle.std.proofs.lemmas.Bool.{cases_eq, false≢true}
pub use Rattle.std.proofs.lemmas.Bool.Decides.{nat_tests}
pub use Rattle.std.proofs.lemmas.List.{append-nil}
pub use Rattle.std.proofs.lemmas.List.Elements.{All-append, All-cons, All-contains, All-drop, All-from_recursion, All-head, All-nil, All-tail, All-take, filter_map-append}
pub use Rattle.std.proofs.lemmas.List.Sums.{get_or-le-sum_by, sum_by-append, sum_by-cons, sum_by-take-drop, sum_by_push}
pub use Rattle.std.proofs.lemmas.Option.{slice_get_within}
pub use Rattle.std.specs.List.{AllByRecursion, cons_option, filter_map, range_with_len}
pub use Rattle.std.specs.Prelude.{All, Contains, IfSome, IsPermutation, None, Option, Some, is_some, nat_lt, pos, slice_get, sum_by, unwrap_or, ◌^◌}
pub use Rattle.swift_course.specs.Counts.{CountsFrom}
pub use Rattle.swift_course.specs.Course.{HasUnderWay, IsCourse, IsFront, IsGiven, IsIn, IsOrdered, IsOwned, IsUnderWay, SaysOrder, SeatIsRight, is_for, one_if, standing, start_of, starts, tickets_in, waits, ways}
pub use Rattle.swift_course.specs.Reports.{HasHistory, IsAccountedFor, IsReportOf, RunsAreLegal, RunsAreOrderly, SeatsLearn}
pub use Rattle.swift_course.specs.Steps.{BooksMayStay, IsTurn, MayGive, RootsMayBeAdded, TicketsMayBeOrdered, TurnsMayBeApplied, TurnsMayBegin, end_of, knowing_begin, knowing_root, knowing_turn, order_applied, order_begun, with_begin, with_record, with_root, with_turn, with_turn_begun}
pub use Rattle.swift_course.specs.Views.{Account, BookFacts, BookKnown, Maker, Ticket, TurnOrder, at_rest, fresh, no_view, under_way, unordered}
pub use Rattle.swift_events.proofs.LogLemmas.{life_of-push_other, life_of-push_same, tasks_of-push_made, tasks_of-push_other, unborn_without}
pub use Rattle.swift_events.specs.Events.{is_made, later, task_of, tasks_of}
pub use Rattle.swift_events.specs.Lives.{life_of, lived, origin_in, stage_in}
pub use Rattle.swift_events.specs.Relations.{group_of, opened_by, parent_of, waiters_of}
pub use Rattle.swift_events.specs.Room.{IsEnv}
pub use Rattle.swift_events.specs.declared.event.Event.{Event}
pub use Rattle.swift_events.specs.declared.event.Event.TheVariants.{Apply, Begin, CancelGroup, CancelTask, Child, End, Free, Give, Open, Root, Skip, Wait}
pub use Rattle.swift_events.specs.declared.life.JobStage.{JobStage}
pub use Rattle.swift_events.specs.declared.life.JobStage.TheVariants.{Asks, Begun, Closes}
pub use Rattle.swift_events.specs.declared.life.Life.{Life}
pub use Rattle.swift_events.specs.declared.life.Origin.{Origin}
pub use Rattle.swift_groups.specs.Next.{next_of}
pub use Rattle.swift_history.specs.Checks.{counters, fits_turn, is_begun, is_current}
pub use Rattle.swift_history.specs.Histories.{AllStand, Block, FoldedStands, LeavesFrame, RecordStands, ReportView, Standing, Stands, added, after_block, after_blocks, at_first, begun, begun_priority, checkpoint_at, fields_of, folded, folded_in, frames_applied, job_applied, left_as, makes_own, no_checkpoint, opens_group, ran, record_in, records_of, root_in, roots_of, taken, with_jobs}
pub use Rattle.swift_history.specs.Orderly.{AllAllowed, IsOrderly, frames_executor, has_last_of, has_last_root, job_executor}
pub use Rattle.swift_history.specs.TurnEnds.{AfterTurn, JobFacts, TurnEnd, WaitingTaskView, close_events, effect_events, effect_jobs, end_events, exit_events, exit_resume, first_job, followed, gives, is_left_out, jobs_made, log_after, named_task, next_events, resume_at, resume_of, root_events, root_job, task, turn_end, wait_events, wake, wake_all, wake_closing, wake_each, wake_owner, wake_parent, woken}
pub use Rattle.swift_interpreter.specs.Frames.{FrameView}
pub use Rattle.swift_interpreter.specs.Turn.{AfterStatement, EffectView, ExitView, InvocationView, Played, TurnInputView, TurnStateView, act, adding, all_hold, asking_next, at_limit, calling, cancelling_group, cancelling_task, caught, closing, detaching, exits, failing, given, goes, kept, kept_of, leaves, left_by, on, opening, perform, raised_by, returning, scene, settled, spawning, taken_by, undoes, waiting, whole_turn, with_invocation, with_value, yielding}
pub use Rattle.swift_journal.specs.Checkpoints.{CheckpointView, FoldedView, folded_of}
pub use Rattle.swift_journal.specs.Records.{RecordView}
pub use Rattle.swift_history.specs.Replay.{IsAfter, IsLawfulRecord, StandsFor, fields_after, replay, turn_of}
pub use Rattle.swift_script.specs.Scripts.{ScriptView, actor_executor, executor_count, executor_invariants, executor_start, method_actor, root_count, root_priority}
pub use Rattle.swift_turn.specs.Body.{Advanced, HasFirst, TaskView, advanced, callers_of, kept_turn, resumed, state_at}
pub use Rattle.swift_turn.specs.declared.step.Step.{Step}
pub use Rattle.swift_turn.specs.declared.step.Step.TheVariants.{Await, Ended, Run}
pub use Rattle.swift_types.specs.declared.env.Env.{Env}
pub use Rattle.swift_types.specs.declared.id.TaskId.{TaskId}
pub use Rattle.swift_types.specs.declared.outcome.Ending.{Ending}
pub use Rattle.swift_types.specs.declared.outcome.Fault.{Fault}
pub use Rattle.swift_types.specs.declared.outcome.Resume.{Resume}
pub use Rattle.swift_types.specs.declared.outcome.Resume.TheVariants.{Go, Start, Value}
pub use Rattle.swift_types.specs.declared.priority.Priority.{Priority}
pub use Rattle.swift_types.specs.declared.priority.Priority.TheVariants.{Background, Medium}
pub use lib.ListN.{get_elem?}
pub use mathlib.Core.Option.{some, some-injective, some-ne-none}

-- What the proofs of this crate take from elsewhere.
pub use Rattle.script_code.specs.Instructions.{FollowsCode, NextAction, does, ends, first, first_by, first_if, tests}
pub use Rattle.script_code.specs.Layout.{code_at, entry, exchanged, stands_for}
pub use Rattle.script_code.specs.Tree.{CallTarget, Code, Operation, Term, Wanted, followed}
pub use Rattle.script_code.specs.Value.{Scene, and_then, ev, evs, flag, in_front, is_zero, joined, within}
pub use Rattle.script_code.specs.declared.instruction.Act.{Act}
pub use Rattle.script_code.specs.declared.instruction.Cancelled.{Cancelled}
pub use Rattle.script_code.specs.declared.instruction.Instruction.{Instruction}
pub use Rattle.script_code.specs.declared.instruction.NumberPlace.{NumberPlace}
pub use Rattle.script_code.specs.declared.instruction.NumberPlace.TheVariants.{Field, Variable}
pub use Rattle.std.proofs.Common.{All, Bool, Contains, List, None, Option, Some, [], ap, append-nil, append_assoc, ap₂, arith, false, if◌then◌else◌, inl, inr, is_some, length, map, min, nat_lt, neg_ℤ, not, pos, refl, replicate, slice_get, slice_index_or, slice_set, subst, subst₂, suc, sum_by, sym, true, zero, ℕ, ℤ, ◌&&◌, ◌*◌, ◌++◌, ◌+◌, ◌-◌, ◌<◌, ◌==◌, ◌^◌, ◌||◌, ◌∙◌, ◌∷◌, ◌≡◌, ◌≢◌, ◌≤◌, ◌⊎◌}
pub use Rattle.std.proofs.lemmas.Bool.{cases_Bool, cases_eq, eq-eqb, eqb-true, false≢true, ltb-true, ne_eqb}
pub use Rattle.std.proofs.lemmas.List.Elements.{All-contains, Contains-append_right, filter_map-append}
pub use Rattle.std.proofs.lemmas.List.FromFn.{length-map-range_with_len, sum_by-map-range_with_len_more}
pub use Rattle.std.proofs.lemmas.Option.{none-some, same_Some, slice_get_cases}
pub use Rattle.std.specs.List.{AllByRecursion, cons_option, filter, range_with_len}
pub use Rattle.std.specs.Option.{option_map}
pub use Rattle.std.specs.Prelude.{unwrap_or}
pub use Rattle.swift_digest.proofs.Answers.{close_of_is, group_of_is, is_cancelled_group_is, is_cancelled_is, is_closed_is, life_of_is, opened_by_is, own_tasks_is, parent_of_is, tasks_of_is, waiters_of_is}
pub use Rattle.swift_digest.proofs.Cards.{bare, bare_remembered, current_in_digest, digest_of-append, digest_of-push, remembered_is}
pub use Rattle.swift_digest.proofs.Determined.{determined, determined_exit}
pub use Rattle.swift_digest.proofs.Lines.{one_env}
pub use Rattle.swift_digest.proofs.Links.{AreWithin, link_in_digest, link_in_log, same_priority}
pub use Rattle.swift_digest.proofs.NewChildren.{histories_new}
pub use Rattle.swift_digest.proofs.Outcomes.{Made, NoneFolded, lead_on, made, none_in, not_folded, orderly_too, outcome_too, unfolded_too}
pub use Rattle.swift_digest.proofs.SameLogs.{asked_open, new_prefix, same_cancelled, same_life, same_tasks}
pub use Rattle.swift_digest.proofs.SameStands.{all_push, block_stands, fields_push, front_none, lead_push, records_push, same_futures}
pub use Rattle.swift_digest.specs.Digests.{AreInPlace, Card, Digest, GroupCard, HasLink, all_noted, cancelled_in, card_noted, close_in, digest_of, group_in, group_noted, is_cancelled_group_in, is_cancelled_in, noted, one_if, open_ending, parent_in, said, remembered}
pub use Rattle.swift_digest.specs.Explored.{FoldsNone, IsNotFolded, IsOutcome, StartsFresh, state_of}
pub use Rattle.swift_digest.specs.Futures.{AreLike, IsLike, LeadAlike}
pub use Rattle.swift_digest.specs.Plans.{FramePlan, JobPlan, caller_plan, frame_plans, held_plans, job_plan, plan_of}
pub use Rattle.swift_escalation.specs.Waits.{IsGiven, IsPriority, Leads, Reaches}
pub use Rattle.swift_events.proofs.Cancels.{cancelled_stays, of_parent_same}
pub use Rattle.swift_events.proofs.LogLemmas.{life_of-push_other, life_of-push_same, own_tasks-push_none, own_tasks-push_same, parent_of-push, unborn_without, waiters_of-push_none}
pub use Rattle.swift_events.specs.Events.{is_made, later, task_of, tasks_of}
pub use Rattle.swift_events.specs.Lives.{ending_in, given_in, life_of, lived, origin_in, room_held, room_in, stage_in}
pub use Rattle.swift_events.specs.Relations.{child_in, group_of, is_cancelled, is_cancelled_group, is_closed, link_in, links_of, of_parent, opened_by, own_in, own_tasks, parent_by, parent_of, waiter_in, waiters_of}
pub use Rattle.swift_events.specs.Room.{IsEnv, reserved_of, room_of}
pub use Rattle.swift_events.specs.declared.event.Event.{Event}
pub use Rattle.swift_events.specs.declared.event.Event.TheVariants.{Apply, Begin, CancelGroup, CancelTask, Child, Close, End, Free, Give, Next, Open, Root, Skip, Wait}
pub use Rattle.swift_events.specs.declared.life.JobStage.{JobStage}
pub use Rattle.swift_events.specs.declared.life.JobStage.TheVariants.{Applied, Asks, Begun, Closes, Given, Waits}
pub use Rattle.swift_events.specs.declared.life.LastJob.{LastJob}
pub use Rattle.swift_events.specs.declared.life.Life.{Life}
pub use Rattle.swift_groups.specs.Groups.{GroupView, is_among}
pub use Rattle.swift_groups.specs.Next.{next_of}
pub use Rattle.swift_history.specs.Checks.{Counters, can_name, can_run, can_use, counted, counters, fits_effect, fits_exit, fits_turn, is_begun, is_current, is_under_way, was_given}
pub use Rattle.swift_history.specs.Histories.{AllStand, Block, IsLegal, RecordStands, ReportView, Standing, Stands, TurnStands, added, after_block, after_blocks, at_first, begun, begun_priority, checkpoint_at, fields_of, folded, folded_in, folded_of, left_as, ran, record_in, records_of, roots_of, taken, turn_applied, with_jobs}
pub use Rattle.swift_history.specs.Orderly.{AllAllowed, IsOrderly, IsOrderlyLegal, frames_executor, job_executor}
pub use Rattle.swift_history.specs.TurnEnds.{AfterTurn, JobFacts, TurnEnd, WaitingTaskView, cancel_events, close_events, close_resume, effect_events, effect_jobs, end_events, exit_events, exit_resume, first_job, gives, is_left_out, jobs_made, log_after, named_task, next_events, next_resume, resume_at, resume_of, root_events, root_job, task, turn_end, wait_events, wait_resume, wake_all, wake_closing, wake_each, wake_owner, wake_parent}
pub use Rattle.swift_interpreter.specs.Frames.{FrameView}
pub use Rattle.swift_interpreter.specs.Turn.{AfterStatement, EffectView, ExitView, InvocationView, Played, TurnInputView, TurnStateView, act, adding, all_hold, asking_next, at_limit, calling, cancelling_group, cancelling_task, caught, close_group, closing, detaching, end_of, exits, failing, given, goes, invoked, kept, kept_of, leaves, left_by, make, on, opening, perform, raised_by, returning, scene, settled, spawning, standing, taken_by, undoes, wait_for, waiting, whole_turn, with_invocation, with_value, yielding}
pub use Rattle.swift_interpreter.specs.declared.effect.TaskName.{TaskName}
pub use Rattle.swift_interpreter.specs.declared.effect.TaskName.TheVariants.{Own}
pub use Rattle.swift_journal.specs.Checkpoints.{CheckpointView, FoldedView}
pub use Rattle.swift_journal.specs.Records.{RecordView}
pub use Rattle.swift_history.specs.Replay.{IsAfter, IsLawfulRecord, StandsFor, replay, turn_of}
pub use Rattle.swift_laws.proofs.HistoriesBegun.{all_begun}
pub use Rattle.swift_laws.proofs.HistoriesCounted.{AreCounted, Beyond, HasNumber, beyond_push, unbegun, written_within}
pub use Rattle.swift_laws.proofs.HistoriesGrow.{begins, keeps_applied, keeps_block, keeps_turn, log_grows}
pub use Rattle.swift_laws.proofs.HistoriesTurns.{Resting, after_push, all_append, all_keep, applied_is, both, current_is, first_counted, turn_follows}
pub use Rattle.swift_laws.proofs.HistoriesWritten.{IsWritten, keeps_effects, keeps_exit}
pub use Rattle.swift_laws.proofs.OpenLogs.{has_origin, origin_stays, tasks_grow}
pub use Rattle.swift_laws.specs.Laws.{ActorsHaveExecutors}
pub use Rattle.swift_reordering.specs.Away.{code_looks_away, frame_looks_away, frames_look_away, job_looks_away, operation_looks_away, term_if_looks_away, term_looks_away, terms_look_away, turn_looks_away, wanted_looks_away}
pub use Rattle.swift_reordering.specs.Blurred.{AreClose, AreNear, LeadClose, blurred, blurred_life, blurred_stage, stage_at}
pub use Rattle.swift_reordering.specs.Fused.{BeginLate, EachIsFused, IsFused, RoomNeverBinds, RunsNext, done_by, done_in, no_env}
pub use Rattle.swift_reordering.specs.FusedSteps.{AreClosed, ClosedHasEachExit, ClosedHasEachOutcome, HasExit, HasRoom, IsFusedStep, MayStep}
pub use Rattle.swift_reordering.specs.RunAhead.{AllEndAsTried, AllRunSilently, AreClosedAhead, ClosedAheadHasEachExit, ClosedAheadHasEachOutcome, LeadAsOne, OneTurn, RunsSilently, after_turn, after_turns}
pub use Rattle.swift_reordering.specs.Silent.{code_is_silent, frame_is_silent, goes_on_alone, operation_is_silent, place_is_own, term_if_is_own, term_is_own, terms_are_own, wanted_is_own}
pub use Rattle.swift_reordering.specs.SilentSearch.{AreClosedSilently, ClosedSilentlyHasEachExit, ClosedSilentlyHasEachOutcome, InvariantsStart}
pub use Rattle.swift_reordering.specs.SilentTurns.{Commutes, GoesFirst, IsSilentTurn, OwnNext, SilentTurnsCommute, SilentTurnsMayGoFirst}
pub use Rattle.swift_reordering.specs.Statements.{action_is, code_all, ends_turn, here, instruction_is, turn_all}
pub use Rattle.swift_reordering.specs.Unnamed.{EffectSpares, InstructionsSpare, IsApart, IsOther, IsUnnamed, PlaySpares, TurnsSpare, cancelled_spares, code_spares, ends_task, exit_spares, name_spares, operation_spares, term_spares, wanted_spares}
pub use Rattle.swift_reordering.specs.Waiting.{BeginsAfter, BeginsMayWait, IsOfOther}
pub use Rattle.swift_script.specs.Scripts.{ScriptView, actor_executor, executor_count, executor_invariants, method_actor, method_code, root_count, root_priority}
pub use Rattle.swift_turn.specs.Body.{Advanced, HasFrames, TaskView, advanced, called, invariants_at, kept_turn, state_at}
pub use Rattle.swift_turn.specs.declared.step.Step.{Step}
pub use Rattle.swift_turn.specs.declared.step.Step.TheVariants.{Ended}
pub use Rattle.swift_types.specs.declared.env.Env.{Env}
pub use Rattle.swift_types.specs.declared.id.TaskId.{TaskId}
pub use Rattle.swift_types.specs.declared.limits.TheConstants.{FRAMES, MADE, STEPS, TASKS}
pub use Rattle.swift_types.specs.declared.outcome.Ending.{Ending}
pub use Rattle.swift_types.specs.declared.outcome.Fault.{Fault}
pub use Rattle.swift_types.specs.declared.outcome.Fault.TheVariants.{Depth, Invariant, Steps, Turns}
pub use Rattle.swift_types.specs.declared.outcome.Resume.{Resume}
pub use Rattle.swift_types.specs.declared.outcome.Resume.TheVariants.{Go, Start, Value}
pub use Rattle.swift_types.specs.declared.priority.Priority.{Priority}
pub use Rattle.swift_types.specs.declared.priority.Priority.TheVariants.{Background}

-- What the proofs of this crate take from elsewhere.
pub use Rattle.script_code.specs.Tree.{Code, Operation, Term, Wanted, act, end}
pub use Rattle.script_code.specs.Value.{ev, evs}
pub use Rattle.script_code.specs.declared.instruction.NumberPlace.{NumberPlace}
pub use Rattle.script_code.specs.declared.instruction.NumberPlace.TheVariants.{Field, Variable}
pub use Rattle.script_compiler.specs.Compiled.{MethodView, actors_from, method_of, methods_from, own_executor, own_executors, plan_in}
pub use Rattle.script_compiler.specs.Plan.{PlanView, executors_from, on_executor}
pub use Rattle.script_grammar.specs.Tree.{ActionTree, ActorTree, Acts, Assign, Assume, Bind, Binds, BlockTree, Computed, DeclTree, Detached, Do, Executes, ExecutorTree, Group, HeadTree, Headed, If, IfElse, Let, LetTask, MakeTree, Makes, MethodTree, Return, Roots, Spawned, StmtTree, ValueTree, Waited, While, block_tree, first_then, nothing}
pub use Rattle.script_names.specs.Rules.{SeenView, at_name, decl_error, declarations_error, names_error, on_error, past_decl, repeat_error, scope_after, scope_within, seen_after}
pub use Rattle.script_printing.specs.Script.{script_in}
pub use Rattle.std.proofs.Common.{Bool, List, [], ap, append_assoc, arith, cond, drop, false, get_or-set_other, inl, inr, length, map, refl, replicate, subst, suc, sym, take, true, zero, ℕ, ℤ, ◌++◌, ◌+◌, ◌-◌, ◌<◌, ◌∙◌, ◌∷◌, ◌≡◌, ◌≢◌, ◌≤◌}
pub use Rattle.std.proofs.lemmas.Bool.{cases_Bool, cases_eq, eq-eqb, eqb-true, false≢true, ltb-false, ltb-true, ne_eqb, true≢false}
pub use Rattle.std.proofs.lemmas.Bool.Decides.{nat_tests}
pub use Rattle.std.proofs.lemmas.List.{append-nil, length-append}
pub use Rattle.std.proofs.lemmas.List.Elements.{filter_map-append, recursion_from_All}
pub use Rattle.std.proofs.lemmas.List.Sums.{sum_by-append, sum_by-cons}
pub use Rattle.std.proofs.lemmas.Option.{none-some, same_Some, slice_get_within, some_pair_parts}
pub use Rattle.std.specs.List.{All, AllByRecursion, cons_option, filter, filter_map, list_any, range_with_len}
pub use Rattle.std.specs.Prelude.{Contains, IfSome, IsTrue, None, Option, Some, count_by, if◌then◌else◌, is_some, nat_lt, not, slice_get, slice_index_or, slice_set, unwrap_or, ◌&&◌, ◌==◌, ◌^◌, ◌||◌, ◌⊎◌}
pub use Rattle.swift_events.proofs.LogLemmas.{filter_map-push_none, is_closed-push, is_closed-push_no, life_of-push_other, life_of-push_same, list_any-push_no, opened_by-push_no, opened_by-push_yes, origin-push, tasks_of-push_made, tasks_of-push_other, unborn_without}
pub use Rattle.swift_events.specs.Events.{events_of, is_made, last_of, later, task_of, tasks_of}
pub use Rattle.swift_events.specs.Lives.{ending_in, given_in, life_of, lived, origin_in, stage_in, unborn, waits_at}
pub use Rattle.swift_events.specs.Relations.{child_in, children_of, closes, ending_among, endings_of, group_of, is_closed, link_in, links_of, opened_by, opens, parent_of, waiters_of}
pub use Rattle.swift_events.specs.declared.event.Event.{Event}
pub use Rattle.swift_events.specs.declared.event.Event.TheVariants.{Apply, Begin, CancelGroup, CancelTask, Child, Close, End, Free, Give, Next, Open, Root, Skip, Wait}
pub use Rattle.swift_events.specs.declared.life.JobStage.{JobStage}
pub use Rattle.swift_events.specs.declared.life.LastJob.{LastJob}
pub use Rattle.swift_events.specs.declared.life.Life.{Life}
pub use Rattle.swift_events.specs.declared.life.Origin.{Origin}
pub use Rattle.swift_groups.specs.Close.{close_among, close_of}
pub use Rattle.swift_groups.specs.Next.{next_of}
pub use Rattle.swift_history.specs.Checks.{Counters, can_use, counted, counters, fits_effect, fits_turn, is_begun, is_current, is_under_way, same_resume, was_given}
pub use Rattle.swift_history.specs.Histories.{AllStand, Block, IsLegal, ReportView, Standing, Stands, TurnStands, added, after_block, after_blocks, at_first, begun, begun_priority, fields_of, folded, folded_in, folded_of, frames_applied, job_applied, left_as, opens_group, ran, record_in, records_of, taken, turn_applied, with_jobs}
pub use Rattle.swift_history.specs.TurnEnds.{AfterTurn, JobFacts, WaitingTaskView, close_events, close_resume, effect_events, effect_jobs, end_events, exit_events, exit_resume, first_job, followed, gives, is_left_out, jobs_made, log_after, named_task, next_events, next_resume, resume_of, root_events, root_job, step_resume, task, turn_end, wait_events, wait_resume, wake, wake_all, wake_closing, wake_each, wake_owner, wake_parent, woken}
pub use Rattle.swift_interpreter.specs.Frames.{FrameView}
pub use Rattle.swift_interpreter.specs.Turn.{AfterStatement, EffectView, ExitView, InvocationView, Played, TurnInputView, TurnStateView, adding, asking_next, at_limit, calling, cancelling_group, cancelling_task, caught, closing, detaching, end_of, exits, failing, given, goes, kept, leaves, left_by, on, opening, perform, raised_by, returning, scene, settled, spawning, standing, taken_by, waiting, whole_turn, with_invocation, with_value, yielding}
pub use Rattle.swift_journal.specs.Checkpoints.{CheckpointView, FoldedView}
pub use Rattle.swift_journal.specs.Records.{RecordView}
pub use Rattle.swift_laws.specs.Accepted.{AcceptedJobsStand, AcceptedTurnsStand, ClosesGroups, LeadsTo, after_operation}
pub use Rattle.swift_laws.specs.Ended.{HasEnded, IsPrefix}
pub use Rattle.swift_laws.specs.Inherited.{BlockMakes, FindsInherited, GoesOn, HandsOn, IsHandedOn, IsMadeWith, OneMakes, Passes, bindings_over, first_of_two}
pub use Rattle.swift_laws.specs.Laws.{ActorsHaveExecutors, AppliedTurnsStand, BeginsIn, GivenJobsAreApplied, HasTurn, IsFolded, IsRecord, TurnPlace, TurnsAreNumbered, begins_turn, given_job, in_checkpoint, in_journal, jobs_given, turn_in, turns_of}
pub use Rattle.swift_locals.specs.Bindings.{value_of}
pub use Rattle.swift_script.specs.Accepted.{WasAccepted}
pub use Rattle.swift_script.specs.Scripts.{ScriptView, actor_executor, executor_count, executor_invariants, method_actor, method_count, no_actor, no_method, root_count, root_priority}
pub use Rattle.swift_turn.specs.Body.{Advanced, TaskView, advanced, called, callers_of, resumed, state_at}
pub use Rattle.swift_turn.specs.declared.step.Step.{Step}
pub use Rattle.swift_turn.specs.declared.step.Step.TheVariants.{Await, Ended, Run}
pub use Rattle.swift_types.specs.declared.env.Env.{Env}
pub use Rattle.swift_types.specs.declared.id.TaskId.{TaskId}
pub use Rattle.swift_types.specs.declared.limits.TheConstants.{FRAMES, STEPS}
pub use Rattle.swift_types.specs.declared.outcome.Ending.{Ending}
pub use Rattle.swift_types.specs.declared.outcome.Fault.{Fault}
pub use Rattle.swift_types.specs.declared.outcome.Fault.TheVariants.{Depth, Empty, Turns}
pub use Rattle.swift_types.specs.declared.outcome.Resume.{Resume}
pub use Rattle.swift_types.specs.declared.outcome.Resume.TheVariants.{Go, Start, Value}
pub use Rattle.swift_types.specs.declared.priority.Priority.{Priority}
pub use Rattle.swift_types.specs.declared.priority.Priority.TheVariants.{Background}

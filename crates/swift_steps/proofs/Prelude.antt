-- What the proofs of this crate take from elsewhere.
pub use Rattle.script_code.specs.Seen.{rows_of}
pub use Rattle.std.proofs.Common.{Bool, Err, IfOk, IsTrue, List, None, Ok, Option, Result, Some, Vec, [], ap, arith, false, get_or-set_other, get_or-set_same, if◌then◌else◌, inl, inr, is_none, length, map, refl, reverse, rules, set, slice_get, subst, suc, sym, take, take_all, true, vec_len, zero, ℕ, ℤ, ◌&&◌, ◌++◌, ◌+◌, ◌-◌, ◌<◌, ◌==◌, ◌∙◌, ◌∷◌, ◌≡◌, ◌≢◌}
pub use Rattle.std.proofs.lemmas.Bool.{cases_eq, false≢true}
pub use Rattle.std.proofs.lemmas.List.{get_or_read_under, length-map, length-set, map_more, map_push, reverse-append}
pub use Rattle.std.proofs.lemmas.Option.{none-some, slice_get-get_or, slice_get-map}
pub use Rattle.std.specs.Arc.{arc_value}
pub use Rattle.std.specs.List.{AllByRecursion, AllZip, range_with_len}
pub use Rattle.std.specs.Option.{option_map}
pub use Rattle.std.specs.Prelude.{unwrap_or}
pub use Rattle.std.specs.declared.alloc.Global.{Global}
pub use Rattle.swift_course.specs.Course.{standing}
pub use Rattle.swift_events.specs.Lives.{life_of}
pub use Rattle.swift_events.specs.Room.{IsEnv}
pub use Rattle.swift_events.specs.declared.event.Event.TheVariants.{Begin}
pub use Rattle.swift_events.specs.declared.life.JobStage.TheVariants.{Begun}
pub use Rattle.swift_history.specs.Histories.{Block, RecordStands, Standing, Stands, TurnStands, added, after_block, at_first, begun, begun_priority, fields_of, frames_applied, job_applied, left_as, ran, record_in, records_of, root_in, taken, turn_applied, with_jobs}
pub use Rattle.swift_history.specs.Jobs.{job_facts}
pub use Rattle.swift_history.specs.TurnEnds.{JobFacts, TurnEnd, WaitingTaskView, root_events, root_job, turn_end}
pub use Rattle.swift_interpreter.specs.Frames.{FrameView, effect_views}
pub use Rattle.swift_interpreter.specs.Turn.{EffectView, ExitView, Played, TurnStateView, asking_next, calling, closing, failing, returning, waiting, yielding}
pub use Rattle.swift_interpreter.specs.TurnStates.{exit_view}
pub use Rattle.swift_job.specs.Job.{JobView}
pub use Rattle.swift_journal.specs.Checkpoints.{CheckpointView}
pub use Rattle.swift_journal.specs.Records.{RecordView}
pub use Rattle.swift_history.specs.Replay.{IsAfter, IsLawfulRecord, StandsFor, fields_after, replay}
pub use Rattle.swift_script.specs.Scripts.{ScriptView, actor_executor, method_actor, root_count}
pub use Rattle.swift_steps.specs.NextTurns.{AreGiven, AreOf, IsReadyOf, IsSame, IsSameIf, given_at, given_view, job_of, with_given}
pub use Rattle.swift_steps.specs.OpenHistories.{Applies, Begins, Follows, GoesOn, IsAtRest, IsCopyOf, IsFollowed, IsLed, Plays, RunsAt, Takes, kept_first, record_of, rows_at}
pub use Rattle.swift_steps.specs.declared.history.OpenHistory.{OpenHistory}
pub use Rattle.swift_steps.specs.declared.next_turn.NextTurn.{NextTurn}
pub use Rattle.swift_tasks.specs.Books.{BookView, IsEndOf, IsJobOf, empty_book, end_of_frames, end_of_turn}
pub use Rattle.swift_tasks.specs.Refusals.{fits_begun, refusal_of_apply, refusal_of_begin, refusal_of_root, refused_unless}
pub use Rattle.swift_turn.specs.Body.{Advanced, BodyView, HasFrames, IfRunning, IsTurnOf, PhaseView, Polls, TaskView, advanced, entered, idle, kept_turn, left, state_at}
pub use Rattle.swift_types.specs.declared.env.Env.{Env}
pub use Rattle.swift_types.specs.declared.id.TaskId.{TaskId}

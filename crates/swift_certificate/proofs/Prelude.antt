-- What the proofs of this crate take from elsewhere.
pub use Rattle.script_code.specs.Seen.{rows_of}
pub use Rattle.std.proofs.Common.{Bool, Err, IfOk, IfSome, IsTrue, List, None, Ok, Option, Result, Some, Vec, [], ap, append_assoc, arith, count_by, false, get_or, if◌then◌else◌, inl, inr, length, map, option_map, refl, replicate, rules, slice_get, slice_index_or, slice_set, subst, suc, sym, take, take_all, true, vec_capacity, vec_len, zero, ℕ, ℤ, ◌++◌, ◌+◌, ◌-◌, ◌<◌, ◌∙◌, ◌∷◌, ◌≡◌, ◌≢◌, ◌≤◌}
pub use Rattle.std.proofs.lemmas.Bool.{cases_eq}
pub use Rattle.std.proofs.lemmas.List.{append-nil, get_or-map, length-map, map_more, map_push, take_more_same}
pub use Rattle.std.proofs.lemmas.Option.{get_or_from_slice_get, none-some, slice_get-get_or, slice_get-map, slice_get_read, slice_get_within}
pub use Rattle.std.specs.Arc.{arc_value}
pub use Rattle.std.specs.List.{range_with_len, take-map}
pub use Rattle.std.specs.Prelude.{unwrap_or}
pub use Rattle.std.specs.declared.alloc.Global.{Global}
pub use Rattle.swift_certificate.specs.ReplayInside.{AreEndedAt, EndsAt, Folds, GoesOn, IsProgress, IsReplay, TakesFolded, at_the_start, folded_turn, journal_at}
pub use Rattle.swift_certificate.specs.Reports.{report_view}
pub use Rattle.swift_certificate.specs.declared.playing.ExecutorProgress.{ExecutorProgress}
pub use Rattle.swift_certificate.specs.declared.playing.FoldedTurn.{FoldedTurn}
pub use Rattle.swift_certificate.specs.declared.replay.Replay.{Replay}
pub use Rattle.swift_course.proofs.Blocks.{filter_none, filter_some}
pub use Rattle.swift_events.specs.Lives.{life_of}
pub use Rattle.swift_events.specs.Relations.{is_closed, opened_by}
pub use Rattle.swift_events.specs.declared.life.Origin.{Origin}
pub use Rattle.swift_history.specs.Histories.{AllStand, Block, FoldedStands, IsLegal, LeavesFrame, RecordStands, ReportView, Stands, added, after_blocks, at_first, begun, checkpoint_at, folded, folded_in, left_as, makes_own, no_checkpoint, opens_group, ran, record_in, records_of}
pub use Rattle.swift_interpreter.specs.Frames.{FrameView, effect_view, effect_views, frame_if, frame_view}
pub use Rattle.swift_interpreter.specs.Turn.{EffectView, ExitView}
pub use Rattle.swift_interpreter.specs.TurnStates.{exit_view}
pub use Rattle.swift_interpreter.specs.declared.effect.Effect.{Effect}
pub use Rattle.swift_journal.specs.Checkpoints.{CheckpointRoomView, CheckpointView, FoldedView, folded_view}
pub use Rattle.swift_journal.specs.Records.{RecordView}
pub use Rattle.swift_script.specs.Scripts.{ScriptView, actor_executor, executor_count, method_actor, root_count}
pub use Rattle.swift_steps.proofs.Given.{equal, same_one, unequal}
pub use Rattle.swift_steps.proofs.Ran.{if_yes}
pub use Rattle.swift_steps.proofs.Steps.{at_rest, followed_is, own_led, rest_after, same_rows}
pub use Rattle.swift_steps.specs.NextTurns.{given_at, given_view, job_of}
pub use Rattle.swift_steps.specs.OpenHistories.{Applies, Follows, IsAtRest, IsFollowed, Plays, RunsAt, StartsFrom, Takes, record_of, rows_at}
pub use Rattle.swift_steps.specs.declared.next_turn.NextTurn.{NextTurn}
pub use Rattle.swift_steps.specs.declared.played.PlayedTurn.{PlayedTurn}
pub use Rattle.swift_turn.specs.Body.{BodyView, HasFirst, HasFrames, IfRunning, TaskView, callers_of}
pub use Rattle.swift_types.specs.declared.id.TaskId.{TaskId}
pub use Rattle.swift_types.specs.declared.outcome.Ending.{Ending}

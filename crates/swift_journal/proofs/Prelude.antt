-- What the proofs of this crate take from elsewhere.
pub use Rattle.script_code.specs.Seen.{pair_of, pairs_of}
pub use Rattle.script_code.specs.declared.sight.Binding.{Binding}
pub use Rattle.std.proofs.Common.{Bool, Contains, Err, List, None, Ok, OnOk, Option, Result, Some, [], add-one, ap, append_assoc, arith, drop, false, get_or, is_err, length, length-append, ltb, map, of_z, pos, refl, reverse, rules, subst, suc, sym, take, to_z, true, vec_capacity, vec_len, w64, zero, ℕ, ℤ, ◌++◌, ◌+◌, ◌-◌, ◌<◌, ◌^◌, ◌∙◌, ◌∷◌, ◌≡◌, ◌≤◌}
pub use Rattle.std.proofs.Math.Seq.{drop-append_seam, take-append_seam}
pub use Rattle.std.proofs.lemmas.List.{append-nil, drop-drop, drop-take, drop_all, drop_at, drop_more, get_or-map, get_or_push, length-map, length-reverse, length-take-le, length_push, map-append, map_more, reverse-append, reverse-reverse, take-append-drop, take-append-le, take-map, take-take, take_all, take_at, take_more}
pub use Rattle.std.specs.Bool.{IsTrue}
pub use Rattle.swift_interpreter.specs.Frames.{FrameView, effect_view, effect_views, frame_view, invocation_view}
pub use Rattle.swift_interpreter.specs.Turn.{EffectView, ExitView, InvocationView, asking_next, calling, closing, waiting}
pub use Rattle.swift_interpreter.specs.TurnStates.{exit_view}
pub use Rattle.swift_interpreter.specs.declared.effect.Effect.{Effect}
pub use Rattle.swift_journal.specs.CheckpointInside.{PlacedFold, after_kind, after_of, ended_view, folded_at, folded_from, has_counts, is_there, next_effect, next_start, placed, placed_from, placed_span}
pub use Rattle.swift_journal.specs.Checkpoints.{FoldedView, folded_of}
pub use Rattle.swift_journal.specs.EffectWordsInside.{bound_of, bound_words, effect_of, effect_words, effects_of, effects_words, invocation_of, skip_args, skip_bound, skip_effect, skip_effects, stored_invocation}
pub use Rattle.swift_journal.specs.Ends.{IsNarrowExit, exit_kind, exit_of, exit_words, fault_kind, fault_of, fault_size, fault_words, pending_kind, pending_of, pending_words, resume_kind, resume_of, resume_words, skip_exit, skip_pending, skip_resume}
pub use Rattle.swift_journal.specs.FrameWordsInside.{counts_of, counts_words, frame_counts, frame_from, frame_if_of, frame_of, frame_words, list_words, skip_counts, skip_frame, skip_frame_if, skip_groups, skip_handles, skip_own}
pub use Rattle.swift_journal.specs.JournalInside.{IsPut, effect_part, effects_at, exit_part, frame_part, outer_part, record_at, record_of, span_of, words_at}
pub use Rattle.swift_journal.specs.LaidInside.{AreLaid, TurnSpan, read_at}
pub use Rattle.swift_journal.specs.Records.{RecordView, frame_if_lent, record_view}
pub use Rattle.swift_journal.specs.TailInside.{TailView, since, whole}
pub use Rattle.swift_journal.specs.Words.{AreNarrow, ReadsBack, bindings_of, first_pair, first_word, narrowed, numbers_of, pair_words, pairs_from, rounded, skip_bindings}
pub use Rattle.swift_journal.specs.declared.stored.FoldedHead.{FoldedHead}
pub use Rattle.swift_journal.specs.declared.stored.FrameHead.{FrameHead}
pub use Rattle.swift_journal.specs.declared.stored.StoredEffect.{StoredEffect}
pub use Rattle.swift_journal.specs.declared.stored.StoredExit.{StoredExit}
pub use Rattle.swift_journal.specs.declared.stored.StoredFault.{StoredFault}
pub use Rattle.swift_journal.specs.declared.stored.TurnHead.{TurnHead}
pub use Rattle.swift_types.specs.declared.outcome.Fault.{Fault}
pub use Rattle.swift_types.specs.declared.outcome.Resume.{Resume}

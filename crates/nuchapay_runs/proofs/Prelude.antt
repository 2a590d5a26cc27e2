-- What the proofs of this crate take from elsewhere.
pub use Rattle.nuchapay_runs.specs.Broken.{broken_text, broken_texts}
pub use Rattle.nuchapay_runs.specs.Explains.{Explains, HasFolded, HasTurn, IsInJournalOf, IsKnown, IsLast, IsNotFolded, IsWhyAt}
pub use Rattle.nuchapay_runs.specs.False.{has_field, invariants_among, left_text, value_left}
pub use Rattle.nuchapay_runs.specs.LinesInside.{line_in}
pub use Rattle.nuchapay_runs.specs.NamedInside.{names_view}
pub use Rattle.nuchapay_runs.specs.Noted.{broken_lines, fields_before, first_lines, front_of, noted_executor, noted_executors, noted_text, noted_turn, noted_turns, notes_text}
pub use Rattle.nuchapay_runs.specs.Notes.{IsAnnotated, NotedPart, change_lines, note_line, note_lines, with_notes, without_notes}
pub use Rattle.nuchapay_runs.specs.SaysInside.{Says}
pub use Rattle.nuchapay_runs.specs.Statements.{awaited_at, cancel_text, listed_text}
pub use Rattle.nuchapay_runs.specs.Why.{KnownTurn, binding_text, bindings_text, blamed_text, changed_to, fields_text, kept_changes, meanwhile_text, other_text, own_place, place_among, row_text, variables_text, why_text}
pub use Rattle.nuchapay_runs.specs.declared.text.Text.{Text}
pub use Rattle.run_pictures.proofs.Answered.{if_ok, on_ok}
pub use Rattle.run_pictures.proofs.Ranges.{first_of, range_more}
pub use Rattle.run_pictures.specs.Values.{ValuesView, differences, outcome_of, played_turn, turn_values, values_from, values_view, values_views}
pub use Rattle.run_pictures.specs.declared.values.change.Change.{Change}
pub use Rattle.run_pictures.specs.declared.values.change.TurnValues.{TurnValues}
pub use Rattle.script_code.specs.Seen.{pair_of, pairs_of, rows_of}
pub use Rattle.script_code.specs.declared.sight.Binding.{Binding}
pub use Rattle.script_compiler.specs.IsCompiled.{actor_number}
pub use Rattle.std.proofs.Common.{Contains, Err, IfNone, IfOk, IfSome, List, None, Ok, Option, Result, Some, Vec, [], ap, append-nil, append_assoc, ap₂, arith, codes, decimal, drop, false, flat_map, get_or, length, map, of_z, refl, reverse, rules, slice_get, slice_range, subst, suc, sym, take, take_all, to_z, true, w64, zero, ℕ, ℤ, ◌++◌, ◌+◌, ◌<◌, ◌∙◌, ◌∷◌, ◌≡◌, ◌≤◌}
pub use Rattle.std.proofs.lemmas.List.{at_drop_all, at_drop_more, get_or-map, length-map, length-reverse, map-append, map_more, map_push, reverse-append, reverse-reverse}
pub use Rattle.std.proofs.lemmas.List.Elements.{Contains-get_or}
pub use Rattle.std.specs.declared.alloc.Global.{Global}
pub use Rattle.swift_events.specs.declared.life.Origin.{Origin}
pub use Rattle.swift_journal.specs.Checkpoints.{CheckpointRoomView, FoldedView}
pub use Rattle.swift_journal.specs.Records.{RecordView, owned_view}
pub use Rattle.swift_history.specs.Replay.{fields_after, replay}
pub use Rattle.swift_report.specs.Text.{executor_text, executors_text, folded_count, folded_text, heading_text, line_of, report_text, tasks_text, turn_text, turns_text}
pub use Rattle.swift_report.specs.declared.report.Report.{Report}
pub use Rattle.swift_script.specs.Scripts.{ScriptView, actor_count, method_actor, method_code, method_count, method_name, no_method, parts_of}
pub use Rattle.swift_types.specs.declared.outcome.Ending.{Ending}

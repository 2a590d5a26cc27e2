-- What the proofs of this crate take from elsewhere.
pub use Rattle.run_pictures.specs.Boxes.{box_of, boxes_of}
pub use Rattle.run_pictures.specs.Breaking.{breaks_at, breaks_in, is_broke, is_turn}
pub use Rattle.run_pictures.specs.Cells.{AreOf, IsQuiet, cell, cells_from, cells_of, run_cells, single_cells}
pub use Rattle.run_pictures.specs.GivingWay.{begins_block, goes_on, only_goes_on}
pub use Rattle.run_pictures.specs.Values.{ValuesView, broken, difference, differences, first_false, outcome_of, played_turn, row_differences, values_from, values_view, values_views}
pub use Rattle.run_pictures.specs.declared.picture.cells.Cell.{Cell}
pub use Rattle.run_pictures.specs.declared.values.change.Change.{Change}
pub use Rattle.run_pictures.specs.declared.values.change.TurnValues.{TurnValues}
pub use Rattle.script_code.specs.Seen.{rows_of}
pub use Rattle.script_code.specs.Tree.{Code, Term, end, terms_of}
pub use Rattle.std.proofs.Common.{All, Bool, Err, IfOk, List, Ok, OnOk, Option, Result, Some, [], ap, append-nil, append_assoc, ap₂, arith, drop, false, get_or, if◌then◌else◌, inl, inr, length, length-set, map, min, nat_lt, pos, refl, replicate, rules, set, slice_get, slice_range, subst, suc, sym, take, take_all, true, zero, ℕ, ℤ, ◌++◌, ◌+◌, ◌-◌, ◌<◌, ◌==◌, ◌∙◌, ◌∷◌, ◌≡◌, ◌≤◌}
pub use Rattle.std.proofs.lemmas.Bool.{cases_eq, cases_lt, cond-false, cond-true, cond_both, eq-eqb, ltb-false, ne_eqb}
pub use Rattle.std.proofs.lemmas.List.{at_drop_all, at_drop_more, drop-drop, drop-set-lt, drop_more, get_or-drop, get_or-map, get_or-set_other, length-map, length-replicate, map-set, map_more, map_push, replicate_more, take_more, take_more_set}
pub use Rattle.std.specs.Global.{Vec}
pub use Rattle.swift_journal.specs.Records.{RecordView, owned_view}
pub use Rattle.swift_history.specs.Replay.{fields_after, replay}
pub use Rattle.swift_script.specs.Scripts.{ScriptView, method_actor, method_code, method_count, no_method, parts_of}

-- What the proofs of this crate take from elsewhere.
pub use Rattle.script_code.specs.Cells.{Gives}
pub use Rattle.script_code.specs.Instructions.{FollowsCode, NextAction, does, first, first_by, first_if}
pub use Rattle.script_code.specs.Seen.{pairs_of, rows_of, scene_of}
pub use Rattle.script_code.specs.Tree.{Code, Operation, Term, term_if, term_of, terms_of}
pub use Rattle.script_code.specs.Value.{Scene, ev, evs, in_front, is_zero}
pub use Rattle.script_code.specs.declared.formula.Formula.{Formula}
pub use Rattle.script_code.specs.declared.instruction.Act.{Act}
pub use Rattle.script_code.specs.declared.instruction.Instruction.{Instruction}
pub use Rattle.script_code.specs.declared.instruction.NumberPlace.TheVariants.{Field, Variable}
pub use Rattle.std.proofs.Common.{Bool, List, None, Option, Some, [], add-one, ap, append-nil, append_assoc, arith, drop, drop-cons, get_or, if◌then◌else◌, inl, inr, length, of_z, refl, reverse, rules, set, slice_get, subst, suc, sym, take, to_z, true, vec_capacity, vec_len, w64, zero, ℕ, ℤ, ◌++◌, ◌+◌, ◌-◌, ◌<◌, ◌==◌, ◌∙◌, ◌∷◌, ◌≡◌, ◌≤◌, ◌⊎◌}
pub use Rattle.std.proofs.lemmas.Bool.{cases_eq, cases_lt, cond-false, eq-eqb, ne_eqb}
pub use Rattle.std.proofs.lemmas.List.{at_drop_all, get_or-map, get_or-reverse, get_or-set_other, get_or-take, length-reverse, length-set, length-take-le, map-set, reverse-append, set-get_or, set-set, set_comm, take_more_set, with_items_is}
pub use Rattle.std.proofs.lemmas.Option.{slice_get_past, slice_get_read}
pub use Rattle.std.proofs.lemmas.Result.{IfOk-weaker, err_from_is_err_and}
pub use Rattle.std.specs.Global.{Vec}
pub use Rattle.swift_interpreter.specs.Saved.{is_saved, restored}
pub use Rattle.swift_interpreter.specs.SavedInside.{newest_first, oldest, row_of}
pub use Rattle.swift_interpreter.specs.Turn.{AfterStatement, ExitView, Played, TurnInputView, TurnStateView, act, at_limit, caught, end_of, failing, given, goes, leaves, on, returning, scene, set_field_of, settled, standing, taken, turn, with_value, yielding}
pub use Rattle.swift_interpreter.specs.TurnStates.{at_once_term, exit_view, fields_before, given_of, lent, state_of, unbound, unbound_by, with_number}
pub use Rattle.swift_interpreter.specs.declared.saved.SavedRow.{SavedRow}
pub use Rattle.swift_interpreter.specs.declared.turn_state.TurnState.{TurnState}
pub use Rattle.swift_types.specs.declared.outcome.Fault.{Fault}
pub use Rattle.swift_types.specs.declared.outcome.Fault.TheVariants.{Thrown, Turns}

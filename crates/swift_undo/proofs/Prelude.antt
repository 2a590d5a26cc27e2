-- What the proofs of this crate take from elsewhere.
pub use Rattle.script_code.specs.Instructions.{FollowsCode, NextAction, does, ends, first, tests}
pub use Rattle.script_code.specs.Seen.{rows_of}
pub use Rattle.script_code.specs.Tree.{Code, Operation, Term, Wanted, binary, cancelled, denial, field, local, number, opposite, priority, term_of, terms_of, variable}
pub use Rattle.script_code.specs.Value.{and_then, ev, evs, flag, holds, is_met, is_zero, joined, number_at, only_fields, within}
pub use Rattle.std.proofs.Common.{Bool, Contains, Err, IfOk, IsTrue, List, None, Ok, Option, Result, Some, [], ap, arith, drop, false, get_or, if◌then◌else◌, inl, inr, length, map, nat_lt, neg_ℤ, refl, set, slice_get, subst, suc, sym, take, true, zero, ℕ, ℤ, ◌++◌, ◌+◌, ◌-◌, ◌<◌, ◌==◌, ◌^◌, ◌∙◌, ◌∷◌, ◌≡◌, ◌⊎◌}
pub use Rattle.std.proofs.lemmas.Bool.{cases_eq, cond-false, cond-true, eq-eqb, eqb-true, ne_eqb}
pub use Rattle.std.proofs.lemmas.List.{drop_more, get_or-map, get_or-set_other, get_or-set_same, get_or-take, length-map, length-take-le, map-append, map-set, take_all, take_more}
pub use Rattle.std.proofs.lemmas.List.Elements.{Contains-append_left, Contains-push, Contains-push_cases}
pub use Rattle.std.proofs.lemmas.Option.{slice_get_past, slice_get_read, unwrap_or-slice_get}
pub use Rattle.std.specs.declared.alloc.Global.{Global}
pub use Rattle.std.specs.declared.vec.Vec.{Vec}
pub use Rattle.swift_interpreter.specs.Frames.{FrameView, frame_view, state_in}
pub use Rattle.swift_interpreter.specs.Saved.{is_saved, restored}
pub use Rattle.swift_interpreter.specs.Turn.{AfterStatement, EffectView, ExitView, InvocationView, Played, TurnInputView, TurnStateView, act, all_hold, asking_next, at_limit, calling, caught, closing, end_of, exits, failing, given, goes, kept, kept_of, leaves, left_by, on, perform, raised_by, received, returning, scene, settled, standing, tail, taken, taken_by, undoes, waiting, whole_turn, with_invocation, with_value, yielding}
pub use Rattle.swift_interpreter.specs.TurnStates.{beginning, exit_view, fields_before, given_of, played_of, state_of}
pub use Rattle.swift_types.specs.declared.outcome.Fault.TheVariants.{Cancelled, Depth, Empty, Invariant, Isolation, Overflow, Steps, Tasks, Thrown, Turns}
pub use Rattle.swift_types.specs.declared.outcome.Resume.{Resume}
pub use Rattle.swift_undo.specs.Laws.{AllHold, IsUndone, IsUntouched, SaysUndone, fault_of}
pub use Rattle.swift_undo.specs.Rows.{AreSpared, HaveRows, reads_only, row_of, rows_read}
pub use Rattle.swift_undo.specs.RowsInside.{AreListed, HoldsThere, OthersHold, ReadersHold, places_of}

-- What the proofs of this crate take from elsewhere.
pub use Rattle.script_code.specs.Instructions.{FollowsCode, NextAction, does, ends, first, first_by, first_if, tests}
pub use Rattle.script_code.specs.Layout.{Meaning, WrittenFollows, code_at, code_written, count, entry, exchanged, last_line, meaning_of, relabelled, renumbered, stands_for, written, written_method}
pub use Rattle.script_code.specs.Seen.{pair_of, pairs_of}
pub use Rattle.script_code.specs.Statements.{code_if, code_of, code_said, operation_of}
pub use Rattle.script_code.specs.Tree.{Code, Term, act, add, assume, binary, bind, cancel, check, choice, close_group, denial, detach, end, followed, isolated, loop, open_group, opposite, receive, return, set_field, set_variable, spawn, target_of, term_if, term_of, throw, unbind, wait, wanted_of, yield}
pub use Rattle.script_code.specs.declared.instruction.Act.{Act}
pub use Rattle.script_code.specs.declared.instruction.Instruction.{Instruction}
pub use Rattle.script_code.specs.declared.statement.Statement.{Do, IfElse, Statement, While, the_lemmas}
pub use Rattle.std.proofs.Common.{Bool, Err, IfOk, List, None, Ok, OnOk, Option, Result, Some, [], add-one, ap, append_assoc, arith, false, get_or, if◌then◌else◌, inl, inr, length, length-append, length-set, map, neg_ℤ, not, option_map, refl, rules, slice_get, slice_set, subst, suc, swap, sym, take, true, vec_len, zero, ℕ, ℤ, ◌*◌, ◌++◌, ◌+◌, ◌<◌, ◌==◌, ◌∙◌, ◌∷◌, ◌≡◌, ◌≢◌, ◌≤◌, ◌⊎◌}
pub use Rattle.std.proofs.lemmas.List.{append-nil, length-map, map-set, reverse-append}
pub use Rattle.swift_locals.specs.Bindings.{value_of}

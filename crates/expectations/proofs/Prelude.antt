-- What the proofs of this crate take from elsewhere.
pub use Rattle.expectations.specs.Comments.{comment_in, expected_from, expected_here}
pub use Rattle.expectations.specs.FailureText.{faulted, more_text}
pub use Rattle.expectations.specs.Meaning.{first_have_values, first_rows, number_in, verdict_of}
pub use Rattle.expectations.specs.Questions.{AreExpected, IsExpected, no_more}
pub use Rattle.expectations.specs.Texts.{IsRead, IsTest, Joins, Names, SpellsExpression, SpellsTest, a_field, a_minus, a_name, a_not, a_number, a_root, actor_with, as_invariant, both, dotted, kept, none}
pub use Rattle.script_code.specs.Seen.{rows_of}
pub use Rattle.script_code.specs.Tree.{Term, binary, denial, field, number, opposite, term_of, variable}
pub use Rattle.script_grammar.specs.Grammar.{Each, IsActor, IsDecl, IsExpression, IsField, IsInvariant, IsMethodDecl, IsOn, IsScript, SpellsExpr, a_local, alone, an_actor, an_executor, an_invariant, chained, compared, inverted, is_cancelled, local, mark_of, name, negated, no_invariant, on_its_own, on_shared, one_more, own_priority, parenthesis}
pub use Rattle.script_grammar.specs.Tree.{ActorTree, Acts, Binds, Both, DeclTree, Executes, ExprTree, FieldTree, Inverted, Named, Negated, Number, RootTree, Roots, view}
pub use Rattle.script_tokens.specs.Bytes.{is_name_byte}
pub use Rattle.script_tokens.specs.Pieces.{Huge, Key, Name, Num, Sign, Stray, TokenView, piece}
pub use Rattle.script_tokens.specs.declared.token.Token.{Token}
pub use Rattle.std.proofs.Common.{All, Bool, Contains, List, None, Option, Some, [], ap, append_assoc, ap₂, arith, drop, false, get_or, if◌then◌else◌, inl, inr, length, map, nat_le, not, option_to_list, refl, rules, slice_get, subst, suc, sym, take, true, zero, ℕ, ℤ, ◌&&◌, ◌++◌, ◌+◌, ◌<◌, ◌==◌, ◌∙◌, ◌∷◌, ◌≡◌, ◌⊎◌}
pub use Rattle.std.proofs.lemmas.Bool.{and_parts, or_from, or_parts, or_right}
pub use Rattle.std.proofs.lemmas.List.{append-nil, append_cancel_left, append_cancel_right, at_drop_more, length-map, map-append, take_more}
pub use Rattle.std.proofs.lemmas.List.Folds.{list_any-append}
pub use Rattle.std.specs.List.{list_all, list_any}
pub use Rattle.std.specs.Prelude.{unwrap_or}
pub use Rattle.swift_script.specs.Accepted.{IsAccepted, WasAccepted}
pub use Rattle.swift_script.specs.Scripts.{ScriptView, actor_at, actor_count, actor_fields, actor_name, field_name, no_actor, no_field, no_root, root_at, root_count, root_name}
pub use Rattle.swift_types.specs.declared.operator.Operator.{Operator}

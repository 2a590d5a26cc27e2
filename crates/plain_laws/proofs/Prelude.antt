-- What the proofs of this crate take from elsewhere.
pub use Rattle.plain_laws.specs.Readings.{AreTold, EndsExpr, Lexed, Means, Of, Rest, Told, bytes_at, ends_before, expr_told, told_mark, told_plain}
pub use Rattle.plain_laws.specs.Texts.{IsName, IsWritable, begins_name, goes_on}
pub use Rattle.plain_parts.specs.Expressions.{Bare, PlainToken, Spaced, as_test, enclosed, expr_bytes, expr_tokens, is_made_of_parts, left_of, reads_plain, renamed, said}
pub use Rattle.script_grammar.specs.Grammar.{mark_of, precedence_of}
pub use Rattle.script_grammar.specs.Tree.{Both, ExprTree, Inverted, IsCancelled, Local, Named, Negated, Number, OwnPriority}
pub use Rattle.script_tokens.specs.Pieces.{Key, Name, Num, Sign}
pub use Rattle.script_tokens.specs.Spelling.{mark_spelling}
pub use Rattle.std.proofs.Common.{Bool, List, None, Option, Some, [], ap, arith, codes, drop, drop-cons, eqb, false, get_or, length, nat_lt, negsuc, not, pos, refl, rules, subst, suc, sym, take, true, zero, ℕ, ℤ, ◌&&◌, ◌*◌, ◌++◌, ◌+◌, ◌-◌, ◌<◌, ◌==◌, ◌^◌, ◌||◌, ◌∙◌, ◌∷◌, ◌≡◌, ◌≢◌, ◌≤◌}
pub use Rattle.std.proofs.lemmas.Bool.{false≢true, le-ltb, lt-ltb}
pub use Rattle.std.proofs.lemmas.Bool.Decides.{nat_tests}
pub use Rattle.std.proofs.lemmas.Fmt.{decimal_nonempty, digits_decimal, digits_value-decimal}
pub use Rattle.std.proofs.lemmas.Grind.{flat_map-append}
pub use Rattle.std.proofs.lemmas.List.{append_assoc, length-append, length-drop}
pub use Rattle.std.specs.Fmt.{decimal}
pub use Rattle.std.specs.List.{flat_map, list_all, prefix_len, slice_get, take_while}
pub use Rattle.swift_syntax.specs.Bytes.{is_digit, is_letter, is_name_byte, is_number_byte}
pub use Rattle.swift_syntax.specs.Expressions.{Binary, Joined, Leaf, SpellsAtom, SpellsCalled, SpellsChoice, SpellsExpr, SpellsNamed, SpellsOperands, SpellsPrefixed, SpellsSome, SwiftTree, after, binary_of, first, if_tight, inverted, is_open, kind_at, kind_in, literal_of, negated, next, opens_at, opens_in, operator_in, or_end, unprefixed}
pub use Rattle.swift_syntax.specs.declared.token.Token.{Token}
pub use Rattle.swift_syntax.specs.declared.token.TokenKind.{TokenKind}
pub use Rattle.swift_types.specs.declared.operator.Operator.{Operator}

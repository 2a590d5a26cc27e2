-- What the proofs of this crate take from elsewhere.
pub use Rattle.script_grammar.specs.Grammar.{Each, IsActor, IsAdd, IsAwaited, IsCall, IsDecl, IsElse, IsExecutorDecl, IsExpression, IsField, IsInt, IsInvariant, IsKind, IsLocal, IsMake, IsMethodDecl, IsName, IsNext, IsOn, IsPriorityGiven, IsRoot, IsScript, IsStart, IsUnless, IsValue, IsWait, Listed, SpellsAction, SpellsBlock, SpellsExpr, SpellsHead, SpellsStmt, SpellsStmts, a_call, a_local, a_next, a_root, a_task, adds, alone, always, an_actor, an_executor, an_invariant, assigns, assumes, awaited, awaits, binds, braces, by_age, by_priority, by_worker, cancels, chained, checks, chooses, compared, computed, defines, defines_task, detached, does, given, groups, holds, inverted, is_cancelled, local, makes, mark_of, more, name, negated, no_invariant, no_more, none, none_listed, not_given, number, on_its_own, on_shared, one_more, opposite, or_medium, own_priority, parenthesis, plain, repeats, returns, some_listed, spawned, tests, throws, unless, with_else, without_else, yields}
pub use Rattle.script_grammar.specs.Tree.{ActionTree, ActorTree, Acts, AddTree, Adds, Assign, Assume, Await, AwaitedTree, Bind, Binds, BlockTree, Both, CallTree, Called, Cancel, Check, Computed, DeclTree, Detached, Do, Executes, ExecutorTree, ExprTree, FieldTree, Group, HeadTree, Headed, If, IfElse, Inverted, IsCancelled, Let, LetTask, Local, LocalTree, MakeTree, Makes, MethodTree, Named, Negated, NextOf, Number, OwnPriority, Return, RootTree, Roots, Spawned, StmtTree, TaskOf, Throw, ValueTree, WaitTree, Waited, While, Yield, block_tree, first_then, height_of, nothing, view, view_action, view_actor, view_executor, view_head, view_local, view_root, view_stmt}
pub use Rattle.script_grammar.specs.declared.region.Atoms.{Atoms}
pub use Rattle.script_grammar.specs.declared.region.Atoms.TheVariants.{Every, Plain}
pub use Rattle.script_grammar.specs.declared.region.Region.{Region}
pub use Rattle.script_printing.specs.Limits.{ActionFits, ActorFits, AtomsFit, AwaitedFits, BlockFits, CallFits, HeadFits, InvariantFits, IsLow, IsLowIfAny, MakeFits, MethodFits, StmtFits, ValueFits, WaitFits, region_in}
pub use Rattle.script_printing.specs.Pieces.{after_comma, braced, ended, listed, pieces_of, pieces_of_action, pieces_of_add, pieces_of_awaited, pieces_of_block, pieces_of_call, pieces_of_decl, pieces_of_else, pieces_of_field, pieces_of_given, pieces_of_head, pieces_of_int, pieces_of_invariant, pieces_of_kind, pieces_of_make, pieces_of_method, pieces_of_name, pieces_of_on, pieces_of_priority, pieces_of_script, pieces_of_start, pieces_of_stmt, pieces_of_unless, pieces_of_value, pieces_of_wait}
pub use Rattle.script_printing.specs.Printed.{after, line_of, printed, spaced}
pub use Rattle.script_printing.specs.Readable.{IsNumber, IsReadable, IsWord, begins_with_letter}
pub use Rattle.script_printing.specs.Script.{ScriptView, declarations_of, script_in, with_decl}
pub use Rattle.script_printing.specs.Words.{text_of}
pub use Rattle.script_tokens.specs.Bytes.{is_digit, is_letter, is_name_byte, is_no_line_feed, is_space, is_text, is_text_byte}
pub use Rattle.script_tokens.specs.Lexes.{Lexes, at_end, decimal_behind, front_of, lone, next_is, pair_of, paired, separated, single_of, word_as}
pub use Rattle.script_tokens.specs.Pieces.{Huge, Key, Name, Num, Sign, Stray, TokenView}
pub use Rattle.script_tokens.specs.Spelling.{mark_spelling, spelling}
pub use Rattle.script_tokens.specs.declared.keyword.Keyword.{Keyword}
pub use Rattle.script_tokens.specs.declared.mark.Mark.{Mark}
pub use Rattle.std.proofs.Common.{Bool, Err, Global, List, None, Ok, OnOk, Option, Result, Some, Vec, [], ap, append_assoc, arith, codes, cond, drop, false, inl, inr, length, map, nat_lt, neg_ℤ, negsuc, pos, refl, rules, subst, suc, sym, take, true, zero, ℕ, ℤ, ◌&&◌, ◌++◌, ◌+◌, ◌-◌, ◌<◌, ◌==◌, ◌^◌, ◌∙◌, ◌∷◌, ◌≡◌, ◌≤◌, ◌⊎◌}
pub use Rattle.std.proofs.Math.ListN.{get_or}
pub use Rattle.std.proofs.lemmas.Bool.Decides.{nat_tests}
pub use Rattle.std.proofs.lemmas.Fmt.{decimal_nonempty, decimal_step, digits_decimal, digits_value-decimal}
pub use Rattle.std.proofs.lemmas.List.{append-nil, map-id, map_more, take_all, take_rest}
pub use Rattle.std.proofs.lemmas.List.Elements.{All-append, All-cons, All-head, All-map, All-nil, All-tail}
pub use Rattle.std.specs.Fmt.{decimal}
pub use Rattle.std.specs.List.{All, flat_map, list_all, prefix_len, slice_index, take_while}
pub use Rattle.swift_types.specs.declared.executor_kind.ExecutorKind.{ExecutorKind}
pub use Rattle.swift_types.specs.declared.priority.Priority.{Priority}
pub use Rattle.swift_types.specs.declared.priority.Priority.TheVariants.{Background, High, Low, Medium}

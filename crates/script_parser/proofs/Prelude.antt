-- What the proofs of this crate take from elsewhere.
pub use Rattle.script_grammar.specs.Grammar.{Each, IsActor, IsAdd, IsAwaited, IsCall, IsDecl, IsElse, IsExecutorDecl, IsExpression, IsField, IsInt, IsInvariant, IsKind, IsLocal, IsMake, IsMethodDecl, IsName, IsNext, IsOn, IsPriorityGiven, IsRoot, IsScript, IsStart, IsUnless, IsValue, IsWait, Listed, SpellsAction, SpellsBlock, SpellsExpr, SpellsHead, SpellsStmt, SpellsStmts, a_call, a_local, a_next, a_root, a_task, adds, alone, always, an_actor, an_executor, an_invariant, assigns, assumes, awaited, awaits, binds, braces, by_age, by_priority, by_worker, cancels, chained, checks, chooses, compared, computed, defines, defines_task, detached, does, given, groups, has_every_atom, holds, inverted, is_cancelled, least, local, makes, mark_of, may_act, more, name, negated, no_invariant, no_more, none, none_listed, not_given, number, on_its_own, on_shared, one_more, opposite, or_medium, own_priority, parenthesis, plain, precedence_of, priority_of, repeats, returns, some_listed, spawned, tests, throws, unless, with_else, without_else, yields}
pub use Rattle.script_grammar.specs.Tree.{ActionTree, ActorTree, Acts, AddTree, Adds, Assign, Assume, Await, AwaitedTree, Bind, Binds, Both, CallTree, Called, Cancel, Check, Computed, DeclTree, Detached, Do, Executes, ExecutorTree, ExprTree, FieldTree, Group, HeadTree, Headed, If, IfElse, Inverted, IsCancelled, Let, LetTask, Local, LocalTree, MakeTree, Makes, MethodTree, Named, Negated, NextOf, Number, OwnPriority, Return, RootTree, Roots, Spawned, StmtTree, TaskOf, Throw, ValueTree, WaitTree, Waited, While, Yield, block_tree, height_of, text_of, view, view_decl, view_field, view_method, view_stmt}
pub use Rattle.script_grammar.specs.declared.region.Atoms.{Atoms}
pub use Rattle.script_grammar.specs.declared.region.Atoms.TheVariants.{Every, Plain}
pub use Rattle.script_grammar.specs.declared.region.Region.{Region}
pub use Rattle.script_parser.specs.Model.Actions.{action_at, chosen_priority, given_at}
pub use Rattle.script_parser.specs.Model.Declarations.{decl_at, decls_at, decls_end, field_at, fields_end, int_at, method_at}
pub use Rattle.script_parser.specs.Model.Expressions.{Read, ReadInside, checked, expr_in, inside_at, level_at, most_operators, of_precedence, on_operator, operands_at, operator_at, operator_in, unary_at, with_rest}
pub use Rattle.script_parser.specs.Model.Parts.{brace_at, close_at, code_of, comma_at, items_at, list_at, name_at, on_stop, sign_at, with_first}
pub use Rattle.script_parser.specs.Model.Statements.{ReadBlock, block_at, many_at, region_in, stmt_at}
pub use Rattle.script_parser.specs.Model.Steps.{Fails, Reads, allowed_at, at, ◌>>=◌}
pub use Rattle.script_parser.specs.declared.fault.Kind.TheVariants.{EndsEarly}
pub use Rattle.script_parser.specs.declared.fault.ParseFault.{ParseFault}
pub use Rattle.script_parser.specs.declared.fault.ReadError.{ReadError}
pub use Rattle.script_parser.specs.declared.limits.TheConstants.{NESTING}
pub use Rattle.script_tokens.specs.Pieces.{Huge, Key, Name, Num, Sign, TokenView, piece}
pub use Rattle.script_tokens.specs.declared.keyword.Keyword.{Keyword}
pub use Rattle.script_tokens.specs.declared.mark.Mark.{Mark}
pub use Rattle.std.proofs.Common.{Bool, Err, List, None, Ok, Option, Result, Some, [], ap, append_assoc, arith, cond, eqb, false, inl, inr, is_some, length, length-append, ltb, map, neg_ℤ, refl, subst, suc, sym, true, w64, zero, ℕ, ℤ, ◌*◌, ◌++◌, ◌+◌, ◌-◌, ◌<◌, ◌∙◌, ◌∷◌, ◌≡◌, ◌≢◌, ◌≤◌, ◌⊎◌}
pub use Rattle.std.proofs.lemmas.Bool.{eqb-true, le-ltb, ltb-false}
pub use Rattle.std.proofs.lemmas.Bool.Decides.{Decides-int_eq, nat_tests, not_from_Decides}
pub use Rattle.std.proofs.lemmas.Int.{to_z-of_z}
pub use Rattle.std.proofs.lemmas.List.{append-nil, length-map, map_push}
pub use Rattle.std.proofs.lemmas.Result.{err_from_is_err_and}
pub use Rattle.std.specs.Ordering.{int_eq}
pub use Rattle.swift_types.specs.declared.executor_kind.ExecutorKind.{ExecutorKind}
pub use Rattle.swift_types.specs.declared.operator.Operator.{Operator}
pub use Rattle.swift_types.specs.declared.priority.Priority.{Priority}

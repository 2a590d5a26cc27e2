-- What the proofs of this crate take from elsewhere.
pub use Rattle.script_compiler.specs.Compiled.{ActorView, CompiledView, MethodView, actors_from, compiled_of, executors_from, own_executor, own_executors, plan_in, root_of}
pub use Rattle.script_compiler.specs.IsCompiled.{IsCompiled, IsMethod}
pub use Rattle.script_compiler.specs.Plan.{PlanView}
pub use Rattle.script_grammar.specs.Grammar.{IsScript}
pub use Rattle.script_grammar.specs.Size.{script_size}
pub use Rattle.script_grammar.specs.Tree.{ActionTree, ActorTree, Acts, Adds, Assign, Assume, Await, AwaitedTree, Bind, Binds, BlockTree, Both, CallTree, Called, Cancel, Check, Computed, DeclTree, Detached, Do, Executes, ExecutorTree, ExprTree, FieldTree, Group, HeadTree, Headed, If, IfElse, Inverted, IsCancelled, Let, LetTask, Local, LocalTree, MakeTree, Makes, MethodTree, Named, Negated, NextOf, Number, OwnPriority, Return, RootTree, Roots, Spawned, StmtTree, TaskOf, Throw, ValueTree, WaitTree, Waited, While, Yield, block_tree, first_then, nothing, view_actor, view_decl, view_executor, view_if, view_local, view_root}
pub use Rattle.script_grammar.specs.declared.declaration.Actor.{Actor}
pub use Rattle.script_grammar.specs.declared.declaration.Decl.{Decl}
pub use Rattle.script_names.specs.Directory.{DirectoryView, arity_of, directory_of, has_method}
pub use Rattle.script_names.specs.Rules.{SeenView, action_error, assume_fault, at_name, awaited_error, bind_fault, block_error, call_error, cancel_fault, decl_error, declarations_error, declared_fault, earlier, expression_error, expressions_error, fields_error, group_fault, head_error, kind_error, make_error, method_error, methods_error, names_error, names_in, new_fault, number_fault, on_error, optional_error, or_else, parameters_error, past, past_awaited, past_block, past_decl, past_fields, past_head, past_if, past_method, past_name_if, past_names, past_stmt, repeat_error, scope_after, scope_within, seen_after, stmt_error, target_error, task_fault, value_error, wait_error, where_so, with_parameters}
pub use Rattle.script_names.specs.Texts.{is_among}
pub use Rattle.script_names.specs.declared.error.NameErrorKind.{NameErrorKind}
pub use Rattle.script_names.specs.declared.error.NameErrorKind.TheVariants.{Arguments, TooMany, Twice, Unknown}
pub use Rattle.script_parser.specs.Model.Declarations.{decls_at}
pub use Rattle.script_parser.specs.declared.limits.TheConstants.{NESTING}
pub use Rattle.script_printing.proofs.ByKind.{script_again}
pub use Rattle.script_printing.specs.Printed.{printed}
pub use Rattle.script_printing.specs.Script.{ScriptView, declarations_of, script_in, with_decl}
pub use Rattle.script_tokens.proofs.Few.{few_tokens, front_leaves}
pub use Rattle.script_tokens.proofs.Unique.{unique}
pub use Rattle.script_tokens.specs.Pieces.{TokenView, piece}
pub use Rattle.script_tokens.specs.declared.list.Tokens.{Tokens}
pub use Rattle.script_tokens.specs.declared.span.Span.{Span}
pub use Rattle.std.proofs.Common.{Bool, Err, IfErr, IfNone, IfOk, IfSome, IsTrue, List, None, Ok, Option, Result, Some, [], ap, append-nil, append_assoc, arith, drop, false, get_or, if◌then◌else◌, inl, inr, is_some, length, length-append, map, nat_le, negsuc, pos, refl, rules, slice_get, subst, suc, sym, take, true, zero, ℕ, ◌++◌, ◌+◌, ◌-◌, ◌<◌, ◌==◌, ◌||◌, ◌∙◌, ◌∷◌, ◌≡◌, ◌≤◌}
pub use Rattle.std.proofs.lemmas.Bool.{leb-false, or_parts}
pub use Rattle.std.proofs.lemmas.List.{get_or-map, length-map, map_push}
pub use Rattle.std.proofs.lemmas.Slice.Zip.{AllZip-long}
pub use Rattle.std.specs.List.{AllZip, count_by}
pub use Rattle.std.specs.Prelude.{unwrap_or}
pub use Rattle.std.specs.Str.{IsUtf8, bytes_eq}
pub use Rattle.swift_script.specs.Accepted.{IsAccepted, IsPlain, NoRootWaits, RootWaits, Spells, SpellsDecls, WasAccepted, first_false}
pub use Rattle.swift_script.specs.BrokenInside.{IsBroken, IsFirstWaiting, NoneEarlier}
pub use Rattle.swift_script.specs.FaultPlaces.{Blames, BlamesInvariant, BlamesName, BlamesRoot, BlamesToken, invariants_before, is_invariant, is_root, place_of, span_at}
pub use Rattle.swift_script.specs.Refuses.{HasError, HasWaitingRoot, Refuses, SpellsNothing, StartsFalse}
pub use Rattle.swift_script.specs.ScriptInvariant.{ScriptInvariant, tree_of, with_last}
pub use Rattle.swift_script.specs.Scripts.{actor_count, actor_executor, actor_invariant, executor_count, executor_invariants, executor_start, method_at, method_count, method_params, no_actor, no_method, no_root, parts_of, root_args, root_at, root_count, root_method}
pub use Rattle.swift_script.specs.SpelledInside.{AreKept, HasNamesInOrder, IsNamed, IsSpelled, check_kind, check_span, grammar_kind, names_kind, passes, pieces_of, read_kind, read_span}
pub use Rattle.swift_script.specs.TreeInside.{decls_or_none, pieces_within, tree_in, with_piece}
pub use Rattle.swift_script.specs.declared.fault.ScriptFaultKind.{ScriptFaultKind}
pub use Rattle.swift_types.specs.declared.limits.TheConstants.{ACTORS, BYTES, EXECUTORS, TASKS}

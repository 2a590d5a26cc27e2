-- What the proofs of this crate take from elsewhere.
pub use Rattle.script_code.proofs.Layouts.{count_then, followed_then, then_end}
pub use Rattle.script_code.specs.Instructions.{FollowsCode, does, ends, first, first_by, first_if, tests}
pub use Rattle.script_code.specs.Layout.{code_at, code_written, count, entry, exchanged, greatest, stands_for}
pub use Rattle.script_code.specs.Seen.{rows_of, term_if_lent}
pub use Rattle.script_code.specs.Statements.{code_of, operation_of}
pub use Rattle.script_code.specs.Tree.{CallTarget, Code, Operation, Term, Wanted, act, assume, bind, choice, close_group, end, followed, isolated, loop, open_group, term_of, terms_of, unbind}
pub use Rattle.script_code.specs.declared.formula.Formula.{Formula}
pub use Rattle.script_code.specs.declared.instruction.Instruction.{Instruction}
pub use Rattle.script_code.specs.declared.instruction.NumberPlace.{NumberPlace}
pub use Rattle.script_code.specs.declared.instruction.NumberPlace.TheVariants.{Field, Variable}
pub use Rattle.script_compiler.specs.ActsInside.{made_along, made_if, made_through}
pub use Rattle.script_compiler.specs.Compiled.{ActorView, CompiledView, ExecutorView, MethodView, RootView, actors_from, compiled_by, executors_from, invariants_among, members_from, members_if, method_of, methods_from, own_executors, plan_in, root_of, term_list}
pub use Rattle.script_compiler.specs.Counts.{AreCounts, counted, counts_after, counts_of, counts_within, greater, most_in, most_of}
pub use Rattle.script_compiler.specs.Few.{HasFewNames}
pub use Rattle.script_compiler.specs.FirstInside.{AreMarks, Calls, IsFirstFrom, LeadsToWait, WaitsInPlace}
pub use Rattle.script_compiler.specs.Handles.{CancelledMatches, HandlesMatch, Held, OperationMatches, WantedMatches, held_after, held_at, none_held}
pub use Rattle.script_compiler.specs.IsCompiled.{HasInvariants, IsCompiled, IsMethod, actor_number, actor_view, executor_view, field_view, local_view, root_view}
pub use Rattle.script_compiler.specs.ListsInside.{AreEmpty, AreListsOf, AreOrderly, Has, InChain, Pushes, end_of, last_of}
pub use Rattle.script_compiler.specs.ListsInside.InChain.{after, at}
pub use Rattle.script_compiler.specs.Lowered.{action_code, block_code, cancelled_named, field_place, handle_place, handles_in, headed_code, is_handle, is_number, lowered, lowered_if, make_to, number_place, numbers_in, place_named, set_at, stmt_code, target_of, task_named, term_at, value_to, wait_to, wanted_of}
pub use Rattle.script_compiler.specs.MarksInside.{AreNone, ArePendingMarked, CallsTo, IsClosed, IsClosedButPending, IsMarked, IsPending, Marking, MarkingAll, Reaching, Spreading, count_of, left_of}
pub use Rattle.script_compiler.specs.MarksInside.CallsTo.{by, itself}
pub use Rattle.script_compiler.specs.MembersInside.{executors_by, members_below}
pub use Rattle.script_compiler.specs.Methods.{CodeFits, ScriptFits}
pub use Rattle.script_compiler.specs.Places.{CancelledBelow, HoldsNoField, OperationBelow, PlaceBelow, PlacesBelow, TargetBelow, TermBelow, WantedBelow, is_field}
pub use Rattle.script_compiler.specs.Plan.{PlanView, actor_place_in, defaults_in, executor_at, on_executor, plan_of}
pub use Rattle.script_compiler.specs.PlanInside.{executors_on}
pub use Rattle.script_compiler.specs.RowsInside.{all_rows_of, first_false_in, rows_among, rows_at, rows_in}
pub use Rattle.script_compiler.specs.StandingInside.{left}
pub use Rattle.script_compiler.specs.Targets.{IsDeclaredCall, OperationFits, RootFits, TargetFits, TargetsFit, WantedFits}
pub use Rattle.script_compiler.specs.Waiting.{edges_made, edges_of, made_by, operations_in, root_methods, waits_made, waits_of}
pub use Rattle.script_compiler.specs.Waits.{Leads, NoneBefore, NoneWaits, WaitsForLater}
pub use Rattle.script_compiler.specs.Waits.Leads.{here, on}
pub use Rattle.script_compiler.specs.declared.compiled.Compiled.{Compiled}
pub use Rattle.script_compiler.specs.declared.compiled.CompiledActor.{CompiledActor}
pub use Rattle.script_compiler.specs.declared.compiled.CompiledExecutor.{CompiledExecutor}
pub use Rattle.script_compiler.specs.declared.compiled.CompiledMethod.{CompiledMethod}
pub use Rattle.script_compiler.specs.declared.compiled.CompiledRoot.{CompiledRoot}
pub use Rattle.script_compiler.specs.declared.lowering.counts.PlaceCounts.{PlaceCounts}
pub use Rattle.script_compiler.specs.declared.waits.first.CallEdge.{CallEdge}
pub use Rattle.script_compiler.specs.declared.waits.first.RootWait.{RootWait}
pub use Rattle.script_compiler.specs.declared.waits.lists.ListEntry.{ListEntry}
pub use Rattle.script_compiler.specs.declared.waits.lists.MethodLists.{MethodLists}
pub use Rattle.script_compiler.specs.declared.waits.marks.Marks.{Marks}
pub use Rattle.script_grammar.specs.Size.{actor_size, block_size, decl_size, method_size, methods_size, script_size, stmt_size}
pub use Rattle.script_grammar.specs.Tree.{ActionTree, ActorTree, Acts, Adds, Assign, Assume, Await, AwaitedTree, Bind, Binds, BlockTree, Both, CallTree, Called, Cancel, Check, Computed, DeclTree, Detached, Do, Executes, ExecutorTree, ExprTree, Group, HeadTree, Headed, If, IfElse, Inverted, IsCancelled, Let, LetTask, Local, MakeTree, Makes, MethodTree, Named, Negated, NextOf, Number, OwnPriority, Return, RootTree, Roots, Spawned, StmtTree, TaskOf, Throw, ValueTree, WaitTree, Waited, While, Yield, block_tree, first_then, nothing, text_of, view, view_action, view_actor, view_awaited, view_call, view_decl, view_executor, view_field, view_head, view_if, view_local, view_method, view_stmt}
pub use Rattle.script_grammar.specs.declared.declaration.Actor.{Actor}
pub use Rattle.script_grammar.specs.declared.declaration.Decl.{Decl}
pub use Rattle.script_grammar.specs.declared.declaration.Method.{Method}
pub use Rattle.script_grammar.specs.declared.expression.Expr.{Expr}
pub use Rattle.script_grammar.specs.declared.expression.Name.{Name}
pub use Rattle.script_grammar.specs.declared.statement.Stmt.{Block, Stmt, the_lemmas}
pub use Rattle.script_names.proofs.Fails.{declaration_fails, script_fails}
pub use Rattle.script_names.proofs.Grows.{actor_grows, all_grow, block_grows, call_grows, decls_grow, fields_grow, from_next, grows, if_grows, method_grows, methods_grow, names_grow}
pub use Rattle.script_names.proofs.LeftOut.{nothing_left_out}
pub use Rattle.script_names.specs.Directory.{DirectoryView, actors_in, arity_of, declared_in, directory_of, executors_in, field_names, fields_at, has_method, key_of, method_place, nothing_declared, params_in, with_actor, with_decl, with_decls, with_method, with_methods, with_names}
pub use Rattle.script_names.specs.Methods.{method_key}
pub use Rattle.script_names.specs.Rules.{SeenView, action_error, actor_error, at_name, awaited_error, bind_fault, block_error, call_error, decl_error, declarations_error, declared_fault, earlier, executor_error, expression_error, expressions_error, fields_error, group_fault, head_error, make_error, method_error, methods_error, names_error, names_in, new_fault, number_fault, on_error, optional_error, or_else, parameters_error, past, past_action, past_all, past_awaited, past_block, past_decl, past_decls, past_fields, past_head, past_if, past_method, past_methods, past_name_if, past_names, past_stmt, repeat_error, root_error, scope_after, scope_within, seen_after, stmt_error, target_error, value_error, wait_error, where_so, with_parameters}
pub use Rattle.script_names.specs.Scope.{ScopeView, fields_alone, meaning_of, with_standing}
pub use Rattle.script_names.specs.Texts.{is_among, place_of, with_name}
pub use Rattle.script_names.specs.declared.error.NameErrorKind.{NameErrorKind}
pub use Rattle.script_names.specs.declared.error.NameErrorKind.TheVariants.{Arguments, TooMany, Twice, Unknown}
pub use Rattle.script_names.specs.declared.scope.NameKind.{NameKind}
pub use Rattle.script_printing.specs.Script.{ScriptView, declarations_of, script_in}
pub use Rattle.std.proofs.Common.{All, Bool, Err, IfNone, IfOk, IfSome, List, None, Ok, Option, Result, Some, [], add-one, add-zero, ap, append_assoc, arith, cond, count_by, drop, drop-cons, eqb, false, get_or, if◌then◌else◌, inl, inr, length, length-append, length-drop, map, min, nat_le, not, option_map, refl, replicate, rules, set, slice_get, subst, suc, sym, take, take_all, true, zero, ℕ, ℤ, ◌*◌, ◌++◌, ◌+◌, ◌-◌, ◌<◌, ◌==◌, ◌||◌, ◌∙◌, ◌∷◌, ◌≡◌, ◌≢◌, ◌≤◌, ◌⊎◌}
pub use Rattle.std.proofs.Math.Seq.{take-append_seam, take-length}
pub use Rattle.std.proofs.lemmas.Bool.{and_parts, both_ways, cases_eq, cases_lt, cond-false, cond-true, cond_both, eq-eqb, eqb-true, leb-false, ne_eqb, or_from}
pub use Rattle.std.proofs.lemmas.Grind.{common_steps}
pub use Rattle.std.proofs.lemmas.List.{append-nil, at_drop_all, get_or-set_other, get_or-set_same, get_or_past, get_or_read, length-map, length-set, length-take, length_push, map-append, map_push, take-append-le, take_min, take_more}
pub use Rattle.std.proofs.lemmas.List.Elements.{All-contains, Contains-append_left, Contains-push, Contains-push_cases}
pub use Rattle.std.proofs.lemmas.List.Sums.{count_by_more_yes, sum_by-cons, sum_by-set, sum_by-take-le, sum_by_push}
pub use Rattle.std.proofs.lemmas.Option.{get_or_from_slice_get, none-some, same_Some, slice_get-get_or, slice_get-map, slice_get_read, slice_get_within}
pub use Rattle.std.proofs.lemmas.Result.{err_from_is_err_and, on_ok_weaker}
pub use Rattle.std.specs.List.{AllByRecursion, AllZip, Contains, flat_map, list_any}
pub use Rattle.std.specs.Prelude.{unwrap_or}
pub use Rattle.swift_types.specs.declared.id.ActorId.{ActorId}
pub use Rattle.swift_types.specs.declared.limits.TheConstants.{ACTORS, BYTES, EXECUTORS, TASKS}

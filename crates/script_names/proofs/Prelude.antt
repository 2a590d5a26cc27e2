-- What the proofs of this crate take from elsewhere.
pub use Rattle.script_grammar.specs.Tree.{ActionTree, ActorTree, Acts, AddTree, Adds, Assign, Assume, Await, AwaitedTree, Bind, Binds, BlockTree, Both, CallTree, Called, Cancel, Check, Computed, DeclTree, Detached, Do, Executes, ExprTree, FieldTree, Group, HeadTree, Headed, If, IfElse, Inverted, IsCancelled, Let, LetTask, Local, MakeTree, Makes, MethodTree, Named, Negated, NextOf, Number, OwnPriority, Return, RootTree, Roots, Spawned, StmtTree, TaskOf, Throw, ValueTree, WaitTree, Waited, While, Yield, block_tree, first_then, nothing, view, view_decl, view_field, view_head, view_method, view_stmt}
pub use Rattle.script_names.specs.Directory.{DirectoryView, actors_in, declared_in, directory_of, executors_in, field_names, fields_at, fields_in, locals_in, method_place, methods_from, nothing_declared, params_in, roots_in, with_actor, with_decls, with_method, with_methods, with_names}
pub use Rattle.script_names.specs.Methods.{key_is, method_key}
pub use Rattle.script_names.specs.Rules.{SeenView, actor_error, at_name, decl_error, declarations_error, earlier, executor_error, fields_error, kind_error, method_error, methods_error, names_error, names_in, on_error, optional_error, past, past_action, past_actor, past_all, past_awaited, past_block, past_call, past_decl, past_decls, past_fields, past_head, past_if, past_make, past_method, past_methods, past_name_if, past_names, past_stmt, past_value, past_wait, repeat_error, root_error, scope_after, scope_within, seen_after, target_error, where_so}
pub use Rattle.script_names.specs.Scope.{ScopeView, fields_alone, meaning_of, share_a_name, with_standing}
pub use Rattle.script_names.specs.Texts.{is_among, place_of, text_is, texts_of, with_name}
pub use Rattle.script_names.specs.declared.error.NameError.{NameError}
pub use Rattle.std.proofs.Common.{Bool, IfOk, IfSome, List, None, Option, Some, [], ap, append_assoc, arith, cond, drop, false, get_or, if◌then◌else◌, is_some, length, length-append, map, min, nat_eq, nat_le, not, refl, rules, slice_get, subst, suc, sym, take, true, zero, ℕ, ◌&&◌, ◌++◌, ◌+◌, ◌-◌, ◌<◌, ◌||◌, ◌∙◌, ◌∷◌, ◌≡◌, ◌≤◌}
pub use Rattle.std.proofs.Math.Seq.{drop-cons, take-append_seam, take-length}
pub use Rattle.std.proofs.lemmas.Bool.{and_left, ne_eqb, or_from, or_parts}
pub use Rattle.std.proofs.lemmas.List.{append-nil, at_drop_all, drop-map, get_or_default, length-map, length-take, map_push, take-append-le, take-map, take-take}
pub use Rattle.std.specs.List.{list_any, position, position_or_len}
pub use Rattle.std.specs.Prelude.{unwrap_or}
pub use Rattle.std.specs.Str.{bytes_eq}

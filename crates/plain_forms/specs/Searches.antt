-- The first form of a script that has no plain Swift. (Own.)
use Rattle.std.specs.Prelude.{◌==◌, ℕ, Bool, true, false, List, [], ◌∷◌, nat_lt, Option, Some, None}
use Rattle.swift_types.specs.declared.priority.Priority.{Priority}
use Rattle.swift_types.specs.declared.priority.Priority.TheVariants as level
use Rattle.script_grammar.specs.Tree.{ExprTree, HeadTree, If, While, Bind, Group, Assume, StmtTree, Do, Headed, IfElse, BlockTree, nothing, first_then, block_tree, MethodTree, ActorTree, RootTree, DeclTree, Executes, Binds, Acts, Roots}
use Rattle.plain_parts.specs.Names.{is_instance_of, pick}
use Rattle.plain_parts.specs.Pages.{one_more}
use Rattle.plain_forms.specs.declared.form.Form.{Form}
use Rattle.plain_forms.specs.declared.form.Form.TheVariants as form
use Rattle.plain_forms.specs.Forms.{PlaceTree, action_form, earlier, test_form, unless}
use Rattle.plain_forms.specs.Groups.{has_children}
use Rattle.std.specs.Prelude.{not}

-- the first form of what stands before a block
abbrev pub head_form : PlaceTree → HeadTree → BlockTree → Option Form
head_form p (If e) b = test_form e
head_form p (While e) b = test_form e
head_form p (Bind w e) b = Some form.TaskLocal
head_form p (Group w) b = earlier (unless (not p.in_group) form.InnerGroup) (unless (has_children b w 0) form.NextOfNone)
head_form p (Assume w) b = Some form.Assume

-- what a statement of a block stands in
abbrev pub inside : PlaceTree → HeadTree → PlaceTree
inside p (If e) = p
inside p (While e) = p
inside p (Bind w e) = p
inside p (Group w) = record { decls = p.decls; actor = p.actor; params = p.params; in_group = true }
inside p (Assume w) = p

abbrev mutual
  -- of a block
  pub block_form : BlockTree → PlaceTree → Option Form
  block_form nothing p = None
  block_form (first_then s b) p = earlier (stmt_form s p b) (block_form b p)

  -- of a statement, before those that follow it
  pub stmt_form : StmtTree → PlaceTree → BlockTree → Option Form
  stmt_form (Do a) p rest = action_form p a rest
  stmt_form (Headed h b) p rest = earlier (head_form p h b) (block_form b (inside p h))
  stmt_form (IfElse e a b) p rest = earlier (test_form e) (earlier (block_form a p) (block_form b p))

-- of a method of an actor
abbrev pub method_form : List DeclTree → List ℕ → MethodTree → Option Form
method_form ds a m = block_form (block_tree m.body) (record { decls = ds; actor = a; params = m.params; in_group = false })

-- of methods
abbrev pub methods_form : List DeclTree → List ℕ → List MethodTree → Option Form
methods_form ds a [] = None
methods_form ds a (m ∷ ms) = earlier (method_form ds a m) (methods_form ds a ms)

-- of an invariant, if there is one
abbrev pub invariant_form : Option ExprTree → Option Form
invariant_form None = None
invariant_form (Some e) = test_form e

-- how many actors have an instance of this name
abbrev pub count_named : List DeclTree → List ℕ → ℕ
count_named [] w = 0
count_named (x ∷ xs) w = pick (is_instance_of w x) (one_more (count_named xs w)) (count_named xs w)

-- whether no executor is named
abbrev pub is_own : Option (List ℕ) → Bool
is_own None = true
is_own (Some w) = false

-- of an actor
abbrev pub actor_form : List DeclTree → ActorTree → Option Form
actor_form ds a = earlier (unless (count_named ds a.name == 1) form.SameName) (earlier (unless (is_own a.executor) form.Executor) (earlier (invariant_form a.invariant) (methods_form ds a.name a.methods)))

-- whether `main` need not raise a priority
abbrev pub is_high_enough : Priority → Bool
is_high_enough level.Background = false
is_high_enough level.Low = false
is_high_enough level.Medium = true
is_high_enough level.High = true

-- of a root before which there are so many
abbrev pub root_form : RootTree → ℕ → Option Form
root_form r k = earlier (unless (nat_lt k 16) form.Roots) (unless (is_high_enough r.priority) form.RootPriority)

-- of a declaration before which there are so many roots
abbrev pub decl_form : List DeclTree → DeclTree → ℕ → Option Form
decl_form ds (Executes x) k = Some form.Executor
decl_form ds (Binds l) k = Some form.TaskLocal
decl_form ds (Acts a) k = actor_form ds a
decl_form ds (Roots r) k = root_form r k

-- how many roots there are, after a declaration
abbrev pub after_decl : DeclTree → ℕ → ℕ
after_decl (Executes x) k = k
after_decl (Binds l) k = k
after_decl (Acts a) k = k
after_decl (Roots r) k = one_more k

-- of declarations before which there are so many roots
abbrev pub decls_form : List DeclTree → List DeclTree → ℕ → Option Form
decls_form ds [] k = None
decls_form ds (x ∷ xs) k = earlier (decl_form ds x k) (decls_form ds xs (after_decl x k))

-- the first form of a script, in the order of its text, if there is one
abbrev pub form_in : List DeclTree → Option Form
form_in ds = decls_form ds ds 0

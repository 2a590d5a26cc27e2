-- Whether names are in order does not depend on how many names stand before them.
use Rattle.swift_script.proofs.Prelude.{◌≡◌, ℕ, suc, ◌==◌, pos, negsuc, Bool, true, false, Option, Some, None, List, [], ◌∷◌, ◌++◌, length, refl, if◌then◌else◌, ExprTree, Number, Named, Local, OwnPriority, IsCancelled, Negated, Inverted, Both, CallTree, AwaitedTree, Called, TaskOf, NextOf, WaitTree, ValueTree, Computed, Waited, MakeTree, Spawned, Detached, ActionTree, Let, LetTask, Assign, Await, Makes, Adds, Cancel, Return, Throw, Check, Yield, HeadTree, If, While, Bind, Group, Assume, StmtTree, Do, Headed, IfElse, BlockTree, nothing, first_then, block_tree, FieldTree, MethodTree, ActorTree, NameErrorKind, Unknown, Arguments, is_among, DirectoryView, has_method, arity_of, earlier, at_name, past, past_if, past_awaited, past_head, past_stmt, past_block, past_names, past_method, past_fields, past_name_if, number_fault, group_fault, task_fault, cancel_fault, new_fault, declared_fault, bind_fault, or_else, expression_error, expressions_error, optional_error, target_error, call_error, awaited_error, wait_error, value_error, make_error, action_error, scope_after, scope_within, assume_fault, head_error, stmt_error, block_error, parameters_error, with_parameters, repeat_error, method_error, methods_error, fields_error, on_error, kind_error}
use Rattle.swift_types.specs.declared.executor_kind.ExecutorKind.{ExecutorKind}
use Rattle.swift_types.specs.declared.executor_kind.ExecutorKind.TheVariants as executor
use Rattle.script_names.specs.declared.error.NameError.{NameError}
use Rattle.script_names.specs.Scope.{ScopeView, fields_alone, with_standing, meaning_of}
use Rattle.script_names.specs.declared.scope.NameKind.TheVariants as kind

-- Where the first is no error, neither is the second.
pub record Alike (f g : Option NameError) : Type 0 where
  pub none : f ≡ None → g ≡ None

itself : {f : Option NameError} → Alike f f
itself = record { none = λ e. e }

pub earlier_parts : (f g : Option NameError) → earlier f g ≡ None → (f ≡ None) × (g ≡ None)
earlier_parts None g e = (refl, e)
earlier_parts (Some m) g e = absurd cc

pub earlier_none : (f g : Option NameError) → f ≡ None → g ≡ None → earlier f g ≡ None
earlier_none None g e h = h
earlier_none (Some m) g e h = absurd cc

pub both : {f f' g g' : Option NameError} → Alike f f' → Alike g g' → Alike (earlier f g) (earlier f' g')
both {f} {f'} {g} {g'} a b = record { none = λ e. let parts = earlier_parts f g e in earlier_none f' g' (a.none parts.0) (b.none parts.1) }

pub named : (at at' : ℕ) (k : Option NameErrorKind) → Alike (at_name at k) (at_name at' k)
named at at' None = itself
named at at' (Some k) = record { none = λ e. absurd cc }

expression : (s : ScopeView) (at at' : ℕ) (e : ExprTree) → Alike (expression_error s at e) (expression_error s at' e)
expression s at at' (Number n) = itself
expression s at at' (Named n) = named at at' (number_fault (meaning_of s n))
expression s at at' (Local n) = named at at' (declared_fault s.directory.locals n)
expression s at at' OwnPriority = itself
expression s at at' IsCancelled = itself
expression s at at' (Negated a) = expression s at at' a
expression s at at' (Inverted a) = expression s at at' a
expression s at at' (Both o a b) = both (expression s at at' a) (expression s (past a at) (past a at') b)

expressions : (s : ScopeView) (at at' : ℕ) (es : List ExprTree) → Alike (expressions_error s at es) (expressions_error s at' es)
expressions s at at' [] = itself
expressions s at at' (e ∷ es) = both (expression s at at' e) (expressions s (past e at) (past e at') es)

pub optional : (s : ScopeView) (at at' : ℕ) (o : Option ExprTree) → Alike (optional_error s at o) (optional_error s at' o)
optional s at at' None = itself
optional s at at' (Some e) = expression s at at' e

pub target : (d : DirectoryView) (at at' : ℕ) (actor method : List ℕ) (count : ℕ) → Alike (target_error d at actor method count) (target_error d at' actor method count)
target d at at' actor method count =
    let fault : Option NameErrorKind = if has_method d actor method then (if arity_of d actor method == count then None else Some Arguments) else Some Unknown in
    elim (is_among d.actors actor) as (λ (b : Bool). Alike (if b then at_name (suc at) fault else at_name at (Some Unknown)) (if b then at_name (suc at') fault else at_name at' (Some Unknown))) [
      | true ↦ named (suc at) (suc at') fault
      | false ↦ named at at' (Some Unknown)
    ]

call : (s : ScopeView) (at at' : ℕ) (c : CallTree) → Alike (call_error s at c) (call_error s at' c)
call s at at' c = both (target s.directory at at' c.actor c.method (length c.args)) (expressions s (suc (suc at)) (suc (suc at')) c.args)

waited : (s : ScopeView) (at at' : ℕ) (a : AwaitedTree) → Alike (awaited_error s at a) (awaited_error s at' a)
waited s at at' (Called c) = call s at at' c
waited s at at' (TaskOf n) = named at at' (task_fault (is_among s.directory.roots n) (meaning_of s n))
waited s at at' (NextOf n) = named at at' (group_fault (meaning_of s n))

wait : (s : ScopeView) (at at' : ℕ) (w : WaitTree) → Alike (wait_error s at w) (wait_error s at' w)
wait s at at' w = both (waited s at at' w.for) (optional s (past_awaited w.for at) (past_awaited w.for at') w.other)

value : (s : ScopeView) (at at' : ℕ) (v : ValueTree) → Alike (value_error s at v) (value_error s at' v)
value s at at' (Computed e) = expression s at at' e
value s at at' (Waited w) = wait s at at' w

make : (s : ScopeView) (at at' : ℕ) (m : MakeTree) → Alike (make_error s at m) (make_error s at' m)
make s at at' (Spawned c p) = call s at at' c
make s at at' (Detached c p) = call s at at' c

action : (s : ScopeView) (at at' : ℕ) (a : ActionTree) → Alike (action_error s at a) (action_error s at' a)
action s at at' (Let n v) = both (named at at' (new_fault (meaning_of s n))) (value s (suc at) (suc at') v)
action s at at' (LetTask n m) = both (named at at' (new_fault (meaning_of s n))) (make s (suc at) (suc at') m)
action s at at' (Assign n v) = both (named at at' (number_fault (meaning_of s n))) (value s (suc at) (suc at') v)
action s at at' (Await w) = wait s at at' w
action s at at' (Makes m) = make s at at' m
action s at at' (Adds a) = both (named at at' (or_else (group_fault (meaning_of s a.group)) (bind_fault s a.group))) (call s (suc at) (suc at') a.call)
action s at at' (Cancel n) = named at at' (cancel_fault (is_among s.directory.roots n) (meaning_of s n))
action s at at' (Return e) = expression s at at' e
action s at at' (Throw e) = expression s at at' e
action s at at' Check = itself
action s at at' Yield = itself

head : (s : ScopeView) (at at' : ℕ) (h : HeadTree) → Alike (head_error s at h) (head_error s at' h)
head s at at' (If e) = expression s at at' e
head s at at' (While e) = expression s at at' e
head s at at' (Bind n e) = both (named at at' (declared_fault s.directory.locals n)) (expression s (suc at) (suc at') e)
head s at at' (Group n) = named at at' (new_fault (meaning_of s n))
head s at at' (Assume n) = named at at' (assume_fault s n)

mutual
  stmt : (s : ScopeView) (at at' : ℕ) (x : StmtTree) → Alike (stmt_error s at x) (stmt_error s at' x)
  stmt s at at' (Do a) = action s at at' a
  stmt s at at' (Headed h b) = both (head s at at' h) (block (scope_within s h) (past_head h at) (past_head h at') b)
  stmt s at at' (IfElse t a b) = both (expression s at at' t) (both (block s (past t at) (past t at') a) (block s (past_block a (past t at)) (past_block a (past t at')) b))

  block : (s : ScopeView) (at at' : ℕ) (b : BlockTree) → Alike (block_error s at b) (block_error s at' b)
  block s at at' nothing = itself
  block s at at' (first_then x xs) = both (stmt s at at' x) (block (scope_after s x) (past_stmt x at) (past_stmt x at') xs)

parameters : (s : ScopeView) (at at' : ℕ) (ns : List (List ℕ)) → Alike (parameters_error s at ns) (parameters_error s at' ns)
parameters s at at' [] = itself
parameters s at at' (n ∷ ns) = both (named at at' (new_fault (meaning_of s n))) (parameters (with_standing s n kind.Number) (suc at) (suc at') ns)

repeat : (seen : List (List ℕ)) (at at' : ℕ) (name : List ℕ) → Alike (repeat_error seen at name) (repeat_error seen at' name)
repeat seen at at' name = named at at' _

method : (s : ScopeView) (seen : List (List ℕ)) (at at' : ℕ) (m : MethodTree) → Alike (method_error s seen at m) (method_error s seen at' m)
method s seen at at' m =
    both (repeat seen at at' m.name)
    (both (parameters s (suc at) (suc at') m.params) (block (with_parameters s m.params) (past_names m.params (suc at)) (past_names m.params (suc at')) (block_tree m.body)))

methods : (s : ScopeView) (seen : List (List ℕ)) (at at' : ℕ) (ms : List MethodTree) → Alike (methods_error s seen at ms) (methods_error s seen at' ms)
methods s seen at at' [] = itself
methods s seen at at' (m ∷ ms) = both (method s seen at at' m) (methods s (seen ++ m.name ∷ []) (past_method m at) (past_method m at') ms)

fields : (seen : List (List ℕ)) (at at' : ℕ) (fs : List FieldTree) → Alike (fields_error seen at fs) (fields_error seen at' fs)
fields seen at at' [] = itself
fields seen at at' (f ∷ fs) = both (repeat seen at at' f.name) (fields (seen ++ f.name ∷ []) (suc at) (suc at') fs)

on : (d : DirectoryView) (at at' : ℕ) (o : Option (List ℕ)) → Alike (on_error d at o) (on_error d at' o)
on d at at' None = itself
on d at at' (Some n) = named at at' (declared_fault d.executors n)

pub executor_kind : (at at' : ℕ) (k : ExecutorKind) → Alike (kind_error at k) (kind_error at' k)
executor_kind at at' executor.Priority = itself
executor_kind at at' executor.Fifo = itself
executor_kind at at' (executor.Pinned (pos n)) = named at at' _
executor_kind at at' (executor.Pinned (negsuc n)) = itself

-- the rules on what stands in an actor, after its own name
abbrev pub inside_error : DirectoryView → ℕ → ℕ → ActorTree → Option NameError
inside_error d actor at a =
    let s = fields_alone d actor in
    let fields = past_name_if a.executor (suc at) in
    let invariant = past_fields a.fields fields in
    earlier (on_error d (suc at) a.executor)
    (earlier (fields_error [] fields a.fields)
    (earlier (optional_error s invariant a.invariant) (methods_error s [] (past_if a.invariant invariant) a.methods)))

pub inside : (d : DirectoryView) (actor at at' : ℕ) (a : ActorTree) → Alike (inside_error d actor at a) (inside_error d actor at' a)
inside d actor at at' a =
    let s = fields_alone d actor in
    let there : ℕ → ℕ = λ n. past_fields a.fields (past_name_if a.executor (suc n)) in
    both (on d (suc at) (suc at') a.executor)
    (both (fields [] (past_name_if a.executor (suc at)) (past_name_if a.executor (suc at')) a.fields)
    (both (optional s (there at) (there at') a.invariant) (methods s [] (past_if a.invariant (there at)) (past_if a.invariant (there at')) a.methods)))

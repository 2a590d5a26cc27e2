-- At the end of what is read no fewer names have come than before it.
use Rattle.script_names.proofs.Prelude.{◌≡◌, ◌<◌, ◌≤◌, ℕ, List, [], ◌∷◌, suc, None, Some, Option, drop, length, get_or, sym, ap, subst, ◌∙◌, arith, drop-cons, ExprTree, Number, Named, Local, OwnPriority, IsCancelled, Negated, Inverted, Both, CallTree, AwaitedTree, Called, TaskOf, NextOf, WaitTree, ValueTree, Computed, Waited, MakeTree, Spawned, Detached, HeadTree, If, While, Bind, Group, Assume, ActionTree, Let, LetTask, Assign, Await, Makes, Adds, Cancel, Return, Throw, Check, Yield, StmtTree, Do, Headed, IfElse, BlockTree, nothing, first_then, block_tree, FieldTree, MethodTree, ActorTree, DeclTree, Executes, Binds, Acts, Roots, past, past_all, past_if, past_call, past_awaited, past_wait, past_value, past_make, past_action, past_head, past_stmt, past_block, past_names, past_name_if, past_method, past_methods, past_fields, past_actor, past_decl, past_decls}

pub grows : (t : ExprTree) (at : ℕ) → at ≤ past t at
grows (Number n) at = omega arith
grows (Named n) at = omega arith
grows (Local n) at = omega arith
grows OwnPriority at = omega arith
grows IsCancelled at = omega arith
grows (Negated a) at = grows a at
grows (Inverted a) at = grows a at
grows (Both o a b) at = omega (arith, grows a at, grows b (past a at))

pub all_grow : (ts : List ExprTree) (at : ℕ) → at ≤ past_all ts at
all_grow [] at = omega arith
all_grow (t ∷ ts) at = omega (arith, grows t at, all_grow ts (past t at))

pub if_grows : (t : Option ExprTree) (at : ℕ) → at ≤ past_if t at
if_grows None at = omega arith
if_grows (Some t) at = grows t at

pub call_grows : (c : CallTree) (at : ℕ) → suc (suc at) ≤ past_call c at
call_grows c at = all_grow c.args (suc (suc at))

pub awaited_grows : (w : AwaitedTree) (at : ℕ) → at ≤ past_awaited w at
awaited_grows (Called c) at = omega (arith, call_grows c at)
awaited_grows (TaskOf n) at = omega arith
awaited_grows (NextOf n) at = omega arith

pub wait_grows : (w : WaitTree) (at : ℕ) → at ≤ past_wait w at
wait_grows w at = omega (arith, awaited_grows w.for at, if_grows w.other (past_awaited w.for at))

pub value_grows : (v : ValueTree) (at : ℕ) → at ≤ past_value v at
value_grows (Computed t) at = grows t at
value_grows (Waited w) at = wait_grows w at

pub make_grows : (m : MakeTree) (at : ℕ) → at ≤ past_make m at
make_grows (Spawned c p) at = omega (arith, call_grows c at)
make_grows (Detached c p) at = omega (arith, call_grows c at)

pub action_grows : (a : ActionTree) (at : ℕ) → at ≤ past_action a at
action_grows (Let n v) at = omega (arith, value_grows v (suc at))
action_grows (LetTask n m) at = omega (arith, make_grows m (suc at))
action_grows (Assign n v) at = omega (arith, value_grows v (suc at))
action_grows (Await w) at = wait_grows w at
action_grows (Makes m) at = make_grows m at
action_grows (Adds a) at = omega (arith, call_grows a.call (suc at))
action_grows (Cancel n) at = omega arith
action_grows (Return t) at = grows t at
action_grows (Throw t) at = grows t at
action_grows Check at = omega arith
action_grows Yield at = omega arith

pub head_grows : (h : HeadTree) (at : ℕ) → at ≤ past_head h at
head_grows (If t) at = grows t at
head_grows (While t) at = grows t at
head_grows (Bind n t) at = omega (arith, grows t (suc at))
head_grows (Group n) at = omega arith
head_grows (Assume n) at = omega arith

mutual
  pub stmt_grows : (s : StmtTree) (at : ℕ) → at ≤ past_stmt s at
  stmt_grows (Do a) at = action_grows a at
  stmt_grows (Headed h b) at = omega (arith, head_grows h at, block_grows b (past_head h at))
  stmt_grows (IfElse t a b) at = omega (arith, grows t at, block_grows a (past t at), block_grows b (past_block a (past t at)))

  pub block_grows : (b : BlockTree) (at : ℕ) → at ≤ past_block b at
  block_grows nothing at = omega arith
  block_grows (first_then s ss) at = omega (arith, stmt_grows s at, block_grows ss (past_stmt s at))

pub names_grow : (ns : List (List ℕ)) (at : ℕ) → at ≤ past_names ns at
names_grow [] at = omega arith
names_grow (n ∷ ns) at = omega (arith, names_grow ns (suc at))

pub name_if_grows : (n : Option (List ℕ)) (at : ℕ) → at ≤ past_name_if n at
name_if_grows None at = omega arith
name_if_grows (Some n) at = omega arith

pub method_grows : (m : MethodTree) (at : ℕ) → suc at ≤ past_method m at
method_grows m at = omega (arith, names_grow m.params (suc at), block_grows (block_tree m.body) (past_names m.params (suc at)))

pub methods_grow : (ms : List MethodTree) (at : ℕ) → at ≤ past_methods ms at
methods_grow [] at = omega arith
methods_grow (m ∷ ms) at = omega (arith, method_grows m at, methods_grow ms (past_method m at))

pub fields_grow : (fs : List FieldTree) (at : ℕ) → at ≤ past_fields fs at
fields_grow [] at = omega arith
fields_grow (f ∷ fs) at = omega (arith, fields_grow fs (suc at))

pub actor_grows : (a : ActorTree) (at : ℕ) → suc at ≤ past_actor a at
actor_grows a at =
    let fields = past_name_if a.executor (suc at) in
    let invariant = past_fields a.fields fields in
    omega (arith, name_if_grows a.executor (suc at), fields_grow a.fields fields, if_grows a.invariant invariant, methods_grow a.methods (past_if a.invariant invariant))

pub decl_grows : (x : DeclTree) (at : ℕ) → at ≤ past_decl x at
decl_grows (Executes x) at = omega arith
decl_grows (Binds l) at = omega arith
decl_grows (Acts a) at = omega (arith, actor_grows a at)
decl_grows (Roots r) at = omega arith

pub decls_grow : (xs : List DeclTree) (at : ℕ) → at ≤ past_decls xs at
decls_grow [] at = omega arith
decls_grow (x ∷ xs) at = omega (arith, decl_grows x at, decls_grow xs (past_decl x at))

-- what is left is the next one, and what follows it
pub from_next : {A : Type 0} (P : List A → Type 0) (xs : List A) (i : ℕ) (x : A) → i < length xs → x ≡ get_or xs i x → P (drop i xs) → P (x ∷ drop (suc i) xs)
from_next {A = A} P xs i x within item p = subst P (drop-cons xs i x within ∙ ap (λ (y : A). y ∷ drop (suc i) xs) (sym item)) p

-- The calls of a block's code are of methods that are there.
use Rattle.script_compiler.proofs.Prelude.{◌≡◌, ℕ, suc, List, length, Option, Some, None, refl, sym, ◌∙◌, subst, ◌==◌, cond_both, length-map, CallTree, AwaitedTree, Called, TaskOf, NextOf, WaitTree, ValueTree, Computed, Waited, MakeTree, Spawned, Detached, ActionTree, Let, LetTask, Assign, Await, Makes, Adds, HeadTree, If, While, Bind, Group, Assume, StmtTree, Do, Headed, IfElse, BlockTree, nothing, first_then, NameKind, place_of, DirectoryView, method_place, ScopeView, meaning_of, past, past_head, past_stmt, past_block, at_name, number_fault, group_fault, bind_fault, or_else, new_fault, expression_error, target_error, call_error, awaited_error, wait_error, value_error, make_error, action_error, head_error, stmt_error, block_error, scope_after, scope_within, NumberPlace, Variable, Field, Term, Code, end, act, PlanView, executor_at, numbers_in, handles_in, place_named, lowered, target_of, task_named, wanted_of, wait_to, set_at, value_to, make_to, action_code, headed_code, stmt_code, block_code, IsDeclaredCall, TargetFits, WantedFits, OperationFits, TargetsFit}
use Rattle.script_names.specs.declared.scope.NameKind.TheVariants as kind
use Rattle.script_code.specs.Tree as code
use Rattle.script_compiler.proofs.Clear.{earlier_none}
use Rattle.script_compiler.proofs.Joined.{each_then}
use Rattle.script_compiler.proofs.Callable.{callable}

target_fits : (p : PlanView) (s : ScopeView) (at : ℕ) (x : CallTree) → call_error s at x ≡ None → TargetFits s.directory (target_of p s x)
target_fits p s at x e =
    let target = (earlier_none (target_error s.directory at x.actor x.method (length x.args)) _ e).0 in
    subst (IsDeclaredCall s.directory (place_of s.directory.actors x.actor) (method_place s.directory x.actor x.method)) (sym (length-map x.args (lowered p s))) (callable s.directory at x.actor x.method (length x.args) target)

task_fits : (d : DirectoryView) (s : ScopeView) (name : List ℕ) (o : Option NameKind) → WantedFits d (task_named s name o)
task_fits d s name None = tt
task_fits d s name (Some kind.Field) = tt
task_fits d s name (Some kind.Number) = tt
task_fits d s name (Some kind.Task) = tt
task_fits d s name (Some kind.Group) = tt

wanted_fits : (p : PlanView) (s : ScopeView) (at : ℕ) (w : AwaitedTree) → awaited_error s at w ≡ None → WantedFits s.directory (wanted_of p s w)
wanted_fits p s at (Called x) e = target_fits p s at x e
wanted_fits p s at (TaskOf n) e = task_fits s.directory s n (meaning_of s n)
wanted_fits p s at (NextOf n) e = tt

wait_fits : (p : PlanView) (s : ScopeView) (at : ℕ) (place : Option NumberPlace) (w : WaitTree) → wait_error s at w ≡ None → TargetsFit s.directory (wait_to p s place w)
wait_fits p s at place w e = (wanted_fits p s at w.for (earlier_none (awaited_error s at w.for) _ e).0, (tt, tt))

set_fits : (d : DirectoryView) (place : NumberPlace) (t : Term) → OperationFits d (set_at place t)
set_fits d (Variable x) t = tt
set_fits d (Field p) t = tt

value_fits : (p : PlanView) (s : ScopeView) (at : ℕ) (place : NumberPlace) (v : ValueTree) → value_error s at v ≡ None → TargetsFit s.directory (value_to p s place v)
value_fits p s at place (Computed t) e = (set_fits s.directory place (lowered p s t), tt)
value_fits p s at place (Waited w) e = wait_fits p s at (Some place) w e

make_fits : (p : PlanView) (s : ScopeView) (at : ℕ) (handle : Option ℕ) (m : MakeTree) → make_error s at m ≡ None → OperationFits s.directory (make_to p s handle m)
make_fits p s at handle (Spawned x given) e = target_fits p s at x e
make_fits p s at handle (Detached x given) e = target_fits p s at x e

action_fits : (p : PlanView) (s : ScopeView) (at : ℕ) (a : ActionTree) → action_error s at a ≡ None → TargetsFit s.directory (action_code p s a)
action_fits p s at (Let n v) e = value_fits p s (suc at) (Variable (numbers_in s)) v (earlier_none (at_name at (new_fault (meaning_of s n))) _ e).1
action_fits p s at (LetTask n m) e = (make_fits p s (suc at) (Some (handles_in s)) m (earlier_none (at_name at (new_fault (meaning_of s n))) _ e).1, tt)
action_fits p s at (Assign n v) e = value_fits p s (suc at) (place_named p s n) v (earlier_none (at_name at (number_fault (meaning_of s n))) _ e).1
action_fits p s at (Await w) e = wait_fits p s at None w e
action_fits p s at (Makes m) e = (make_fits p s at None m e, tt)
action_fits p s at (Adds a) e = (target_fits p s (suc at) a.call (earlier_none (at_name at (or_else (group_fault (meaning_of s a.group)) (bind_fault s a.group))) _ e).1, tt)
action_fits p s at _ e = (tt, tt)

headed_fits : (d : DirectoryView) (p : PlanView) (s : ScopeView) (h : HeadTree) (inner : Code) → TargetsFit d inner → TargetsFit d (headed_code p s h inner)
headed_fits d p s (If t) inner k = (tt, k, tt, tt)
headed_fits d p s (While t) inner k = (tt, k, tt)
headed_fits d p s (Bind n t) inner k = (tt, each_then (OperationFits d) (λ _. Unit {0}) inner (act code.unbind end) k (tt, tt))
headed_fits d p s (Group n) inner k = (tt, each_then (OperationFits d) (λ _. Unit {0}) inner (act code.close_group end) k (tt, tt))
headed_fits d p s (Assume n) inner k =
    cond_both (executor_at p (place_of s.directory.actors n) == executor_at p s.actor) (act code.assume inner) (act code.isolated end) (TargetsFit d) (λ _. (tt, k)) (λ _. (tt, tt))

-- a script's directory stays
pub after_directory : (s : ScopeView) (x : StmtTree) → (scope_after s x).directory ≡ s.directory
after_directory s (Do (Let n v)) = refl
after_directory s (Do (LetTask n m)) = refl
after_directory s _ = refl

pub within_directory : (s : ScopeView) (h : HeadTree) → (scope_within s h).directory ≡ s.directory
within_directory s (If t) = refl
within_directory s (While t) = refl
within_directory s (Bind n t) = refl
within_directory s (Group n) = refl
within_directory s (Assume n) = refl

mutual
  stmt_fits : (x : StmtTree) (p : PlanView) (s : ScopeView) (d : DirectoryView) (at : ℕ) → s.directory ≡ d → stmt_error s at x ≡ None → TargetsFit d (stmt_code p s x)
  stmt_fits (Do a) p s d at same e = subst (λ y. TargetsFit y (action_code p s a)) same (action_fits p s at a e)
  stmt_fits (Headed head b) p s d at same e =
      headed_fits d p s head (block_code p (scope_within s head) b)
      (block_fits b p (scope_within s head) d (past_head head at) (within_directory s head ∙ same) (earlier_none (head_error s at head) _ e).1)
  stmt_fits (IfElse t a b) p s d at same e =
      let blocks = earlier_none (block_error s (past t at) a) _ (earlier_none (expression_error s at t) _ e).1 in
      (tt, block_fits a p s d (past t at) same blocks.0, block_fits b p s d (past_block a (past t at)) same blocks.1, tt)

  pub block_fits : (b : BlockTree) (p : PlanView) (s : ScopeView) (d : DirectoryView) (at : ℕ) → s.directory ≡ d → block_error s at b ≡ None → TargetsFit d (block_code p s b)
  block_fits nothing p s d at same e = tt
  block_fits (first_then x xs) p s d at same e =
      let parts = earlier_none (stmt_error s at x) _ e in
      each_then (OperationFits d) (λ _. Unit {0}) (stmt_code p s x) (block_code p (scope_after s x) xs)
      (stmt_fits x p s d at same parts.0)
      (block_fits xs p (scope_after s x) d (past_stmt x at) (after_directory s x ∙ same) parts.1)

pub block_calls : (p : PlanView) (s : ScopeView) (at : ℕ) (b : BlockTree) → block_error s at b ≡ None → TargetsFit s.directory (block_code p s b)
block_calls p s at b e = block_fits b p s s.directory at refl e

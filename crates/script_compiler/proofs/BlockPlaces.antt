-- The places that a block's code names are below the number of places.
use Rattle.script_compiler.proofs.Prelude.{◌≡◌, ◌<◌, ℕ, suc, List, [], ◌∷◌, map, Option, Some, None, IfSome, refl, sym, subst, arith, ◌==◌, AllByRecursion, cond_both, ExprTree, Number, Named, Local, OwnPriority, IsCancelled, Negated, Inverted, Both, CallTree, AwaitedTree, Called, TaskOf, NextOf, WaitTree, ValueTree, Computed, Waited, MakeTree, Spawned, Detached, ActionTree, Let, LetTask, Assign, Await, Makes, Adds, Cancel, Return, Throw, Check, Yield, HeadTree, If, While, Bind, Group, Assume, StmtTree, Do, Headed, IfElse, BlockTree, nothing, first_then, NameKind, place_of, ScopeView, meaning_of, past, past_awaited, past_head, past_stmt, past_block, at_name, number_fault, group_fault, bind_fault, or_else, new_fault, declared_fault, expression_error, expressions_error, optional_error, target_error, call_error, awaited_error, wait_error, value_error, make_error, action_error, head_error, stmt_error, block_error, scope_after, scope_within, NumberPlace, Variable, Field, Code, end, act, PlaceCounts, PlanView, executor_at, numbers_in, handles_in, handle_place, place_named, term_at, lowered, lowered_if, target_of, task_named, wanted_of, wait_to, set_at, value_to, make_to, cancelled_named, action_code, headed_code, stmt_code, block_code, counts_of, counts_after, counts_within, most_in, most_of, TermBelow, PlaceBelow, TargetBelow, WantedBelow, CancelledBelow, OperationBelow, PlacesBelow, HoldsNoField}
use Rattle.script_names.specs.declared.scope.NameKind.TheVariants as kind
use Rattle.script_code.specs.Tree as code
use Rattle.script_compiler.proofs.Clear.{earlier_none, at_name_none, or_else_none, is_group}
use Rattle.script_compiler.proofs.Joined.{each_then}
use Rattle.script_compiler.proofs.Counted.{AtMost, same, still, first_at_most, second_at_most, grows_of, after_counted, within_counted}
use Rattle.script_compiler.proofs.Named.{named_below, handle_below, after_no_field, within_no_field}

-- No field stands among the names of the method, and there are as many places as names, and perhaps more.
record Has (s : ScopeView) (c : PlaceCounts) : Type 0 where
  no_field : HoldsNoField s
  few : AtMost (counts_of s.kinds) c

read_below : (c : PlaceCounts) (place : NumberPlace) → PlaceBelow c place → TermBelow c (term_at place)
read_below c (Variable x) h = h
read_below c (Field p) h = tt

term_below : (p : PlanView) (s : ScopeView) (c : PlaceCounts) → Has s c → (at : ℕ) (t : ExprTree) → expression_error s at t ≡ None → TermBelow c (lowered p s t)
term_below p s c h at (Number n) e = tt
term_below p s c h at (Named n) e = read_below c (place_named p s n) (named_below p s c n h.no_field h.few (at_name_none at _ e))
term_below p s c h at (Local n) e = tt
term_below p s c h at OwnPriority e = tt
term_below p s c h at IsCancelled e = tt
term_below p s c h at (Negated a) e = term_below p s c h at a e
term_below p s c h at (Inverted a) e = term_below p s c h at a e
term_below p s c h at (Both o a b) e =
    let parts = earlier_none (expression_error s at a) _ e in
    (term_below p s c h at a parts.0, term_below p s c h (past a at) b parts.1)

terms_below : (p : PlanView) (s : ScopeView) (c : PlaceCounts) → Has s c → (at : ℕ) (ts : List ExprTree) → expressions_error s at ts ≡ None → AllByRecursion (TermBelow c) (map (lowered p s) ts)
terms_below p s c h at [] e = tt
terms_below p s c h at (t ∷ ts) e =
    let parts = earlier_none (expression_error s at t) _ e in
    (term_below p s c h at t parts.0, terms_below p s c h (past t at) ts parts.1)

other_below : (p : PlanView) (s : ScopeView) (c : PlaceCounts) → Has s c → (at : ℕ) (o : Option ExprTree) → optional_error s at o ≡ None → IfSome (lowered_if p s o) (TermBelow c)
other_below p s c h at None e = tt
other_below p s c h at (Some t) e = term_below p s c h at t e

target_below : (p : PlanView) (s : ScopeView) (c : PlaceCounts) → Has s c → (at : ℕ) (x : CallTree) → call_error s at x ≡ None → TargetBelow c (target_of p s x)
target_below p s c h at x e = terms_below p s c h (suc (suc at)) x.args (earlier_none (target_error s.directory at x.actor x.method _) _ e).1

task_below : (c : PlaceCounts) (s : ScopeView) (name : List ℕ) (o : Option NameKind) → (o ≡ Some kind.Task → handle_place s name < c.handles) → WantedBelow c (task_named s name o)
task_below c s name None h = tt
task_below c s name (Some kind.Field) h = tt
task_below c s name (Some kind.Number) h = tt
task_below c s name (Some kind.Task) h = h refl
task_below c s name (Some kind.Group) h = tt

cancelled_below : (c : PlaceCounts) (s : ScopeView) (name : List ℕ) (o : Option NameKind) → (o ≡ Some kind.Task → handle_place s name < c.handles) → (o ≡ Some kind.Group → handle_place s name < c.handles) → CancelledBelow c (cancelled_named s name o)
cancelled_below c s name None h k = tt
cancelled_below c s name (Some kind.Field) h k = tt
cancelled_below c s name (Some kind.Number) h k = tt
cancelled_below c s name (Some kind.Task) h k = h refl
cancelled_below c s name (Some kind.Group) h k = k refl

wanted_below : (p : PlanView) (s : ScopeView) (c : PlaceCounts) → Has s c → (at : ℕ) (w : AwaitedTree) → awaited_error s at w ≡ None → WantedBelow c (wanted_of p s w)
wanted_below p s c h at (Called x) e = target_below p s c h at x e
wanted_below p s c h at (TaskOf n) e = task_below c s n (meaning_of s n) (handle_below s c n kind.Task h.few refl)
wanted_below p s c h at (NextOf n) e = handle_below s c n kind.Group h.few refl (is_group (meaning_of s n) (at_name_none at _ e))

wait_below : (p : PlanView) (s : ScopeView) (c : PlaceCounts) → Has s c → (at : ℕ) (place : Option NumberPlace) (w : WaitTree) → IfSome place (PlaceBelow c) → wait_error s at w ≡ None → PlacesBelow c (wait_to p s place w)
wait_below p s c h at place w k e =
    let parts = earlier_none (awaited_error s at w.for) _ e in
    (wanted_below p s c h at w.for parts.0, ((k, other_below p s c h (past_awaited w.for at) w.other parts.1), tt))

set_below : (c : PlaceCounts) (place : NumberPlace) (t : code.Term) → PlaceBelow c place → TermBelow c t → OperationBelow c (set_at place t)
set_below c (Variable x) t h k = (h, k)
set_below c (Field p) t h k = k

value_below : (p : PlanView) (s : ScopeView) (c : PlaceCounts) → Has s c → (at : ℕ) (place : NumberPlace) (v : ValueTree) → PlaceBelow c place → value_error s at v ≡ None → PlacesBelow c (value_to p s place v)
value_below p s c h at place (Computed t) k e = (set_below c place (lowered p s t) k (term_below p s c h at t e), tt)
value_below p s c h at place (Waited w) k e = wait_below p s c h at (Some place) w k e

make_below : (p : PlanView) (s : ScopeView) (c : PlaceCounts) → Has s c → (at : ℕ) (handle : Option ℕ) (m : MakeTree) → IfSome handle (λ x. x < c.handles) → make_error s at m ≡ None → OperationBelow c (make_to p s handle m)
make_below p s c h at handle (Spawned x given) k e = (target_below p s c h at x e, k)
make_below p s c h at handle (Detached x given) k e = (target_below p s c h at x e, k)

action_below : (p : PlanView) (s : ScopeView) (c : PlaceCounts) → Has s c → (at : ℕ) (a : ActionTree) → AtMost (counts_after (counts_of s.kinds) (Do a)) c → action_error s at a ≡ None → PlacesBelow c (action_code p s a)
action_below p s c h at (Let n v) few e = value_below p s c h (suc at) (Variable (numbers_in s)) v (omega (arith, few.few_numbers)) (earlier_none (at_name at (new_fault (meaning_of s n))) _ e).1
action_below p s c h at (LetTask n m) few e = (make_below p s c h (suc at) (Some (handles_in s)) m (omega (arith, few.few_handles)) (earlier_none (at_name at (new_fault (meaning_of s n))) _ e).1, tt)
action_below p s c h at (Assign n v) few e =
    let parts = earlier_none (at_name at (number_fault (meaning_of s n))) _ e in
    value_below p s c h (suc at) (place_named p s n) v (named_below p s c n h.no_field h.few (at_name_none at _ parts.0)) parts.1
action_below p s c h at (Await w) few e = wait_below p s c h at None w tt e
action_below p s c h at (Makes m) few e = (make_below p s c h at None m tt e, tt)
action_below p s c h at (Adds a) few e =
    let parts = earlier_none (at_name at (or_else (group_fault (meaning_of s a.group)) (bind_fault s a.group))) _ e in
    let group = is_group (meaning_of s a.group) (or_else_none _ _ (at_name_none at _ parts.0)) in
    ((handle_below s c a.group kind.Group h.few refl group, target_below p s c h (suc at) a.call parts.1), tt)
action_below p s c h at (Cancel n) few e = (cancelled_below c s n (meaning_of s n) (handle_below s c n kind.Task h.few refl) (handle_below s c n kind.Group h.few refl), tt)
action_below p s c h at (Return t) few e = (term_below p s c h at t e, tt)
action_below p s c h at (Throw t) few e = (term_below p s c h at t e, tt)
action_below p s c h at Check few e = (tt, tt)
action_below p s c h at Yield few e = (tt, tt)

headed_below : (p : PlanView) (s : ScopeView) (c : PlaceCounts) → Has s c → (at : ℕ) (h : HeadTree) (inner : Code) → AtMost (counts_within (counts_of s.kinds) h) c → head_error s at h ≡ None → PlacesBelow c inner → PlacesBelow c (headed_code p s h inner)
headed_below p s c h at (If t) inner few e k = (term_below p s c h at t e, k, tt, tt)
headed_below p s c h at (While t) inner few e k = (term_below p s c h at t e, k, tt)
headed_below p s c h at (Bind n t) inner few e k =
    let parts = earlier_none (at_name at (declared_fault s.directory.locals n)) _ e in
    (term_below p s c h (suc at) t parts.1, each_then (OperationBelow c) (TermBelow c) inner (act code.unbind end) k (tt, tt))
headed_below p s c h at (Group n) inner few e k = (omega (arith, few.few_handles), each_then (OperationBelow c) (TermBelow c) inner (act code.close_group end) k (tt, tt))
headed_below p s c h at (Assume n) inner few e k =
    cond_both (executor_at p (place_of s.directory.actors n) == executor_at p s.actor) (act code.assume inner) (act code.isolated end) (PlacesBelow c) (λ _. (tt, k)) (λ _. (tt, tt))

-- what stands after a statement, and in a block
has_after : (s : ScopeView) (c : PlaceCounts) (x : StmtTree) → Has s c → AtMost (counts_after (counts_of s.kinds) x) c → Has (scope_after s x) c
has_after s c x h few = record { no_field = after_no_field s x h.no_field; few = subst (λ n. AtMost n c) (sym (after_counted s x)) few }

has_within : (s : ScopeView) (c : PlaceCounts) (head : HeadTree) → Has s c → AtMost (counts_within (counts_of s.kinds) head) c → Has (scope_within s head) c
has_within s c head h few = record { no_field = within_no_field s head h.no_field; few = subst (λ n. AtMost n c) (sym (within_counted s head)) few }

mutual
  stmt_below : (x : StmtTree) (p : PlanView) (s : ScopeView) (c : PlaceCounts) (at : ℕ) → Has s c → AtMost (most_in (counts_of s.kinds) x) c → stmt_error s at x ≡ None → PlacesBelow c (stmt_code p s x)
  stmt_below (Do a) p s c at h few e = action_below p s c h at a few e
  stmt_below (Headed head b) p s c at h few e =
      let parts = earlier_none (head_error s at head) _ e in
      let within : AtMost (counts_within (counts_of s.kinds) head) c = still (grows_of _ b) few in
      let inner : AtMost (most_of (counts_of (scope_within s head).kinds) b) c = subst (λ n. AtMost (most_of n b) c) (sym (within_counted s head)) few in
      headed_below p s c h at head (block_code p (scope_within s head) b) within parts.0
      (block_below b p (scope_within s head) c (past_head head at) (has_within s c head h within) inner parts.1)
  stmt_below (IfElse t a b) p s c at h few e =
      let parts = earlier_none (expression_error s at t) _ e in
      let blocks = earlier_none (block_error s (past t at) a) _ parts.1 in
      let held = first_at_most (most_of (counts_of s.kinds) a) (most_of (counts_of s.kinds) b) few in
      let failed = second_at_most (most_of (counts_of s.kinds) a) (most_of (counts_of s.kinds) b) few in
      (term_below p s c h at t parts.0, block_below a p s c (past t at) h held blocks.0, block_below b p s c (past_block a (past t at)) h failed blocks.1, tt)

  block_below : (b : BlockTree) (p : PlanView) (s : ScopeView) (c : PlaceCounts) (at : ℕ) → Has s c → AtMost (most_of (counts_of s.kinds) b) c → block_error s at b ≡ None → PlacesBelow c (block_code p s b)
  block_below nothing p s c at h few e = tt
  block_below (first_then x xs) p s c at h few e =
      let parts = earlier_none (stmt_error s at x) _ e in
      let one = first_at_most (most_in (counts_of s.kinds) x) (most_of (counts_after (counts_of s.kinds) x) xs) few in
      let others = second_at_most (most_in (counts_of s.kinds) x) (most_of (counts_after (counts_of s.kinds) x) xs) few in
      let after : AtMost (counts_after (counts_of s.kinds) x) c = still (grows_of _ xs) others in
      let rest : AtMost (most_of (counts_of (scope_after s x).kinds) xs) c = subst (λ n. AtMost (most_of n xs) c) (sym (after_counted s x)) others in
      each_then (OperationBelow c) (TermBelow c) (stmt_code p s x) (block_code p (scope_after s x) xs)
      (stmt_below x p s c at h one parts.0)
      (block_below xs p (scope_after s x) c (past_stmt x at) (has_after s c x h after) rest parts.1)

pub block_places : (p : PlanView) (s : ScopeView) (at : ℕ) (b : BlockTree) → HoldsNoField s → block_error s at b ≡ None → PlacesBelow (most_of (counts_of s.kinds) b) (block_code p s b)
block_places p s at b none e =
    let most = most_of (counts_of s.kinds) b in
    block_below b p s most at (record { no_field = none; few = grows_of (counts_of s.kinds) b }) (same most) e

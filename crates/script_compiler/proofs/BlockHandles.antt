-- A block's code uses handles as they were made.
use Rattle.script_compiler.proofs.Prelude.{◌≡◌, ◌≤◌, ℕ, zero, suc, List, [], ◌∷◌, ◌++◌, Option, Some, None, ap, refl, sym, subst, arith, ◌==◌, cond_both, AwaitedTree, Called, TaskOf, NextOf, WaitTree, ValueTree, Computed, Waited, MakeTree, Spawned, Detached, ActionTree, Let, LetTask, Assign, Await, Makes, Adds, Cancel, Return, Throw, Check, Yield, HeadTree, If, While, Bind, Group, Assume, StmtTree, Do, Headed, IfElse, BlockTree, nothing, first_then, NameKind, place_of, ScopeView, meaning_of, past, past_head, past_stmt, past_block, at_name, number_fault, group_fault, bind_fault, or_else, new_fault, expression_error, awaited_error, wait_error, value_error, action_error, head_error, stmt_error, block_error, scope_after, scope_within, NumberPlace, Variable, Field, Term, Operation, Code, followed, end, act, choice, loop, then_end, PlanView, executor_at, numbers_in, handles_in, handle_place, place_named, lowered, lowered_if, target_of, task_named, wanted_of, wait_to, set_at, value_to, make_to, cancelled_named, action_code, headed_code, stmt_code, block_code, Held, held_after, WantedMatches, CancelledMatches, OperationMatches, HandlesMatch}
use Rattle.script_names.specs.declared.scope.NameKind.TheVariants as kind
use Rattle.script_code.specs.Tree as code
use Rattle.script_compiler.proofs.Clear.{earlier_none, at_name_none, or_else_none, is_group}
use Rattle.script_compiler.proofs.Agreed.{Agrees, one_number, one_handle, one_less, before_statement, holds_named}

-- So it is of up to n statements and tests, from names of these kinds on.
abbrev Fine : ℕ → List NameKind → Code → Type 0
Fine n ks c = (j : ℕ) → j ≤ n → (held : Held) → Agrees held ks → HandlesMatch j held c

-- one list of statements and then two others
join_joined : (a b c : Code) → followed (followed a b) c ≡ followed a (followed b c)
join_joined end b c = refl
join_joined (act d rest) b c = ap (act d) (join_joined rest b c)
join_joined (choice t x y rest) b c = ap (choice t x y) (join_joined rest b c)
join_joined (loop t x rest) b c = ap (loop t x) (join_joined rest b c)

-- a statement, after which names of other kinds stand
operation_first : (d : Operation) (n : ℕ) (ks ks' : List NameKind) (c : Code) → ((held : Held) → Agrees held ks → OperationMatches held d × Agrees (held_after d held) ks') → Fine n ks' c → (j : ℕ) → j ≤ n → (held : Held) → Agrees held ks → HandlesMatch j held (act d c)
operation_first d n ks ks' c one rest zero l held g = tt
operation_first d n ks ks' c one rest (suc j) l held g = ((one held g).0, rest j (omega (arith, l)) (held_after d held) (one held g).1)

choice_first : (t : Term) (a b : Code) (n : ℕ) (ks : List NameKind) (c : Code) → Fine n ks (followed a c) → Fine n ks (followed b c) → (j : ℕ) → j ≤ n → (held : Held) → Agrees held ks → HandlesMatch j held (choice t a b c)
choice_first t a b n ks c h k zero l held g = tt
choice_first t a b n ks c h k (suc j) l held g = (h j (omega (arith, l)) held g, k j (omega (arith, l)) held g)

-- a block that is repeated
loop_first : (t : Term) (a : Code) (n : ℕ) (ks : List NameKind) (c : Code) → ((m : ℕ) (after : Code) → Fine m ks after → Fine m ks (followed a after)) → Fine n ks c → (m : ℕ) → m ≤ n → (j : ℕ) → j ≤ m → (held : Held) → Agrees held ks → HandlesMatch j held (loop t a c)
loop_first t a n ks c inner rest zero small zero l held g = tt
loop_first t a n ks c inner rest zero small (suc j) l held g = absurd (omega (arith, l))
loop_first t a n ks c inner rest (suc m) small zero l held g = tt
loop_first t a n ks c inner rest (suc m) small (suc j) l held g =
    (inner m (loop t a c) (loop_first t a n ks c inner rest m (omega (arith, small))) j (omega (arith, l)) held g, rest j (omega (arith, l, small)) held g)

set_first : (place : NumberPlace) (t : Term) (n : ℕ) (ks : List NameKind) (c : Code) → Fine n ks c → Fine n ks (act (set_at place t) c)
set_first (Variable x) t n ks c rest = operation_first (code.set_variable x t) n ks ks c (λ held g. (tt, g)) rest
set_first (Field p) t n ks c rest = operation_first (code.set_field p t) n ks ks c (λ held g. (tt, g)) rest

task_matches : (held : Held) (s : ScopeView) (name : List ℕ) (o : Option NameKind) → (o ≡ Some kind.Task → held (handle_place s name) ≡ Some kind.Task) → WantedMatches held (task_named s name o)
task_matches held s name None h = tt
task_matches held s name (Some kind.Field) h = tt
task_matches held s name (Some kind.Number) h = tt
task_matches held s name (Some kind.Task) h = h refl
task_matches held s name (Some kind.Group) h = tt

cancelled_matches : (held : Held) (s : ScopeView) (name : List ℕ) (o : Option NameKind) → (o ≡ Some kind.Task → held (handle_place s name) ≡ Some kind.Task) → (o ≡ Some kind.Group → held (handle_place s name) ≡ Some kind.Group) → CancelledMatches held (cancelled_named s name o)
cancelled_matches held s name None h k = tt
cancelled_matches held s name (Some kind.Field) h k = tt
cancelled_matches held s name (Some kind.Number) h k = tt
cancelled_matches held s name (Some kind.Task) h k = h refl
cancelled_matches held s name (Some kind.Group) h k = k refl

wanted_matches : (p : PlanView) (s : ScopeView) (at : ℕ) (w : AwaitedTree) (held : Held) → awaited_error s at w ≡ None → Agrees held s.kinds → WantedMatches held (wanted_of p s w)
wanted_matches p s at (Called x) held e g = tt
wanted_matches p s at (TaskOf n) held e g = task_matches held s n (meaning_of s n) (holds_named held s n kind.Task g refl)
wanted_matches p s at (NextOf n) held e g = holds_named held s n kind.Group g refl (is_group (meaning_of s n) (at_name_none at _ e))

wait_first : (p : PlanView) (s : ScopeView) (at : ℕ) (place : Option NumberPlace) (w : WaitTree) (n : ℕ) (c : Code) → wait_error s at w ≡ None → Fine n s.kinds c → Fine n s.kinds (followed (wait_to p s place w) c)
wait_first p s at place w n c e rest =
    let for = (earlier_none (awaited_error s at w.for) _ e).0 in
    let answer = code.receive place (lowered_if p s w.other) in
    operation_first (code.wait (wanted_of p s w.for)) n s.kinds s.kinds (act answer c) (λ held g. (wanted_matches p s at w.for held for g, g))
    (operation_first answer n s.kinds s.kinds c (λ held g. (tt, g)) rest)

value_first : (p : PlanView) (s : ScopeView) (at : ℕ) (place : NumberPlace) (v : ValueTree) (n : ℕ) (c : Code) → value_error s at v ≡ None → Fine n s.kinds c → Fine n s.kinds (followed (value_to p s place v) c)
value_first p s at place (Computed t) n c e rest = set_first place (lowered p s t) n s.kinds c rest
value_first p s at place (Waited w) n c e rest = wait_first p s at (Some place) w n c e rest

-- a task that is made, and is not kept or is
make_first : (p : PlanView) (s : ScopeView) (m : MakeTree) (n : ℕ) (c : Code) → Fine n s.kinds c → Fine n s.kinds (act (make_to p s None m) c)
make_first p s (Spawned x given) n c rest = operation_first (code.spawn (target_of p s x) given None) n s.kinds s.kinds c (λ held g. (tt, g)) rest
make_first p s (Detached x given) n c rest = operation_first (code.detach (target_of p s x) given None) n s.kinds s.kinds c (λ held g. (tt, g)) rest

keep_first : (p : PlanView) (s : ScopeView) (m : MakeTree) (n : ℕ) (c : Code) → Fine n (s.kinds ++ kind.Task ∷ []) c → Fine n s.kinds (act (make_to p s (Some (handles_in s)) m) c)
keep_first p s (Spawned x given) n c rest = operation_first (code.spawn (target_of p s x) given (Some (handles_in s))) n s.kinds (s.kinds ++ kind.Task ∷ []) c (λ held g. (tt, one_handle held s.kinds kind.Task g)) rest
keep_first p s (Detached x given) n c rest = operation_first (code.detach (target_of p s x) given (Some (handles_in s))) n s.kinds (s.kinds ++ kind.Task ∷ []) c (λ held g. (tt, one_handle held s.kinds kind.Task g)) rest

action_first : (p : PlanView) (s : ScopeView) (at : ℕ) (a : ActionTree) (n : ℕ) (c : Code) → action_error s at a ≡ None → Fine n (scope_after s (Do a)).kinds c → Fine n s.kinds (followed (action_code p s a) c)
action_first p s at (Let name v) n c e rest =
    value_first p s (suc at) (Variable (numbers_in s)) v n c (earlier_none (at_name at (new_fault (meaning_of s name))) _ e).1 (λ j l held g. rest j l held (one_number held s.kinds g))
action_first p s at (LetTask name m) n c e rest = keep_first p s m n c rest
action_first p s at (Assign name v) n c e rest = value_first p s (suc at) (place_named p s name) v n c (earlier_none (at_name at (number_fault (meaning_of s name))) _ e).1 rest
action_first p s at (Await w) n c e rest = wait_first p s at None w n c e rest
action_first p s at (Makes m) n c e rest = make_first p s m n c rest
action_first p s at (Adds a) n c e rest =
    let named = (earlier_none (at_name at (or_else (group_fault (meaning_of s a.group)) (bind_fault s a.group))) _ e).0 in
    let group = is_group (meaning_of s a.group) (or_else_none _ _ (at_name_none at _ named)) in
    operation_first (code.add (handle_place s a.group) a.unless (target_of p s a.call) a.priority) n s.kinds s.kinds c (λ held g. (holds_named held s a.group kind.Group g refl group, g)) rest
action_first p s at (Cancel name) n c e rest =
    operation_first (code.cancel (cancelled_named s name (meaning_of s name))) n s.kinds s.kinds c
    (λ held g. (cancelled_matches held s name (meaning_of s name) (holds_named held s name kind.Task g refl) (holds_named held s name kind.Group g refl), g)) rest
action_first p s at (Return t) n c e rest = operation_first (code.return (lowered p s t)) n s.kinds s.kinds c (λ held g. (tt, g)) rest
action_first p s at (Throw t) n c e rest = operation_first (code.throw (lowered p s t)) n s.kinds s.kinds c (λ held g. (tt, g)) rest
action_first p s at Check n c e rest = operation_first code.check n s.kinds s.kinds c (λ held g. (tt, g)) rest
action_first p s at Yield n c e rest = operation_first code.yield n s.kinds s.kinds c (λ held g. (tt, g)) rest

-- the statements of a block, which may be followed by others
abbrev Inner : List NameKind → Code → Type 0
Inner ks a = (m : ℕ) (after : Code) → Fine m ks after → Fine m ks (followed a after)

headed_first : (p : PlanView) (s : ScopeView) (h : HeadTree) (a : Code) (n : ℕ) (c : Code) → Inner (scope_within s h).kinds a → Fine n s.kinds c → Fine n s.kinds (followed (headed_code p s h a) c)
headed_first p s (If t) a n c inner rest = choice_first (lowered p s t) a end n s.kinds c (inner n c rest) rest
headed_first p s (While t) a n c inner rest = loop_first (lowered p s t) a n s.kinds c inner rest n (omega arith)
headed_first p s (Bind name t) a n c inner rest =
    let whole = inner n (act code.unbind c) (operation_first code.unbind n s.kinds s.kinds c (λ held g. (tt, g)) rest) in
    operation_first (code.bind (place_of p.directory.locals name) (lowered p s t)) n s.kinds s.kinds (followed (followed a (act code.unbind end)) c) (λ held g. (tt, g))
    (subst (Fine n s.kinds) (sym (join_joined a (act code.unbind end) c)) whole)
headed_first p s (Group name) a n c inner rest =
    let ks = s.kinds ++ kind.Group ∷ [] in
    let whole = inner n (act code.close_group c) (operation_first code.close_group n ks s.kinds c (λ held g. (tt, one_less held s.kinds kind.Group g)) rest) in
    operation_first (code.open_group (handles_in s)) n s.kinds ks (followed (followed a (act code.close_group end)) c) (λ held g. (tt, one_handle held s.kinds kind.Group g))
    (subst (Fine n ks) (sym (join_joined a (act code.close_group end) c)) whole)
headed_first p s (Assume name) a n c inner rest =
    cond_both (executor_at p (place_of s.directory.actors name) == executor_at p s.actor) (act code.assume a) (act code.isolated end) (λ x. Fine n s.kinds (followed x c))
    (λ _. operation_first code.assume n s.kinds s.kinds (followed a c) (λ held g. (tt, g)) (inner n c rest))
    (λ _. operation_first code.isolated n s.kinds s.kinds c (λ held g. (tt, g)) rest)

mutual
  stmt_first : (x : StmtTree) (p : PlanView) (s : ScopeView) (at n : ℕ) (c : Code) → stmt_error s at x ≡ None → Fine n (scope_after s x).kinds c → Fine n s.kinds (followed (stmt_code p s x) c)
  stmt_first (Do a) p s at n c e rest = action_first p s at a n c e rest
  stmt_first (Headed head b) p s at n c e rest =
      let body = (earlier_none (head_error s at head) _ e).1 in
      headed_first p s head (block_code p (scope_within s head) b) n c (λ m after k. block_first b p (scope_within s head) (past_head head at) m after body k) rest
  stmt_first (IfElse t a b) p s at n c e rest =
      let blocks = earlier_none (block_error s (past t at) a) _ (earlier_none (expression_error s at t) _ e).1 in
      choice_first (lowered p s t) (block_code p s a) (block_code p s b) n s.kinds c
      (block_first a p s (past t at) n c blocks.0 rest)
      (block_first b p s (past_block a (past t at)) n c blocks.1 rest)

  block_first : (b : BlockTree) (p : PlanView) (s : ScopeView) (at n : ℕ) (c : Code) → block_error s at b ≡ None → Fine n s.kinds c → Fine n s.kinds (followed (block_code p s b) c)
  block_first nothing p s at n c e rest = rest
  block_first (first_then x xs) p s at n c e rest =
      let parts = earlier_none (stmt_error s at x) _ e in
      let after = block_first xs p (scope_after s x) (past_stmt x at) n c parts.1 (λ j l held g. rest j l held (before_statement s x held g)) in
      subst (Fine n s.kinds) (sym (join_joined (stmt_code p s x) (block_code p (scope_after s x) xs) c))
      (stmt_first x p s at n (followed (block_code p (scope_after s x) xs) c) parts.0 after)

nothing_first : (j : ℕ) (held : Held) → HandlesMatch j held end
nothing_first zero held = tt
nothing_first (suc j) held = tt

-- a whole block, where what handles hold agrees with the names that stand
pub block_handles : (b : BlockTree) (p : PlanView) (s : ScopeView) (at : ℕ) (held : Held) (n : ℕ) → block_error s at b ≡ None → Agrees held s.kinds → HandlesMatch n held (block_code p s b)
block_handles b p s at held n e g =
    let alone = block_first b p s at n end e (λ j l now h. nothing_first j now) n (omega arith) held g in
    subst (HandlesMatch n held) (then_end (block_code p s b)) alone

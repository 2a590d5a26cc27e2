-- How much a script that is no larger than its text declares, and how many names stand and how many instructions are written in it.
use Rattle.script_compiler.proofs.Prelude.{◌≡◌, ◌≤◌, ◌<◌, ◌+◌, ◌*◌, ℕ, zero, suc, List, [], ◌∷◌, ◌++◌, length, map, drop, get_or, ap, arith, length-append, Bool, true, false, cond, if◌then◌else◌, count_by, slice_get, unwrap_or, length-map, sum_by-cons, cond_both, BYTES, Stmt, Name, text_of, Computed, Waited, ActionTree, Let, LetTask, Assign, HeadTree, If, While, Bind, Group, Assume, StmtTree, Do, Headed, IfElse, BlockTree, nothing, first_then, block_tree, view_stmt, MethodTree, ActorTree, DeclTree, Executes, Binds, Acts, Roots, stmt_size, block_size, methods_size, actor_size, decl_size, script_size, NameKind, is_among, with_name, method_key, DirectoryView, fields_at, fields_alone, field_names, with_names, with_method, with_methods, with_actor, with_decl, with_decls, nothing_declared, directory_of, ScopeView, with_standing, scope_after, scope_within, with_parameters, Code, act, end, unbind, close_group, assume, isolated, count, count_then, PlanView, is_number, is_handle, action_code, headed_code, stmt_code, block_code, HasFewNames}
use Rattle.script_names.specs.declared.scope.NameKind.TheVariants as kind
use Rattle.script_compiler.proofs.Blocks.{at_item}

pub few_in : (ms : List MethodTree) → length ms ≤ methods_size ms
few_in [] = omega arith
few_in (m ∷ ms) = omega (arith, few_in ms)

-- No more executors, task locals, roots, actors and methods are declared than this, and no actor has more fields.
record AreFew (n : ℕ) (d : DirectoryView) : Type 0 where
  executors : length d.executors ≤ n
  locals : length d.locals ≤ n
  roots : length d.roots ≤ n
  actors : length d.actors ≤ n
  methods : length d.methods ≤ n
  fields : (actor : ℕ) → length (fields_at d actor) ≤ n

wider : (m n : ℕ) (d : DirectoryView) → m ≤ n → AreFew m d → AreFew n d
wider m n d le h = record {
  executors = omega (arith, le, h.executors);
  locals = omega (arith, le, h.locals);
  roots = omega (arith, le, h.roots);
  actors = omega (arith, le, h.actors);
  methods = omega (arith, le, h.methods);
  fields = λ k. let f = h.fields k in omega (arith, le, f);
}

one_name : (names : List (List ℕ)) (name : List ℕ) → length (with_name names name) ≤ length names + 1
one_name names name =
    cond_both (is_among names name) names (names ++ name ∷ []) (λ (xs : List (List ℕ)). length xs ≤ length names + 1) (λ _. omega arith) (λ _. omega (arith, length-append names (name ∷ [])))

some_names : (seen names : List (List ℕ)) → length (with_names seen names) ≤ length seen + length names
some_names seen [] = omega arith
some_names seen (n ∷ ns) = omega (arith, some_names (with_name seen n) ns, one_name seen n)

method_more : (k : ℕ) (m : MethodTree) (n : ℕ) (d : DirectoryView) → AreFew n d → AreFew (suc n) (with_method k m d)
method_more k m n d h =
    let key = method_key k m.name in
    let more = record d { methods = d.methods ++ key ∷ []; params = d.params ++ length m.params ∷ [] } in
    let here = wider n (suc n) d (omega arith) h in
    cond_both (is_among d.methods key) d more (AreFew (suc n)) (λ _. here)
    (λ _. record { executors = here.executors; locals = here.locals; roots = here.roots; actors = here.actors; methods = omega (arith, h.methods, length-append d.methods (key ∷ [])); fields = here.fields })

methods_more : (k : ℕ) (ms : List MethodTree) (n : ℕ) (d : DirectoryView) → AreFew n d → AreFew (n + methods_size ms) (with_methods k ms d)
methods_more k [] n d h = wider n (n + 0) d (omega arith) h
methods_more k (m ∷ ms) n d h =
    wider (suc n + methods_size ms) (n + methods_size (m ∷ ms)) (with_methods k (m ∷ ms) d) (omega arith) (methods_more k ms (suc n) (with_method k m d) (method_more k m n d h))

fields_more : (xs : List (List (List ℕ))) (y : List (List ℕ)) (k n : ℕ) → ((j : ℕ) → length (unwrap_or (slice_get xs j) []) ≤ n) → length y ≤ n → length (unwrap_or (slice_get (xs ++ y ∷ []) k) []) ≤ n
fields_more [] y zero n h l = l
fields_more [] y (suc k) n h l = omega arith
fields_more (x ∷ xs) y zero n h l = h zero
fields_more (x ∷ xs) y (suc k) n h l = fields_more xs y k n (λ j. h (suc j)) l

actor_more : (a : ActorTree) (n : ℕ) (d : DirectoryView) → AreFew n d → AreFew (n + actor_size a) (with_actor a d)
actor_more a n d h =
    let own = with_names [] (field_names a.fields) in
    let alone = record d { actors = d.actors ++ a.name ∷ []; fields = d.fields ++ own ∷ [] } in
    let m = n + suc (length a.fields) in
    let here = wider n m d (omega arith) h in
    let few : length own ≤ m = omega (arith, some_names [] (field_names a.fields), length-map a.fields (λ f. f.name)) in
    let one : AreFew m alone =
    record { executors = here.executors; locals = here.locals; roots = here.roots; actors = omega (arith, h.actors, length-append d.actors (a.name ∷ [])); methods = here.methods; fields = λ k. fields_more d.fields own k m here.fields few } in
    cond_both (is_among d.actors a.name) d (with_methods (length d.actors) a.methods alone) (AreFew (n + actor_size a)) (λ _. wider n (n + actor_size a) d (omega arith) h)
    (λ _. wider (m + methods_size a.methods) (n + actor_size a) (with_methods (length d.actors) a.methods alone) (omega arith) (methods_more (length d.actors) a.methods m alone one))

decl_more : (x : DeclTree) (n : ℕ) (d : DirectoryView) → AreFew n d → AreFew (n + decl_size x) (with_decl x d)
decl_more (Executes x) n d h = let here = wider n (n + 1) d (omega arith) h in record { executors = omega (arith, h.executors, one_name d.executors x.name); locals = here.locals; roots = here.roots; actors = here.actors; methods = here.methods; fields = here.fields }
decl_more (Binds l) n d h = let here = wider n (n + 1) d (omega arith) h in record { executors = here.executors; locals = omega (arith, h.locals, one_name d.locals l.name); roots = here.roots; actors = here.actors; methods = here.methods; fields = here.fields }
decl_more (Acts a) n d h = actor_more a n d h
decl_more (Roots r) n d h = let here = wider n (n + 1) d (omega arith) h in record { executors = here.executors; locals = here.locals; roots = omega (arith, h.roots, one_name d.roots r.name); actors = here.actors; methods = here.methods; fields = here.fields }

decls_more : (xs : List DeclTree) (n : ℕ) (d : DirectoryView) → AreFew n d → AreFew (n + script_size xs) (with_decls xs d)
decls_more [] n d h = wider n (n + 0) d (omega arith) h
decls_more (x ∷ xs) n d h = wider (n + decl_size x + script_size xs) (n + script_size (x ∷ xs)) (with_decls (x ∷ xs) d) (omega arith) (decls_more xs (n + decl_size x) (with_decl x d) (decl_more x n d h))

-- a script declares no more than it is large, whatever its names
pub few_names : (xs : List DeclTree) → script_size xs ≤ BYTES → HasFewNames (directory_of xs)
few_names xs h =
    let none : AreFew 0 nothing_declared = record { executors = omega arith; locals = omega arith; roots = omega arith; actors = omega arith; methods = omega arith; fields = λ k. omega arith } in
    let few = decls_more xs 0 nothing_declared none in
    record { executors = omega (arith, h, few.executors); locals = omega (arith, h, few.locals); roots = omega (arith, h, few.roots); actors = omega (arith, h, few.actors); methods = omega (arith, h, few.methods); fields = λ k. let f = few.fields k in omega (arith, h, f) }

-- a name is a number or a handle, not both
one_at_most : (k : NameKind) → cond (is_number k) 1 0 + cond (is_handle k) 1 0 ≤ 1
one_at_most kind.Field = omega arith
one_at_most kind.Number = omega arith
one_at_most kind.Task = omega arith
one_at_most kind.Group = omega arith

pub counts_fit : (ks : List NameKind) → count_by is_number ks + count_by is_handle ks ≤ length ks
counts_fit [] = omega arith
counts_fit (k ∷ ks) =
    let numbers : count_by is_number (k ∷ ks) ≡ cond (is_number k) 1 0 + count_by is_number ks = sum_by-cons (λ y. cond (is_number y) 1 0) k ks in
    let handles : count_by is_handle (k ∷ ks) ≡ cond (is_handle k) 1 0 + count_by is_handle ks = sum_by-cons (λ y. cond (is_handle y) 1 0) k ks in
    omega (arith, numbers, handles, one_at_most k, counts_fit ks)

-- one name more stands
one_stands : (ks : List NameKind) (k : NameKind) → length (ks ++ k ∷ []) ≡ length ks + 1
one_stands ks k = omega (arith, length-append ks (k ∷ []))

-- a statement makes one name at most
pub after_stands : (s : ScopeView) (x : StmtTree) → length (scope_after s x).kinds ≤ length s.kinds + stmt_size x
after_stands s (Do (Let n v)) = omega (arith, one_stands s.kinds kind.Number)
after_stands s (Do (LetTask n m)) = omega (arith, one_stands s.kinds kind.Task)
after_stands s _ = omega arith

-- a statement is not empty
pub not_empty : (x : StmtTree) → 1 ≤ stmt_size x
not_empty (Do a) = omega arith
not_empty (Headed h b) = omega arith
not_empty (IfElse t a b) = omega arith

-- a statement of a block, and those after it
pub size_next : (block : List Stmt) (i : ℕ) (x : Stmt) → i < length block → x ≡ get_or block i x
    → block_size (block_tree (map view_stmt (drop i block))) ≡ stmt_size (view_stmt x) + block_size (block_tree (map view_stmt (drop (i + 1) block)))
size_next block i x h is = ap block_size (at_item block i x h is)

-- a statement takes two instructions at most, beside those of its blocks
action_takes : (p : PlanView) (s : ScopeView) (a : ActionTree) → count (action_code p s a) ≤ 2
action_takes p s (Let n (Computed e)) = omega arith
action_takes p s (Let n (Waited w)) = omega arith
action_takes p s (Assign n (Computed e)) = omega arith
action_takes p s (Assign n (Waited w)) = omega arith
action_takes p s _ = omega arith

assumed_takes : (b : Bool) (inner : Code) → count (if b then act assume inner else act isolated end) ≤ 2 + count inner
assumed_takes true inner = omega arith
assumed_takes false inner = omega arith

headed_takes : (p : PlanView) (s : ScopeView) (h : HeadTree) (inner : Code) → count (headed_code p s h inner) ≤ 2 + count inner
headed_takes p s (If t) inner = omega arith
headed_takes p s (While t) inner = omega arith
headed_takes p s (Bind n t) inner = omega (arith, count_then inner (act unbind end))
headed_takes p s (Group n) inner = omega (arith, count_then inner (act close_group end))
headed_takes p s (Assume n) inner = assumed_takes _ inner

mutual
  stmt_takes : (p : PlanView) (s : ScopeView) (x : StmtTree) → count (stmt_code p s x) ≤ 2 * stmt_size x
  stmt_takes p s (Do a) = omega (arith, action_takes p s a)
  stmt_takes p s (Headed h b) = omega (arith, headed_takes p s h (block_code p (scope_within s h) b), block_takes p (scope_within s h) b)
  stmt_takes p s (IfElse t a b) = omega (arith, block_takes p s a, block_takes p s b)

  pub block_takes : (p : PlanView) (s : ScopeView) (b : BlockTree) → count (block_code p s b) ≤ 2 * block_size b
  block_takes p s nothing = omega arith
  block_takes p s (first_then x xs) = omega (arith, count_then (stmt_code p s x) (block_code p (scope_after s x) xs), stmt_takes p s x, block_takes p (scope_after s x) xs)

-- the statements from a place on are no larger than the block
pub size_left : (block : List Stmt) (i : ℕ) → block_size (block_tree (map view_stmt (drop i block))) ≤ block_size (block_tree (map view_stmt block))
size_left [] zero = omega arith
size_left [] (suc i) = omega arith
size_left (x ∷ xs) zero = omega arith
size_left (x ∷ xs) (suc i) = omega (arith, size_left xs i)

-- each parameter stands
pub parameters_stand : (s : ScopeView) (names : List (List ℕ)) → length (with_parameters s names).kinds ≡ length s.kinds + length names
parameters_stand s [] = omega arith
parameters_stand s (n ∷ ns) = omega (arith, parameters_stand (with_standing s n kind.Number) ns, one_stands s.kinds kind.Number)

-- where nothing stood but fields, no more than parameters do
pub parameters_alone : (d : DirectoryView) (k : ℕ) (s t : ScopeView) (params : List Name) → s ≡ fields_alone d k → t ≡ with_parameters s (map text_of params) → length t.kinds ≡ length params
parameters_alone d k s t params alone after =
    omega (arith, ap (λ (y : ScopeView). length y.kinds) after, parameters_stand s (map text_of params), ap (λ (y : ScopeView). length y.kinds) alone, length-map params text_of)

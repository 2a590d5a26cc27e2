-- What is read within a limit is within it.
use Rattle.script_printing.proofs.Prelude.{◌≡◌, ℕ, suc, ◌-◌, ◌<◌, List, Option, refl, subst, arith, All, All-nil, All-cons, TokenView, Atoms, Every, Region, ExprTree, CallTree, AwaitedTree, WaitTree, ValueTree, MakeTree, ActionTree, HeadTree, StmtTree, block_tree, MethodTree, DeclTree, SpellsExpr, number, name, local, own_priority, is_cancelled, parenthesis, negated, inverted, alone, chained, compared, IsExpression, Each, no_more, one_more, IsNext, Listed, none_listed, some_listed, IsCall, IsAwaited, a_call, a_task, a_next, IsElse, without_else, with_else, IsWait, IsMake, spawned, detached, IsValue, computed, awaited, SpellsAction, defines, defines_task, assigns, awaits, makes, adds, cancels, returns, throws, checks, yields, SpellsHead, tests, repeats, binds, groups, assumes, SpellsStmt, SpellsBlock, SpellsStmts, does, holds, chooses, braces, none, more, IsInvariant, no_invariant, an_invariant, IsMethodDecl, IsDecl, an_executor, a_local, an_actor, a_root, IsScript, IsLow, IsLowIfAny, AtomsFit, CallFits, AwaitedFits, WaitFits, ValueFits, MakeFits, ActionFits, HeadFits, region_in, StmtFits, BlockFits, MethodFits, InvariantFits, ActorFits, pieces_of_script, declarations_of, script_in}
use Rattle.script_printing.proofs.ByKind.{script_holds, ordered_hold}
use Rattle.script_printing.proofs.SpelledWhole.{DeclFits, declarations}

each_all : {A : Type 0} (Is : List TokenView → A → Type 0) (P : A → Type 0) → ((ts : List TokenView) (x : A) → Is ts x → P x) → {ts : List TokenView} {xs : List A} → Each Is ts xs → All P xs
each_all Is P is no_more = All-nil P
each_all Is P is (one_more {ts} {us} {x} {xs} d ds) = All-cons P x xs (is ts x d) (each_all Is P is ds)

listed_all : {A : Type 0} (Is : List TokenView → A → Type 0) (P : A → Type 0) → ((ts : List TokenView) (x : A) → Is ts x → P x) → {ts : List TokenView} {xs : List A} → Listed Is ts xs → All P xs
listed_all Is P is none_listed = All-nil P
listed_all Is P is (some_listed {ts} {us} {x} {xs} d ds) =
    All-cons P x xs (is ts x d) (each_all (IsNext Is) P (λ vs y e. is e.item y e.is) ds)

-- only atoms that are allowed are spelled
atoms_fit : {atoms : Atoms} {o k : ℕ} {ts : List TokenView} {t : ExprTree} → SpellsExpr atoms o k ts t → AtomsFit atoms t
atoms_fit (number n) = tt
atoms_fit (name n) = tt
atoms_fit (local n e) = e
atoms_fit (own_priority e) = e
atoms_fit (is_cancelled e) = e
atoms_fit (parenthesis d) = atoms_fit d
atoms_fit (negated d) = atoms_fit d
atoms_fit (inverted d) = atoms_fit d
atoms_fit (alone d) = atoms_fit d
atoms_fit (chained q e ne da db) = (atoms_fit da, atoms_fit db)
atoms_fit (compared q e three da db) = (atoms_fit da, atoms_fit db)

call_fits : {limit : ℕ} {ts : List TokenView} {c : CallTree} → IsCall limit ts c → CallFits limit c
call_fits {limit} d = listed_all (IsExpression Every limit (limit - 1)) (IsLow limit) (λ us t e. e.low) d.has_args

awaited_fits : {limit : ℕ} {ts : List TokenView} {a : AwaitedTree} → IsAwaited limit ts a → AwaitedFits limit a
awaited_fits (a_call d) = call_fits d
awaited_fits (a_task n) = tt
awaited_fits (a_next n) = tt

other_fits : {limit : ℕ} {ts : List TokenView} {o : Option ExprTree} → IsElse limit ts o → IsLowIfAny limit o
other_fits without_else = tt
other_fits (with_else d) = d.low

wait_fits : {limit : ℕ} {ts : List TokenView} {w : WaitTree} → IsWait limit ts w → WaitFits limit w
wait_fits d = record { for = awaited_fits d.has_for; other = other_fits d.has_other }

value_fits : {limit : ℕ} {r : Region} {ts : List TokenView} {v : ValueTree} → IsValue limit r ts v → ValueFits limit r v
value_fits (computed d) = d.low
value_fits (awaited e d) = (e, wait_fits d)

make_fits : {limit : ℕ} {ts : List TokenView} {m : MakeTree} → IsMake limit ts m → MakeFits limit m
make_fits (spawned d e) = call_fits d
make_fits (detached d e) = call_fits d

action_fits : {limit : ℕ} {r : Region} {ts : List TokenView} {a : ActionTree} → SpellsAction limit r ts a → ActionFits limit r a
action_fits (defines x d) = value_fits d
action_fits (defines_task x e d) = (e, make_fits d)
action_fits (assigns x d) = value_fits d
action_fits (awaits e d) = (e, wait_fits d)
action_fits (makes e d) = (e, make_fits d)
action_fits (adds e d) = (e, call_fits d.has_call)
action_fits (cancels x e) = e
action_fits (returns e d) = (e, d.low)
action_fits (throws d) = d.low
action_fits checks = tt
action_fits (yields e) = e

head_fits : {limit : ℕ} {r inner : Region} {ts : List TokenView} {h : HeadTree} → SpellsHead limit r ts h inner → HeadFits limit r h × (inner ≡ region_in r h)
head_fits (tests d) = (d.low, refl)
head_fits (repeats d) = (d.low, refl)
head_fits (binds x e d) = ((e, d.low), refl)
head_fits (groups x e) = (e, refl)
head_fits (assumes x) = (tt, refl)

mutual
  stmt_fits : {limit o : ℕ} {r : Region} {ts : List TokenView} {s : StmtTree} → SpellsStmt limit r o ts s → StmtFits limit r o s
  stmt_fits (does d) = action_fits d
  stmt_fits {limit} (holds {o} {ss} d b) =
      ((head_fits d).0, (block_fits b).0, subst (λ q. BlockFits limit q (o - 1) (block_tree ss)) (head_fits d).1 (block_fits b).1)
  stmt_fits (chooses d b c) = (d.low, (block_fits b).0, (block_fits b).1, (block_fits c).1)

  block_fits : {limit o : ℕ} {r : Region} {ts : List TokenView} {ss : List StmtTree} → SpellsBlock limit r o ts ss → (0 < o) × BlockFits limit r (o - 1) (block_tree ss)
  block_fits {limit} (braces {r} {o} {ts} {ss} d) =
      (omega arith, let e : o ≡ suc o - 1 = omega arith in subst (λ n. BlockFits limit r n (block_tree ss)) e (stmts_fit d))

  stmts_fit : {limit o : ℕ} {r : Region} {ts : List TokenView} {ss : List StmtTree} → SpellsStmts limit r o ts ss → BlockFits limit r o (block_tree ss)
  stmts_fit none = tt
  stmts_fit (more d ds) = (stmt_fits d, stmts_fit ds)

invariant_fits : {limit : ℕ} {ts : List TokenView} {o : Option ExprTree} → IsInvariant limit ts o → InvariantFits limit o
invariant_fits no_invariant = tt
invariant_fits (an_invariant d) = (d.low, atoms_fit d.spelled)

method_fits : (limit : ℕ) (ts : List TokenView) (m : MethodTree) → IsMethodDecl limit ts m → MethodFits limit m
method_fits limit ts m d = record { room = (block_fits d.has_body).0; body = (block_fits d.has_body).1 }

decl_fits : (limit : ℕ) (ts : List TokenView) (d : DeclTree) → IsDecl limit ts d → DeclFits limit d
decl_fits limit ts d (an_executor h) = tt
decl_fits limit ts d (a_local h) = tt
decl_fits limit ts d (an_actor h) = record {
  invariant = invariant_fits h.has_invariant;
  methods = each_all (IsMethodDecl limit) (MethodFits limit) (method_fits limit) h.has_methods;
}
decl_fits limit ts d (a_root h) = tt

decls_fit : (limit : ℕ) (ts : List TokenView) (ds : List DeclTree) → IsScript limit ts ds → All (DeclFits limit) ds
decls_fit limit ts ds d = each_all (IsDecl limit) (DeclFits limit) (decl_fits limit) d

-- the actors of a script that is spelled within a limit are within it
pub actors_fit : (limit : ℕ) (ts : List TokenView) (ds : List DeclTree) → IsScript limit ts ds → All (ActorFits limit) (script_in ds).actors
actors_fit limit ts ds d = (script_holds (DeclFits limit) ds (decls_fit limit ts ds d)).actors

-- what is spelled within a limit is spelled within it by its printed form
pub spelled_again : (limit : ℕ) (ts : List TokenView) (ds : List DeclTree) → IsScript limit ts ds → IsScript limit (pieces_of_script (script_in ds)) (declarations_of (script_in ds))
spelled_again limit ts ds d = declarations limit (declarations_of (script_in ds)) (ordered_hold (DeclFits limit) ds (decls_fit limit ts ds d))

-- What is read from a text can be read from its printed form.
use Rattle.script_printing.proofs.Prelude.{ℕ, ℤ, pos, negsuc, neg_ℤ, zero, suc, ◌-◌, Bool, true, false, List, [], ◌∷◌, ◌++◌, Option, Some, None, subst, All, flat_map, All-nil, All-cons, All-head, All-tail, Priority, TokenView, Num, Name, Key, Sign, Lexes, Atoms, Every, Region, ExecutorKind, ExprTree, CallTree, AwaitedTree, WaitTree, ValueTree, MakeTree, AddTree, ActionTree, HeadTree, StmtTree, block_tree, ExecutorTree, LocalTree, FieldTree, MethodTree, ActorTree, RootTree, DeclTree, Executes, Binds, Acts, Roots, mark_of, SpellsExpr, number, name, local, own_priority, is_cancelled, parenthesis, negated, inverted, alone, chained, compared, IsExpression, Each, no_more, one_more, IsNext, Listed, none_listed, some_listed, IsCall, IsAwaited, a_call, a_task, a_next, IsElse, without_else, with_else, IsWait, or_medium, IsMake, spawned, detached, IsAdd, IsValue, computed, awaited, SpellsAction, defines, defines_task, assigns, awaits, makes, adds, cancels, returns, throws, checks, yields, SpellsHead, tests, repeats, binds, groups, assumes, SpellsStmt, SpellsBlock, SpellsStmts, does, holds, chooses, braces, none, more, IsInt, plain, opposite, IsName, IsKind, by_priority, by_age, by_worker, IsExecutorDecl, IsLocal, IsField, IsOn, on_its_own, on_shared, IsInvariant, no_invariant, an_invariant, IsMethodDecl, IsActor, IsStart, IsRoot, IsDecl, an_executor, a_local, an_actor, a_root, IsScript, pieces_of, pieces_of_int, pieces_of_name, after_comma, listed, braced, ended, pieces_of_call, pieces_of_awaited, pieces_of_else, pieces_of_wait, pieces_of_value, pieces_of_priority, pieces_of_given, pieces_of_make, pieces_of_unless, pieces_of_add, pieces_of_action, pieces_of_head, pieces_of_stmt, pieces_of_block, pieces_of_kind, pieces_of_field, pieces_of_on, pieces_of_invariant, pieces_of_method, pieces_of_start, pieces_of_decl, pieces_of_script, IsReadable, declarations_of, script_in}
use Rattle.script_tokens.specs.declared.mark.Mark.TheVariants as mark
use Rattle.script_tokens.specs.declared.keyword.Keyword.TheVariants as key
use Rattle.script_printing.proofs.ByKind.{ordered_hold}
use Rattle.script_printing.proofs.WordsLexAgain.{IsFound, AreFound, lexes_found}

abbrev AreReadable : List TokenView → Type 0
AreReadable [] = Unit {0}
AreReadable (p ∷ ps) = IsReadable p × AreReadable ps

both : (ps qs : List TokenView) → AreReadable ps → AreReadable qs → AreReadable (ps ++ qs)
both [] qs g h = h
both (p ∷ ps) qs g h = (g.0, both ps qs g.1 h)

front : (ts us : List TokenView) → AreFound (ts ++ us) → AreFound ts
front [] us h = tt
front (t ∷ ts) us h = (h.0, front ts us h.1)

back : (ts us : List TokenView) → AreFound (ts ++ us) → AreFound us
back [] us h = h
back (t ∷ ts) us h = back ts us h.1

-- two operands with an operator between them, in a parenthesis
two : (ps qs : List TokenView) (p : TokenView) → IsReadable p → AreReadable ps → AreReadable qs → AreReadable (Sign mark.Open ∷ (ps ++ p ∷ (qs ++ Sign mark.Close ∷ [])))
two ps qs p is g h = (tt, both ps (p ∷ (qs ++ Sign mark.Close ∷ [])) g (is, both qs (Sign mark.Close ∷ []) h (tt, tt)))

expression : {atoms : Atoms} {o k : ℕ} {ts : List TokenView} {t : ExprTree} → SpellsExpr atoms o k ts t → AreFound ts → AreReadable (pieces_of t)
expression (number n) h = h
expression (name n) h = h
expression (local n e) h = (tt, (h.1.0, tt))
expression (own_priority e) h = (tt, tt)
expression (is_cancelled e) h = (tt, tt)
expression (parenthesis {ts} {t} d) h = expression d (front ts (Sign mark.Close ∷ []) h.1)
expression (negated {ts} {t} d) h = (tt, (tt, both (pieces_of t) (Sign mark.Close ∷ []) (expression d h.1) (tt, tt)))
expression (inverted {ts} {t} d) h = (tt, (tt, both (pieces_of t) (Sign mark.Close ∷ []) (expression d h.1) (tt, tt)))
expression (alone d) h = expression d h
expression (chained {ls} {rs} {a} {b} q e ne da db) h = two (pieces_of a) (pieces_of b) (Sign (mark_of q)) tt (expression da (front ls (Sign (mark_of q) ∷ rs) h)) (expression db (back ls (Sign (mark_of q) ∷ rs) h).1)
expression (compared {ls} {rs} {a} {b} q e three da db) h = two (pieces_of a) (pieces_of b) (Sign (mark_of q)) tt (expression da (front ls (Sign (mark_of q) ∷ rs) h)) (expression db (back ls (Sign (mark_of q) ∷ rs) h).1)

each : {A : Type 0} (Is : List TokenView → A → Type 0) (f : A → List TokenView) → ((ts : List TokenView) (x : A) → Is ts x → AreFound ts → AreReadable (f x)) → {ts : List TokenView} {xs : List A} → Each Is ts xs → AreFound ts → All (λ x. AreReadable (f x)) xs
each Is f is no_more h = All-nil (λ x. AreReadable (f x))
each Is f is (one_more {ts} {us} {x} {xs} d ds) h =
    All-cons (λ y. AreReadable (f y)) x xs (is ts x d (front ts us h)) (each Is f is ds (back ts us h))

-- one after the other
together : {A : Type 0} (f : A → List TokenView) (xs : List A) → All (λ x. AreReadable (f x)) xs → AreReadable (flat_map f xs)
together f [] h = tt
together f (x ∷ xs) h =
    both (f x) (flat_map f xs) (All-head (λ y. AreReadable (f y)) x xs h) (together f xs (All-tail (λ y. AreReadable (f y)) x xs h))

list : {A : Type 0} (Is : List TokenView → A → Type 0) (f : A → List TokenView) → ((ts : List TokenView) (x : A) → Is ts x → AreFound ts → AreReadable (f x)) → {ts : List TokenView} {xs : List A} → Listed Is ts xs → AreFound ts → AreReadable (listed f xs)
list Is f is none_listed h = tt
list Is f is (some_listed {ts} {us} {x} {xs} d ds) h =
    both (f x) (flat_map (after_comma f) xs) (is ts x d (front ts us h)) (together (after_comma f) xs (each (IsNext Is) (after_comma f) (λ vs y e g. (tt, is e.item y e.is (subst AreFound e.all g).1)) ds (back ts us h)))

call : {limit : ℕ} {ts : List TokenView} {c : CallTree} → IsCall limit ts c → AreFound ts → AreReadable (pieces_of_call c)
call {limit} {ts} {c} d h =
    let close : List TokenView = Sign mark.Close ∷ [] in
    let g : AreFound (Name c.actor ∷ Sign mark.Dot ∷ Name c.method ∷ Sign mark.Open ∷ (d.args ++ close)) = subst AreFound d.all h in
    (g.0, (tt, (g.1.1.0, (tt, both (listed pieces_of c.args) close (list (IsExpression Every limit (limit - 1)) pieces_of (λ us t e f. expression e.spelled f) d.has_args (front d.args close g.1.1.1.1)) (tt, tt)))))

awaited_part : {limit : ℕ} {ts : List TokenView} {a : AwaitedTree} → IsAwaited limit ts a → AreFound ts → AreReadable (pieces_of_awaited a)
awaited_part (a_call d) h = call d h
awaited_part (a_task n) h = (tt, (h.1.0, tt))
awaited_part (a_next n) h = (tt, (h.1.0, tt))

other : {limit : ℕ} {ts : List TokenView} {o : Option ExprTree} → IsElse limit ts o → AreFound ts → AreReadable (pieces_of_else o)
other without_else h = tt
other (with_else d) h = (tt, expression d.spelled h.1)

wait : {limit : ℕ} {ts : List TokenView} {w : WaitTree} → IsWait limit ts w → AreFound ts → AreReadable (pieces_of_wait w)
wait {limit} {ts} {w} d h =
    let g : AreFound (d.for ++ d.other) = subst AreFound d.all h in
    both (pieces_of_awaited w.for) (pieces_of_else w.other) (awaited_part d.has_for (front d.for d.other g)) (other d.has_other (back d.for d.other g))

value : {limit : ℕ} {r : Region} {ts : List TokenView} {v : ValueTree} → IsValue limit r ts v → AreFound ts → AreReadable (pieces_of_value v)
value (computed d) h = expression d.spelled h
value (awaited e d) h = (tt, wait d h.1)

given_part : (p : Option Priority) → AreReadable (pieces_of_given p)
given_part None = tt
given_part (Some p) = (tt, (tt, tt))

make : {limit : ℕ} {ts : List TokenView} {m : MakeTree} → IsMake limit ts m → AreFound ts → AreReadable (pieces_of_make m)
make (spawned {ts} {us} {c} {p} d e) h = (tt, both (pieces_of_call c) (pieces_of_given p) (call d (front ts us h.1)) (given_part p))
make (detached {ts} {us} {c} {p} d e) h = (tt, both (pieces_of_call c) (pieces_of_priority (or_medium p)) (call d (front ts us h.1)) (tt, (tt, tt)))

unless_part : (u : Bool) → AreReadable (pieces_of_unless u)
unless_part false = tt
unless_part true = (tt, tt)

add : {limit : ℕ} {ts : List TokenView} {a : AddTree} → IsAdd limit ts a → AreFound ts → AreReadable (pieces_of_add a)
add {limit} {ts} {a} d h =
    let g : AreFound (Name a.group ∷ (d.unless ++ (d.call ++ d.priority))) = subst AreFound d.all h in
    (g.0, both (pieces_of_unless a.unless) (pieces_of_call a.call ++ pieces_of_given a.priority) (unless_part a.unless) (both (pieces_of_call a.call) (pieces_of_given a.priority) (call d.has_call (front d.call d.priority (back d.unless (d.call ++ d.priority) g.1))) (given_part a.priority)))

-- with a semicolon after it
closed : (ps : List TokenView) → AreReadable ps → AreReadable (ended ps)
closed ps h = both ps (Sign mark.Semicolon ∷ []) h (tt, tt)

open_part : (ts : List TokenView) → AreFound (ended ts) → AreFound ts
open_part ts h = front ts (Sign mark.Semicolon ∷ []) h

action : {limit : ℕ} {r : Region} {ts : List TokenView} {a : ActionTree} → SpellsAction limit r ts a → AreFound ts → AreReadable (ended (pieces_of_action a))
action (defines x {ts} {v} d) h = (tt, (h.1.0, (tt, closed (pieces_of_value v) (value d (open_part ts h.1.1.1)))))
action (defines_task x {ts} {m} e d) h = (tt, (h.1.0, (tt, closed (pieces_of_make m) (make d (open_part ts h.1.1.1)))))
action (assigns x {ts} {v} d) h = (h.0, (tt, closed (pieces_of_value v) (value d (open_part ts h.1.1))))
action (awaits {ts} {w} e d) h = (tt, closed (pieces_of_wait w) (wait d (open_part ts h.1)))
action (makes {ts} {m} e d) h = closed (pieces_of_make m) (make d (open_part ts h))
action (adds {ts} {a} e d) h = (tt, closed (pieces_of_add a) (add d (open_part ts h.1)))
action (cancels x e) h = (tt, (h.1.0, (tt, tt)))
action (returns {ts} {t} e d) h = (tt, closed (pieces_of t) (expression d.spelled (open_part ts h.1)))
action (throws {ts} {t} d) h = (tt, closed (pieces_of t) (expression d.spelled (open_part ts h.1)))
action checks h = (tt, (tt, tt))
action (yields e) h = (tt, (tt, tt))

head : {limit : ℕ} {r inner : Region} {ts : List TokenView} {d : HeadTree} → SpellsHead limit r ts d inner → AreFound ts → AreReadable (pieces_of_head d)
head (tests d) h = (tt, expression d.spelled h.1)
head (repeats d) h = (tt, expression d.spelled h.1)
head (binds x e d) h = (tt, (h.1.0, (tt, expression d.spelled h.1.1.1)))
head (groups x e) h = (tt, (h.1.0, tt))
head (assumes x) h = (tt, (h.1.0, tt))

mutual
  statement : {limit o : ℕ} {r : Region} {ts : List TokenView} {s : StmtTree} → SpellsStmt limit r o ts s → AreFound ts → AreReadable (pieces_of_stmt s)
  statement (does d) g = action d g
  statement (holds {ts} {us} {h} {ss} d b) g =
      both (pieces_of_head h) (braced (pieces_of_block (block_tree ss))) (head d (front ts us g)) (block b (back ts us g))
  statement (chooses {ts} {us} {vs} {t} {ss} {rs} d b c) g =
      let held = braced (pieces_of_block (block_tree ss)) in
      let failed : List TokenView = Key key.Else ∷ braced (pieces_of_block (block_tree rs)) in
      let blocks = back ts (us ++ Key key.Else ∷ vs) g.1 in
      (tt, both (pieces_of t) (held ++ failed) (expression d.spelled (front ts (us ++ Key key.Else ∷ vs) g.1)) (both held failed (block b (front us (Key key.Else ∷ vs) blocks)) (tt, block c (back us (Key key.Else ∷ vs) blocks).1)))

  block : {limit o : ℕ} {r : Region} {ts : List TokenView} {ss : List StmtTree} → SpellsBlock limit r o ts ss → AreFound ts → AreReadable (braced (pieces_of_block (block_tree ss)))
  block (braces {ts} {ss} d) g =
      (tt, both (pieces_of_block (block_tree ss)) (Sign mark.CloseBrace ∷ []) (statements d (front ts (Sign mark.CloseBrace ∷ []) g.1)) (tt, tt))

  statements : {limit o : ℕ} {r : Region} {ts : List TokenView} {ss : List StmtTree} → SpellsStmts limit r o ts ss → AreFound ts → AreReadable (pieces_of_block (block_tree ss))
  statements none g = tt
  statements (more {ts} {us} {s} {ss} d ds) g =
      both (pieces_of_stmt s) (pieces_of_block (block_tree ss)) (statement d (front ts us g)) (statements ds (back ts us g))

-- the opposite of a number that was read
opposite_again : (v : ℤ) → IsFound (Num v) → AreReadable (pieces_of_int (neg_ℤ v))
opposite_again (pos zero) h = (h, tt)
opposite_again (pos (suc n)) h = (tt, (h, tt))
opposite_again (negsuc n) h = absurd h

int : (ts : List TokenView) (n : ℤ) → IsInt ts n → AreFound ts → AreReadable (pieces_of_int n)
int ts n (plain (pos v)) h = h
int ts n (plain (negsuc v)) h = absurd h.0
int ts n (opposite v ne) h = opposite_again v h.1.0

a_name : (ts : List TokenView) (w : List ℕ) → IsName ts w → AreFound ts → AreReadable (pieces_of_name w)
a_name ts w e h = let g : AreFound (Name w ∷ []) = subst AreFound e h in (g.0, tt)

kind_part : {ts : List TokenView} {k : ExecutorKind} → IsKind ts k → AreFound ts → AreReadable (pieces_of_kind k)
kind_part by_priority h = (tt, tt)
kind_part by_age h = (tt, tt)
kind_part (by_worker v) h = (tt, (h.1.0, tt))

executor : (ts : List TokenView) (x : ExecutorTree) → IsExecutorDecl ts x → AreFound ts → AreReadable (pieces_of_decl (Executes x))
executor ts x d h =
    let g : AreFound (Key key.Executor ∷ Name x.name ∷ ended d.kind) = subst AreFound d.all h in
    (tt, (g.1.0, closed (pieces_of_kind x.kind) (kind_part d.has_kind (open_part d.kind g.1.1))))

local_part : (ts : List TokenView) (l : LocalTree) → IsLocal ts l → AreFound ts → AreReadable (pieces_of_decl (Binds l))
local_part ts l d h =
    let g : AreFound (Key key.Local ∷ Name l.name ∷ Sign mark.Assign ∷ ended d.default) = subst AreFound d.all h in
    (tt, (g.1.0, (tt, closed (pieces_of_int l.default) (int d.default l.default d.has_default (open_part d.default g.1.1.1)))))

field : (ts : List TokenView) (f : FieldTree) → IsField ts f → AreFound ts → AreReadable (pieces_of_field f)
field ts f d h =
    let g : AreFound (Key key.Var ∷ Name f.name ∷ Sign mark.Assign ∷ ended d.start) = subst AreFound d.all h in
    (tt, (g.1.0, (tt, closed (pieces_of_int f.start) (int d.start f.start d.has_start (open_part d.start g.1.1.1)))))

on_part : {ts : List TokenView} {o : Option (List ℕ)} → IsOn ts o → AreFound ts → AreReadable (pieces_of_on o)
on_part on_its_own h = tt
on_part (on_shared n) h = (tt, (h.1.0, tt))

invariant : {limit : ℕ} {ts : List TokenView} {o : Option ExprTree} → IsInvariant limit ts o → AreFound ts → AreReadable (pieces_of_invariant o)
invariant no_invariant h = tt
invariant (an_invariant {ts} {t} d) h = (tt, closed (pieces_of t) (expression d.spelled (open_part ts h.1)))

method : (limit : ℕ) (ts : List TokenView) (m : MethodTree) → IsMethodDecl limit ts m → AreFound ts → AreReadable (pieces_of_method m)
method limit ts m d h =
    let g : AreFound (Key key.Func ∷ Name m.name ∷ Sign mark.Open ∷ (d.params ++ Sign mark.Close ∷ d.body)) = subst AreFound d.all h in
    (tt, (g.1.0, (tt, both (listed pieces_of_name m.params) (Sign mark.Close ∷ braced (pieces_of_block (block_tree m.body))) (list IsName pieces_of_name a_name d.has_params (front d.params (Sign mark.Close ∷ d.body) g.1.1.1)) (tt, block d.has_body (back d.params (Sign mark.Close ∷ d.body) g.1.1.1).1))))

actor : (limit : ℕ) (ts : List TokenView) (a : ActorTree) → IsActor limit ts a → AreFound ts → AreReadable (pieces_of_decl (Acts a))
actor limit ts a d h =
    let close : List TokenView = Sign mark.CloseBrace ∷ [] in
    let shared = pieces_of_on a.executor in
    let fields = flat_map pieces_of_field a.fields in
    let test = pieces_of_invariant a.invariant in
    let methods = flat_map pieces_of_method a.methods in
    let from_test : List TokenView = d.invariant ++ (d.methods ++ close) in
    let g : AreFound (Key key.Actor ∷ Name a.name ∷ (d.on ++ Sign mark.OpenBrace ∷ (d.fields ++ from_test))) = subst AreFound d.all h in
    let inside = (back d.on (Sign mark.OpenBrace ∷ (d.fields ++ from_test)) g.1.1).1 in
    let rest = back d.fields from_test inside in
    let fields_readable = together pieces_of_field a.fields (each IsField pieces_of_field field d.has_fields (front d.fields from_test inside)) in
    let test_readable = invariant d.has_invariant (front d.invariant (d.methods ++ close) rest) in
    let methods_readable = together pieces_of_method a.methods (each (IsMethodDecl limit) pieces_of_method (method limit) d.has_methods (front d.methods close (back d.invariant (d.methods ++ close) rest))) in
    (tt, (g.1.0, both shared (braced (fields ++ (test ++ methods))) (on_part d.has_executor (front d.on (Sign mark.OpenBrace ∷ (d.fields ++ from_test)) g.1.1)) (tt, both (fields ++ (test ++ methods)) close (both fields (test ++ methods) fields_readable (both test methods test_readable methods_readable)) (tt, tt))))

start : {ts : List TokenView} {r : RootTree} → IsStart ts r → AreFound ts → AreReadable (pieces_of_start r)
start {ts} {r} d h =
    let close : List TokenView = Sign mark.Close ∷ [] in
    let g : AreFound (Name r.actor ∷ Sign mark.Dot ∷ Name r.method ∷ Sign mark.Open ∷ (d.args ++ close)) = subst AreFound d.all h in
    (g.0, (tt, (g.1.1.0, (tt, both (listed pieces_of_int r.args) close (list IsInt pieces_of_int int d.has_args (front d.args close g.1.1.1.1)) (tt, tt)))))

root : (ts : List TokenView) (r : RootTree) → IsRoot ts r → AreFound ts → AreReadable (pieces_of_decl (Roots r))
root ts r d h =
    let g : AreFound (Key key.Root ∷ Name r.name ∷ Sign mark.Assign ∷ (d.start ++ ended d.at)) = subst AreFound d.all h in
    (tt, (g.1.0, (tt, both (pieces_of_start r) (ended (pieces_of_priority r.priority)) (start d.has_start (front d.start (ended d.at) g.1.1.1)) (tt, (tt, (tt, tt))))))

decl : (limit : ℕ) (ts : List TokenView) (d : DeclTree) → IsDecl limit ts d → AreFound ts → AreReadable (pieces_of_decl d)
decl limit ts d (an_executor {x} e) h = executor ts x e h
decl limit ts d (a_local {l} e) h = local_part ts l e h
decl limit ts d (an_actor {a} e) h = actor limit ts a e h
decl limit ts d (a_root {r} e) h = root ts r e h

all_readable : (ps : List TokenView) → AreReadable ps → All IsReadable ps
all_readable [] h = All-nil IsReadable
all_readable (p ∷ ps) h = All-cons IsReadable p ps h.0 (all_readable ps h.1)

-- what a text spells is printed as tokens that can be read
pub readable_again : (limit : ℕ) (bytes : List ℕ) (ts : List TokenView) (ds : List DeclTree) → Lexes bytes ts → IsScript limit ts ds → All IsReadable (pieces_of_script (script_in ds))
readable_again limit bytes ts ds l d =
    let h : All (λ x. AreReadable (pieces_of_decl x)) ds = each (IsDecl limit) pieces_of_decl (decl limit) d (lexes_found l) in
    all_readable (pieces_of_script (script_in ds)) (together pieces_of_decl (declarations_of (script_in ds)) (ordered_hold (λ x. AreReadable (pieces_of_decl x)) ds h))

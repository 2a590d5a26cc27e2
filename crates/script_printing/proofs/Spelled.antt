-- The printed form spells the expressions and the statements that it prints.
use Rattle.script_printing.proofs.Prelude.{◌≡◌, ℕ, zero, suc, ◌-◌, ◌<◌, ◌≤◌, true, false, Bool, List, [], ◌∷◌, ◌++◌, Option, Some, None, refl, ap, subst, append_assoc, arith, All, flat_map, All-head, All-tail, Priority, Background, Low, Medium, High, TokenView, Sign, Atoms, Every, Region, ExprTree, Number, Named, Local, OwnPriority, IsCancelled, Negated, Inverted, Both, height_of, CallTree, AwaitedTree, Called, TaskOf, NextOf, WaitTree, ValueTree, Computed, Waited, MakeTree, Spawned, Detached, AddTree, ActionTree, Let, LetTask, Assign, Await, Makes, Adds, Cancel, Return, Throw, Check, Yield, HeadTree, If, While, Bind, Group, Assume, StmtTree, Do, Headed, IfElse, BlockTree, nothing, first_then, block_tree, mark_of, SpellsExpr, number, name, local, own_priority, is_cancelled, parenthesis, negated, inverted, alone, chained, compared, IsExpression, Each, no_more, one_more, IsNext, Listed, none_listed, some_listed, IsCall, IsAwaited, a_call, a_task, a_next, IsElse, without_else, with_else, IsWait, IsPriorityGiven, not_given, given, IsMake, spawned, detached, IsUnless, always, unless, IsAdd, IsValue, computed, awaited, SpellsAction, defines, defines_task, assigns, awaits, makes, adds, cancels, returns, throws, checks, yields, SpellsHead, tests, repeats, binds, groups, assumes, SpellsStmt, SpellsBlock, SpellsStmts, does, holds, chooses, braces, none, more, pieces_of, after_comma, listed, braced, ended, pieces_of_call, pieces_of_awaited, pieces_of_else, pieces_of_wait, pieces_of_value, pieces_of_priority, pieces_of_given, pieces_of_make, pieces_of_unless, pieces_of_add, pieces_of_action, pieces_of_head, pieces_of_stmt, pieces_of_block, IsLow, IsLowIfAny, AtomsFit, CallFits, AwaitedFits, WaitFits, ValueFits, MakeFits, ActionFits, HeadFits, region_in, StmtFits, BlockFits}
use Rattle.swift_types.specs.declared.operator.Operator.{Operator}
use Rattle.swift_types.specs.declared.operator.Operator.TheVariants as op
use Rattle.script_tokens.specs.declared.keyword.Keyword.TheVariants as key
use Rattle.script_tokens.specs.declared.mark.Mark.TheVariants as mark
use Rattle.script_grammar.specs.declared.region.Region.TheVariants as region

-- an atom is an expression of each level
at_level : {atoms : Atoms} {o : ℕ} {ts : List TokenView} {t : ExprTree} (k : ℕ) → SpellsExpr atoms o zero ts t → SpellsExpr atoms o k ts t
at_level zero d = d
at_level (suc k) d = alone (at_level k d)

-- two atoms with an operator between them
between : {atoms : Atoms} {o : ℕ} {ls rs : List TokenView} {a b : ExprTree} (q : Operator) → SpellsExpr atoms o zero ls a → SpellsExpr atoms o zero rs b → SpellsExpr atoms o 5 (ls ++ Sign (mark_of q) ∷ rs) (Both q a b)
between op.Or d e = chained {k = 4} op.Or refl (λ x. absurd (omega (arith, x))) (at_level 5 d) (at_level 4 e)
between op.And d e = alone (chained {k = 3} op.And refl (λ x. absurd (omega (arith, x))) (at_level 4 d) (at_level 3 e))
between op.Equal d e = alone (alone (compared {k = 2} op.Equal refl refl (at_level 2 d) (at_level 2 e)))
between op.Unequal d e = alone (alone (compared {k = 2} op.Unequal refl refl (at_level 2 d) (at_level 2 e)))
between op.Less d e = alone (alone (compared {k = 2} op.Less refl refl (at_level 2 d) (at_level 2 e)))
between op.AtMost d e = alone (alone (compared {k = 2} op.AtMost refl refl (at_level 2 d) (at_level 2 e)))
between op.Greater d e = alone (alone (compared {k = 2} op.Greater refl refl (at_level 2 d) (at_level 2 e)))
between op.AtLeast d e = alone (alone (compared {k = 2} op.AtLeast refl refl (at_level 2 d) (at_level 2 e)))
between op.Plus d e = alone (alone (alone (chained {k = 1} op.Plus refl (λ x. absurd (omega (arith, x))) (at_level 2 d) (at_level 1 e))))
between op.Minus d e = alone (alone (alone (chained {k = 1} op.Minus refl (λ x. absurd (omega (arith, x))) (at_level 2 d) (at_level 1 e))))
between op.Times d e = alone (alone (alone (alone (chained {k = 0} op.Times refl (λ x. absurd (omega (arith, x))) (at_level 1 d) e))))

high : (t : ExprTree) → 0 < height_of t
high (Number n) = omega arith
high (Named w) = omega arith
high (Local w) = omega arith
high OwnPriority = omega arith
high IsCancelled = omega arith
high (Negated a) = omega arith
high (Inverted a) = omega arith
high (Both q a b) = omega arith

-- the printed form of an expression is an atom, with one parenthesis fewer than its height
atom : (atoms : Atoms) (o : ℕ) (t : ExprTree) → AtomsFit atoms t → height_of t ≤ suc o → SpellsExpr atoms o zero (pieces_of t) t
atom atoms o (Number n) fit h = number n
atom atoms o (Named w) fit h = name w
atom atoms o (Local w) fit h = local w fit
atom atoms o OwnPriority fit h = own_priority fit
atom atoms o IsCancelled fit h = is_cancelled fit
atom atoms zero (Negated a) fit h = absurd (omega (arith, high a))
atom atoms (suc o) (Negated a) fit h = parenthesis (at_level 5 (negated (atom atoms o a fit (omega arith))))
atom atoms zero (Inverted a) fit h = absurd (omega (arith, high a))
atom atoms (suc o) (Inverted a) fit h = parenthesis (at_level 5 (inverted (atom atoms o a fit (omega arith))))
atom atoms zero (Both q a b) fit h = absurd (omega (arith, high a))
atom atoms (suc o) (Both q a b) fit h =
    subst (λ ts. SpellsExpr atoms (suc o) zero (Sign mark.Open ∷ ts) (Both q a b)) (append_assoc (pieces_of a) (Sign (mark_of q) ∷ pieces_of b) (Sign mark.Close ∷ [])) (parenthesis (between q (atom atoms o a fit.0 (omega arith)) (atom atoms o b fit.1 (omega arith))))

-- each atom is allowed where every one is
every : (t : ExprTree) → AtomsFit Every t
every (Number n) = tt
every (Named w) = tt
every (Local w) = refl
every OwnPriority = refl
every IsCancelled = refl
every (Negated a) = every a
every (Inverted a) = every a
every (Both q a b) = (every a, every b)

pub expression_with : (atoms : Atoms) (limit opens : ℕ) (t : ExprTree) → AtomsFit atoms t → IsLow limit t → limit ≤ suc opens → IsExpression atoms limit opens (pieces_of t) t
expression_with atoms limit opens t fit h le = record { spelled = at_level 5 (atom atoms opens t fit (omega arith)); low = h }

-- an expression in which each atom is allowed
expression : (limit : ℕ) (t : ExprTree) → IsLow limit t → IsExpression Every limit limit (pieces_of t) t
expression limit t h = expression_with Every limit limit t (every t) h (omega arith)

-- a list of parts, one after the other
pub each_of : {A : Type 0} (Is : List TokenView → A → Type 0) (f : A → List TokenView) (P : A → Type 0) → ((x : A) → P x → Is (f x) x) → (xs : List A) → All P xs → Each Is (flat_map f xs) xs
each_of Is f P is [] h = no_more
each_of Is f P is (x ∷ xs) h = one_more (is x (All-head P x xs h)) (each_of Is f P is xs (All-tail P x xs h))

-- a list with commas
pub listed_of : {A : Type 0} (Is : List TokenView → A → Type 0) (f : A → List TokenView) (P : A → Type 0) → ((x : A) → P x → Is (f x) x) → (xs : List A) → All P xs → Listed Is (listed f xs) xs
listed_of Is f P is [] h = none_listed
listed_of Is f P is (x ∷ xs) h =
    some_listed (is x (All-head P x xs h)) (each_of (IsNext Is) (after_comma f) P (λ y p. record { item = f y; is = is y p; all = refl }) xs (All-tail P x xs h))

call : (limit : ℕ) (c : CallTree) → CallFits limit c → IsCall limit (pieces_of_call c) c
call limit c h = record {
  args = listed pieces_of c.args;
  has_args = listed_of (IsExpression Every limit (limit - 1)) pieces_of (IsLow limit) (λ t low. expression_with Every limit (limit - 1) t (every t) low (omega arith)) c.args h;
  all = refl;
}

awaited_of : (limit : ℕ) (a : AwaitedTree) → AwaitedFits limit a → IsAwaited limit (pieces_of_awaited a) a
awaited_of limit (Called c) h = a_call (call limit c h)
awaited_of limit (TaskOf w) h = a_task w
awaited_of limit (NextOf w) h = a_next w

other_of : (limit : ℕ) (o : Option ExprTree) → IsLowIfAny limit o → IsElse limit (pieces_of_else o) o
other_of limit None h = without_else
other_of limit (Some t) h = with_else (expression limit t h)

wait : (limit : ℕ) (w : WaitTree) → WaitFits limit w → IsWait limit (pieces_of_wait w) w
wait limit w h = record {
  for = pieces_of_awaited w.for;
  other = pieces_of_else w.other;
  has_for = awaited_of limit w.for h.for;
  has_other = other_of limit w.other h.other;
  all = refl;
}

value : (limit : ℕ) (r : Region) (v : ValueTree) → ValueFits limit r v → IsValue limit r (pieces_of_value v) v
value limit r (Computed t) h = computed (expression limit t h)
value limit r (Waited w) h = awaited h.0 (wait limit w h.1)

pub priority : (p : Priority) → IsPriorityGiven (pieces_of_priority p) (Some p)
priority Background = given key.Background Background refl
priority Low = given key.Low Low refl
priority Medium = given key.Medium Medium refl
priority High = given key.High High refl

priority_if : (p : Option Priority) → IsPriorityGiven (pieces_of_given p) p
priority_if None = not_given
priority_if (Some p) = priority p

make : (limit : ℕ) (m : MakeTree) → MakeFits limit m → IsMake limit (pieces_of_make m) m
make limit (Spawned c p) h = spawned (call limit c h) (priority_if p)
make limit (Detached c p) h = detached (call limit c h) (priority p)

unless_if : (u : Bool) → IsUnless (pieces_of_unless u) u
unless_if false = always
unless_if true = unless

add : (limit : ℕ) (a : AddTree) → CallFits limit a.call → IsAdd limit (pieces_of_add a) a
add limit a h = record {
  unless = pieces_of_unless a.unless;
  call = pieces_of_call a.call;
  priority = pieces_of_given a.priority;
  has_unless = unless_if a.unless;
  has_call = call limit a.call h;
  has_priority = priority_if a.priority;
  all = refl;
}

action : (limit : ℕ) (r : Region) (a : ActionTree) → ActionFits limit r a → SpellsAction limit r (ended (pieces_of_action a)) a
action limit r (Let x v) h = defines x (value limit r v h)
action limit r (LetTask x m) h = defines_task x h.0 (make limit m h.1)
action limit r (Assign x v) h = assigns x (value limit r v h)
action limit r (Await w) h = awaits h.0 (wait limit w h.1)
action limit r (Makes m) h = makes h.0 (make limit m h.1)
action limit r (Adds a) h = adds h.0 (add limit a h.1)
action limit r (Cancel x) h = cancels x h
action limit r (Return t) h = returns h.0 (expression limit t h.1)
action limit r (Throw t) h = throws (expression limit t h)
action limit r Check h = checks
action limit r Yield h = yields h

head : (limit : ℕ) (r : Region) (h : HeadTree) → HeadFits limit r h → SpellsHead limit r (pieces_of_head h) h (region_in r h)
head limit r (If t) h = tests (expression limit t h)
head limit r (While t) h = repeats (expression limit t h)
head limit r (Bind l t) h = binds l h.0 (expression limit t h.1)
head limit r (Group n) h = groups n h
head limit r (Assume n) h = assumes n

-- the statements of a block
abbrev pub list_of : BlockTree → List StmtTree
list_of nothing = []
list_of (first_then s ss) = s ∷ list_of ss

block_tree-list_of : (ss : BlockTree) → block_tree (list_of ss) ≡ ss
block_tree-list_of nothing = refl
block_tree-list_of (first_then s ss) = ap (first_then s) (block_tree-list_of ss)

list_of-block_tree : (ss : List StmtTree) → list_of (block_tree ss) ≡ ss
list_of-block_tree [] = refl
list_of-block_tree (s ∷ ss) = ap (λ rest. s ∷ rest) (list_of-block_tree ss)

-- a block, where one may be opened
block : (limit : ℕ) (r : Region) (blocks : ℕ) (ts : List TokenView) (ss : List StmtTree) → 0 < blocks → SpellsStmts limit r (blocks - 1) ts ss → SpellsBlock limit r blocks (braced ts) ss
block limit r zero ts ss room d = absurd (omega arith)
block limit r (suc o) ts ss room d = braces (let e : suc o - 1 ≡ o = omega arith in subst (λ n. SpellsStmts limit r n ts ss) e d)

mutual
  statement : (limit : ℕ) (r : Region) (blocks : ℕ) (s : StmtTree) → StmtFits limit r blocks s → SpellsStmt limit r blocks (pieces_of_stmt s) s
  statement limit r blocks (Do a) h = does (action limit r a h)
  statement limit r blocks (Headed d ss) h =
      subst (λ rs. SpellsStmt limit r blocks (pieces_of_stmt (Headed d ss)) (Headed d rs)) (block_tree-list_of ss) (holds (head limit r d h.0) (block limit (region_in r d) blocks (pieces_of_block ss) (list_of ss) h.1 (statements limit (region_in r d) (blocks - 1) ss h.2)))
  statement limit r blocks (IfElse t ss rs) h =
      subst (λ us. SpellsStmt limit r blocks (pieces_of_stmt (IfElse t ss rs)) (IfElse t us rs)) (block_tree-list_of ss) (subst (λ us. SpellsStmt limit r blocks (pieces_of_stmt (IfElse t ss rs)) (IfElse t (block_tree (list_of ss)) us)) (block_tree-list_of rs) (chooses (expression limit t h.0) (block limit r blocks (pieces_of_block ss) (list_of ss) h.1 (statements limit r (blocks - 1) ss h.2)) (block limit r blocks (pieces_of_block rs) (list_of rs) h.1 (statements limit r (blocks - 1) rs h.3))))

  statements : (limit : ℕ) (r : Region) (blocks : ℕ) (ss : BlockTree) → BlockFits limit r blocks ss → SpellsStmts limit r blocks (pieces_of_block ss) (list_of ss)
  statements limit r blocks nothing h = none
  statements limit r blocks (first_then s ss) h = more (statement limit r blocks s h.0) (statements limit r blocks ss h.1)

-- the block of a method
pub body : (limit : ℕ) (ss : List StmtTree) → 0 < limit → BlockFits limit region.Method (limit - 1) (block_tree ss) → SpellsBlock limit region.Method limit (braced (pieces_of_block (block_tree ss))) ss
body limit ss room h =
    subst (λ rs. SpellsBlock limit region.Method limit (braced (pieces_of_block (block_tree ss))) rs) (list_of-block_tree ss) (block limit region.Method limit (pieces_of_block (block_tree ss)) (list_of (block_tree ss)) room (statements limit region.Method (limit - 1) (block_tree ss) h))

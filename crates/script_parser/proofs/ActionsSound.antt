-- Statements without a block that are read are spelled.
use Rattle.script_parser.proofs.Prelude.{◌≡◌, ℕ, ◌-◌, ◌<◌, true, List, [], ◌∷◌, ◌++◌, Option, Some, None, Ok, refl, sym, ap, subst, ◌∙◌, append_assoc, Priority, Keyword, TokenView, Name, Key, Sign, Atoms, Every, Region, ExprTree, CallTree, AwaitedTree, Called, TaskOf, NextOf, WaitTree, ValueTree, Computed, Waited, MakeTree, Spawned, Detached, AddTree, ActionTree, Let, LetTask, Assign, Await, Makes, Adds, Cancel, Return, Throw, Check, Yield, IsExpression, IsCall, IsAwaited, a_call, a_task, a_next, IsElse, without_else, with_else, IsWait, priority_of, IsPriorityGiven, not_given, given, or_medium, IsMake, spawned, detached, IsUnless, always, unless, IsAdd, IsValue, computed, awaited, SpellsAction, defines, defines_task, assigns, awaits, makes, adds, cancels, returns, throws, checks, yields, expr_in, chosen_priority}
use Rattle.script_tokens.specs.declared.keyword.Keyword.TheVariants as key
use Rattle.script_tokens.specs.declared.mark.Mark.TheVariants as mark
use Rattle.script_parser.specs.Model.Actions.{call_at, awaited_at, else_at, wait_at, level_named_at, given_at, make_at, unless_at, child_at, add_at, may_begin, begun_at, value_at, variable_at, let_at, assign_at, part_at, action_at}
use Rattle.script_parser.proofs.Steps.{ok_is, step_ok, allowed_is}
use Rattle.script_parser.proofs.Tokens.{sign_is, name_is}
use Rattle.script_parser.proofs.Sound.{expr_takes}
use Rattle.script_parser.proofs.Items.{Taken, taken_as, joined, closed_by, taken_with, taken_after, taken_name}
use Rattle.script_parser.proofs.Lists.{list_take}

chosen_is : (k : Keyword) (o : Option Priority) (ts : List TokenView) (x : Priority × List TokenView) → chosen_priority k o ts ≡ Ok x → (o ≡ Some x.0) × (ts ≡ x.1)
chosen_is k None ts x e = absurd cc
chosen_is k (Some p) ts x e = let is = ok_is (p, ts) x e in (ap (λ (y : Priority × List TokenView). Some y.0) is, ap (λ (y : Priority × List TokenView). y.1) is)

-- a priority's keyword
record TakesLevel (ts : List TokenView) (x : Priority × List TokenView) : Type 0 where
  keyword : Keyword
  parts : ts ≡ Key keyword ∷ x.1
  names : priority_of keyword ≡ Some x.0

level_takes : (ts : List TokenView) (x : Priority × List TokenView) → level_named_at ts ≡ Ok x → TakesLevel ts x
unfolding level_named_at
level_takes [] x e = absurd cc
level_takes (Key k ∷ ts) x e = let c = chosen_is k (priority_of k) ts x e in record { keyword = k; parts = ap (λ (w : List TokenView). Key k ∷ w) c.1; names = c.0 }
level_takes (_ ∷ ts) x e = absurd cc

pub given_takes : (ts : List TokenView) (x : Option Priority × List TokenView) → given_at ts ≡ Ok x → Taken IsPriorityGiven ts x
unfolding given_at
given_takes (Key key.At ∷ ts) x e =
    let p = step_ok e in
    let l = level_takes ts p.0 p.1 in
    taken_as IsPriorityGiven (Key key.At ∷ ts) (Key key.At ∷ Key l.keyword ∷ []) p.0.1 (Some p.0.0) x (ap (λ (w : List TokenView). Key key.At ∷ w) l.parts) (given l.keyword p.0.0 l.names) p.2
given_takes ts x e = taken_as IsPriorityGiven ts [] ts None x refl not_given e

unless_takes : (ts : List TokenView) → Taken IsUnless ts (unless_at ts)
unfolding unless_at
unless_takes (Key key.Unless ∷ ts) = record { front = Key key.Unless ∷ []; parts = refl; is = unless }
unless_takes ts = record { front = []; parts = refl; is = always }

-- what was begun may stand there
pub begun_is : (r : Region) (ts us : List TokenView) → begun_at r ts ≡ Ok us → (may_begin r us ≡ true) × (ts ≡ us)
unfolding begun_at
begun_is r ts us e =
    let a = allowed_is (may_begin r ts) ts us e in
    (subst (λ (w : List TokenView). may_begin r w ≡ true) a.1 a.0, a.1)

module _ (limit : ℕ) (positive : 0 < limit) where
  pub expression_takes : (atoms : Atoms) (o : ℕ) (ts : List TokenView) (x : ExprTree × List TokenView) → expr_in atoms limit o ts ≡ Ok x → Taken (IsExpression atoms limit o) ts x
  expression_takes atoms o ts x e =
      let t = expr_takes atoms limit positive o ts x e in
      record { front = t.front; parts = t.parts; is = t.spells }

  call_takes : (ts : List TokenView) (x : CallTree × List TokenView) → call_at limit ts ≡ Ok x → Taken (IsCall limit) ts x
  unfolding call_at
  call_takes ts x e =
      let a = step_ok e in
      let d = step_ok a.2 in
      let m = step_ok d.2 in
      let o = step_ok m.2 in
      let l = step_ok o.2 in
      let args = list_take (expr_in Every limit (limit - 1)) (IsExpression Every limit (limit - 1)) (expression_takes Every (limit - 1)) o.0 l.0 l.1 in
      let e1 = name_is ts a.0 a.1 in
      let e2 = sign_is mark.Dot a.0.1 d.0 d.1 in
      let e3 = name_is d.0 m.0 m.1 in
      let e4 = sign_is mark.Open m.0.1 o.0 o.1 in
      let last : o.0 ≡ (args.front ++ Sign mark.Close ∷ []) ++ l.0.1 = args.parts ∙ sym (append_assoc args.front (Sign mark.Close ∷ []) l.0.1) in
      let c : CallTree = record { actor = a.0.0; method = m.0.0; args = l.0.0 } in
      let front = Name a.0.0 ∷ Sign mark.Dot ∷ Name m.0.0 ∷ Sign mark.Open ∷ (args.front ++ Sign mark.Close ∷ []) in
      let is : IsCall limit front c = record { args = args.front; has_args = args.is; all = refl } in
      let parts : ts ≡ front ++ l.0.1 = cc in
      taken_as (IsCall limit) ts front l.0.1 c x parts is l.2

  awaited_takes : (ts : List TokenView) (x : AwaitedTree × List TokenView) → awaited_at limit ts ≡ Ok x → Taken (IsAwaited limit) ts x
  unfolding awaited_at
  awaited_takes (Key key.Task ∷ ts) x e = taken_name (IsAwaited limit) TaskOf (Key key.Task) ts x (λ n. a_task n) e
  awaited_takes (Key key.Next ∷ ts) x e = taken_name (IsAwaited limit) NextOf (Key key.Next) ts x (λ n. a_next n) e
  awaited_takes ts x e = taken_with (IsCall limit) (IsAwaited limit) Called (call_at limit) ts x (λ us c d. a_call d) (call_takes ts) e

  else_takes : (ts : List TokenView) (x : Option ExprTree × List TokenView) → else_at limit ts ≡ Ok x → Taken (IsElse limit) ts x
  unfolding else_at
  else_takes (Key key.Else ∷ ts) x e = taken_after (IsExpression Every limit limit) (IsElse limit) (λ t. Some t) (expr_in Every limit limit) (Key key.Else) ts x (λ us t d. with_else d) (expression_takes Every limit ts) e
  else_takes ts x e = taken_as (IsElse limit) ts [] ts None x refl without_else e

  wait_takes : (ts : List TokenView) (x : WaitTree × List TokenView) → wait_at limit ts ≡ Ok x → Taken (IsWait limit) ts x
  unfolding wait_at
  wait_takes ts x e =
      let a = step_ok e in
      let o = step_ok a.2 in
      let for = awaited_takes ts a.0 a.1 in
      let other = else_takes a.0.1 o.0 o.1 in
      let w : WaitTree = record { for = a.0.0; other = o.0.0 } in
      let is : IsWait limit (for.front ++ other.front) w = record { for = for.front; other = other.front; has_for = for.is; has_other = other.is; all = refl } in
      taken_as (IsWait limit) ts (for.front ++ other.front) o.0.1 w x (joined ts for.front a.0.1 other.front o.0.1 for.parts other.parts) is o.2

  make_takes : (ts : List TokenView) (x : MakeTree × List TokenView) → make_at limit ts ≡ Ok x → Taken (IsMake limit) ts x
  unfolding make_at
  make_takes [] x e = absurd cc
  make_takes (Key key.Spawn ∷ ts) x e =
      let c = step_ok e in
      let p = step_ok c.2 in
      let call = call_takes ts c.0 c.1 in
      let prio = given_takes c.0.1 p.0 p.1 in
      taken_as (IsMake limit) (Key key.Spawn ∷ ts) (Key key.Spawn ∷ (call.front ++ prio.front)) p.0.1 (Spawned c.0.0 p.0.0) x
      (ap (λ (w : List TokenView). Key key.Spawn ∷ w) (joined ts call.front c.0.1 prio.front p.0.1 call.parts prio.parts)) (spawned call.is prio.is) p.2
  make_takes (Key key.Detach ∷ ts) x e =
      let c = step_ok e in
      let p = step_ok c.2 in
      let call = call_takes ts c.0 c.1 in
      let prio = given_takes c.0.1 p.0 p.1 in
      taken_as (IsMake limit) (Key key.Detach ∷ ts) (Key key.Detach ∷ (call.front ++ prio.front)) p.0.1 (Detached c.0.0 (or_medium p.0.0)) x
      (ap (λ (w : List TokenView). Key key.Detach ∷ w) (joined ts call.front c.0.1 prio.front p.0.1 call.parts prio.parts)) (detached call.is prio.is) p.2
  make_takes (_ ∷ ts) x e = absurd cc

  add_takes : (ts : List TokenView) (x : AddTree × List TokenView) → add_at limit ts ≡ Ok x → Taken (IsAdd limit) ts x
  unfolding add_at child_at
  add_takes ts x e =
      let g = step_ok e in
      let c = step_ok g.2 in
      let p = step_ok c.2 in
      let u = unless_takes g.0.1 in
      let call = call_takes (unless_at g.0.1).1 c.0 c.1 in
      let prio = given_takes c.0.1 p.0 p.1 in
      let a : AddTree = record { group = g.0.0; unless = (unless_at g.0.1).0; call = c.0.0; priority = p.0.0 } in
      let back = call.front ++ prio.front in
      let front = Name g.0.0 ∷ (u.front ++ back) in
      let is : IsAdd limit front a = record { unless = u.front; call = call.front; priority = prio.front; has_unless = u.is; has_call = call.is; has_priority = prio.is; all = refl } in
      let last = joined (unless_at g.0.1).1 call.front c.0.1 prio.front p.0.1 call.parts prio.parts in
      let parts : ts ≡ front ++ p.0.1 = name_is ts g.0 g.1 ∙ ap (λ (w : List TokenView). Name g.0.0 ∷ w) (joined g.0.1 u.front (unless_at g.0.1).1 back p.0.1 u.parts last) in
      taken_as (IsAdd limit) ts front p.0.1 a x parts is p.2

  value_takes : (r : Region) (ts : List TokenView) → may_begin r ts ≡ true → (x : ValueTree × List TokenView) → value_at limit ts ≡ Ok x → Taken (IsValue limit r) ts x
  unfolding value_at may_begin
  value_takes r (Key key.Await ∷ ts) may x e = taken_after (IsWait limit) (IsValue limit r) Waited (wait_at limit) (Key key.Await) ts x (λ us w d. awaited may d) (wait_takes ts) e
  value_takes r ts may x e = taken_with (IsExpression Every limit limit) (IsValue limit r) Computed (expr_in Every limit limit) ts x (λ us t d. computed d) (expression_takes Every limit ts) e

  -- a variable, after its `=` and up to the semicolon
  abbrev IsVariable : Region → List ℕ → List TokenView → ActionTree → Type 0
  IsVariable r n us a = SpellsAction limit r (Key key.Let ∷ Name n ∷ Sign mark.Assign ∷ (us ++ Sign mark.Semicolon ∷ [])) a

  -- a statement up to its semicolon
  abbrev IsPart : Region → List TokenView → ActionTree → Type 0
  IsPart r us a = SpellsAction limit r (us ++ Sign mark.Semicolon ∷ []) a

  variable_takes : (r : Region) (n : List ℕ) (ts : List TokenView) → may_begin r ts ≡ true → (x : ActionTree × List TokenView) → variable_at limit n ts ≡ Ok x → Taken (IsVariable r n) ts x
  unfolding variable_at may_begin
  variable_takes r n (Key key.Detach ∷ ts) may x e = taken_with (IsMake limit) (IsVariable r n) (LetTask n) (make_at limit) (Key key.Detach ∷ ts) x (λ us m d. defines_task n may d) (make_takes (Key key.Detach ∷ ts)) e
  variable_takes r n (Key key.Spawn ∷ ts) may x e = taken_with (IsMake limit) (IsVariable r n) (LetTask n) (make_at limit) (Key key.Spawn ∷ ts) x (λ us m d. defines_task n may d) (make_takes (Key key.Spawn ∷ ts)) e
  variable_takes r n ts may x e = taken_with (IsValue limit r) (IsVariable r n) (Let n) (value_at limit) ts x (λ us v d. defines n d) (value_takes r ts may) e

  let_takes : (r : Region) (ts : List TokenView) (x : ActionTree × List TokenView) → let_at limit r ts ≡ Ok x → Taken (IsPart r) (Key key.Let ∷ ts) x
  unfolding let_at
  let_takes r ts x e =
      let n = step_ok e in
      let a = step_ok n.2 in
      let b = step_ok a.2 in
      let begun = begun_is r a.0 b.0 b.1 in
      let t = variable_takes r n.0.0 b.0 begun.0 x b.2 in
      let e1 = name_is ts n.0 n.1 in
      let e2 = sign_is mark.Assign n.0.1 a.0 a.1 in
      record {
        front = Key key.Let ∷ Name n.0.0 ∷ Sign mark.Assign ∷ t.front;
        parts = ap (λ (w : List TokenView). Key key.Let ∷ w) (e1 ∙ ap (λ (w : List TokenView). Name n.0.0 ∷ w) (e2 ∙ ap (λ (w : List TokenView). Sign mark.Assign ∷ w) (begun.1 ∙ t.parts)));
        is = t.is;
      }

  assign_takes : (r : Region) (n : List ℕ) (ts : List TokenView) (x : ActionTree × List TokenView) → assign_at limit r n ts ≡ Ok x → Taken (IsPart r) (Name n ∷ ts) x
  unfolding assign_at
  assign_takes r n ts x e =
      let a = step_ok e in
      let b = step_ok a.2 in
      let begun = begun_is r a.0 b.0 b.1 in
      let t = taken_with (IsValue limit r) (λ us s. SpellsAction limit r (Name n ∷ Sign mark.Assign ∷ (us ++ Sign mark.Semicolon ∷ [])) s) (Assign n) (value_at limit) b.0 x (λ us v d. assigns n d) (value_takes r b.0 begun.0) b.2 in
      record {
        front = Name n ∷ Sign mark.Assign ∷ t.front;
        parts = ap (λ (w : List TokenView). Name n ∷ w) (sign_is mark.Assign ts a.0 a.1 ∙ ap (λ (w : List TokenView). Sign mark.Assign ∷ w) (begun.1 ∙ t.parts));
        is = t.is;
      }

  part_takes : (r : Region) (ts : List TokenView) → may_begin r ts ≡ true → (x : ActionTree × List TokenView) → part_at limit r ts ≡ Ok x → Taken (IsPart r) ts x
  unfolding part_at may_begin
  part_takes r [] may x e = absurd cc
  part_takes r (Name n ∷ ts) may x e = assign_takes r n ts x e
  part_takes r (Key key.Let ∷ ts) may x e = let_takes r ts x e
  part_takes r (Key key.Await ∷ ts) may x e = taken_after (IsWait limit) (IsPart r) Await (wait_at limit) (Key key.Await) ts x (λ us w d. awaits may d) (wait_takes ts) e
  part_takes r (Key key.Detach ∷ ts) may x e = taken_with (IsMake limit) (IsPart r) Makes (make_at limit) (Key key.Detach ∷ ts) x (λ us m d. makes may d) (make_takes (Key key.Detach ∷ ts)) e
  part_takes r (Key key.Spawn ∷ ts) may x e = taken_with (IsMake limit) (IsPart r) Makes (make_at limit) (Key key.Spawn ∷ ts) x (λ us m d. makes may d) (make_takes (Key key.Spawn ∷ ts)) e
  part_takes r (Key key.Add ∷ ts) may x e = taken_after (IsAdd limit) (IsPart r) Adds (add_at limit) (Key key.Add) ts x (λ us a d. adds may d) (add_takes ts) e
  part_takes r (Key key.Cancel ∷ ts) may x e = taken_name (IsPart r) Cancel (Key key.Cancel) ts x (λ n. cancels n may) e
  part_takes r (Key key.Return ∷ ts) may x e = taken_after (IsExpression Every limit limit) (IsPart r) Return (expr_in Every limit limit) (Key key.Return) ts x (λ us t d. returns may d) (expression_takes Every limit ts) e
  part_takes r (Key key.Throw ∷ ts) may x e = taken_after (IsExpression Every limit limit) (IsPart r) Throw (expr_in Every limit limit) (Key key.Throw) ts x (λ us t d. throws d) (expression_takes Every limit ts) e
  part_takes r (Key key.Check ∷ ts) may x e = taken_as (IsPart r) (Key key.Check ∷ ts) (Key key.Check ∷ []) ts Check x refl checks e
  part_takes r (Key key.Yield ∷ ts) may x e = taken_as (IsPart r) (Key key.Yield ∷ ts) (Key key.Yield ∷ []) ts Yield x refl (yields may) e
  part_takes r (_ ∷ ts) may x e = absurd cc

  pub action_takes : (r : Region) (ts : List TokenView) (x : ActionTree × List TokenView) → action_at limit r ts ≡ Ok x → Taken (SpellsAction limit r) ts x
  unfolding action_at
  action_takes r ts x e =
      let b = step_ok e in
      let a = step_ok b.2 in
      let s = step_ok a.2 in
      let begun = begun_is r ts b.0 b.1 in
      let t = part_takes r b.0 begun.0 a.0 a.1 in
      taken_as (SpellsAction limit r) ts (t.front ++ Sign mark.Semicolon ∷ []) s.0 a.0.0 x
      (begun.1 ∙ t.parts ∙ closed_by (Sign mark.Semicolon) t.front a.0.1 s.0 (sign_is mark.Semicolon a.0.1 s.0 s.1)) t.is s.2

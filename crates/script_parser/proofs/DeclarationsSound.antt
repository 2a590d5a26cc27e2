-- Declarations that are read are spelled.
use Rattle.script_parser.proofs.Prelude.{◌≡◌, ℕ, ℤ, ◌+◌, ◌<◌, Bool, true, false, cond, List, [], ◌∷◌, ◌++◌, length, Option, Some, None, Result, Ok, Err, refl, sym, ap, subst, ◌∙◌, append_assoc, neg_ℤ, append-nil, int_eq, ParseFault, Priority, TokenView, Num, Huge, Name, Key, Sign, ExecutorKind, Plain, ExprTree, ExecutorTree, LocalTree, FieldTree, MethodTree, ActorTree, RootTree, DeclTree, Executes, Binds, Acts, Roots, or_medium, least, IsInt, plain, opposite, Listed, IsName, IsKind, by_priority, by_age, by_worker, IsExecutorDecl, IsLocal, IsField, IsOn, on_its_own, on_shared, IsInvariant, no_invariant, an_invariant, IsMethodDecl, IsActor, IsStart, IsRoot, IsDecl, an_executor, a_local, an_actor, a_root, IsScript, ◌>>=◌, name_at, sign_at, brace_at, list_at, given_at, decls_at}
use Rattle.script_tokens.specs.declared.keyword.Keyword.TheVariants as key
use Rattle.script_tokens.specs.declared.mark.Mark.TheVariants as mark
use Rattle.swift_types.specs.declared.executor_kind.ExecutorKind.TheVariants as kind
use Rattle.script_grammar.specs.declared.region.Region.TheVariants as region
use Rattle.script_parser.specs.Model.Declarations.{number_at, opposite_at, int_at, setting_at, kind_at, executor_at, local_at, fields_end, field_at, on_at, invariant_at, method_at, actor_at, root_at, decl_at, decls_end}
use Rattle.script_parser.proofs.Steps.{ok_is, some_is, step_ok}
use Rattle.script_parser.proofs.Tokens.{sign_is, name_is, brace_is}
use Rattle.script_parser.proofs.Items.{Taken, taken_as, joined, closed_by, taken_after, taken_name, items_take}
use Rattle.script_parser.proofs.Lists.{list_take}
use Rattle.script_parser.proofs.ActionsSound.{expression_takes, given_takes}
use Rattle.script_parser.proofs.StatementsSound.{block_takes}
use Rattle.script_parser.proofs.Ints.{int_differs}

name_takes : (ts : List TokenView) (x : List ℕ × List TokenView) → name_at ts ≡ Ok x → Taken IsName ts x
name_takes ts x e = record { front = Name x.0 ∷ []; parts = name_is ts x e; is = refl }

number_is : (ts : List TokenView) (x : ℤ × List TokenView) → number_at ts ≡ Ok x → ts ≡ Num x.0 ∷ x.1
unfolding number_at
number_is [] x e = absurd cc
number_is (Num v ∷ ts) x e = ap (λ (y : ℤ × List TokenView). Num y.0 ∷ y.1) (ok_is (v, ts) x e)
number_is (Huge ∷ ts) x e = absurd cc
number_is (_ ∷ ts) x e = absurd cc

plain_takes : (ts : List TokenView) (x : ℤ × List TokenView) → number_at ts ≡ Ok x → Taken IsInt ts x
plain_takes ts x e = record { front = Num x.0 ∷ []; parts = number_is ts x e; is = plain x.0 }

kept : (b : Bool) (f : ParseFault) (v : ℤ) (ts : List TokenView) (x : ℤ × List TokenView) → cond b (Err f) (Ok (neg_ℤ v, ts)) ≡ Ok x → (b ≡ false) × (let y : ℤ × List TokenView = (neg_ℤ v, ts) in y ≡ x)
kept true f v ts x e = absurd cc
kept false f v ts x e = (refl, ok_is (neg_ℤ v, ts) x e)

opposite_takes : (ts : List TokenView) (v : ℤ) (rest : List TokenView) (x : ℤ × List TokenView) → ts ≡ Num v ∷ rest → opposite_at ts v rest ≡ Ok x → Taken IsInt (Sign mark.Minus ∷ ts) x
unfolding opposite_at
opposite_takes ts v rest x parts e =
    let k = kept (int_eq v least) _ v rest x e in
    let made : Taken IsInt (Sign mark.Minus ∷ ts) (neg_ℤ v, rest) = record { front = Sign mark.Minus ∷ Num v ∷ []; parts = ap (λ (w : List TokenView). Sign mark.Minus ∷ w) parts; is = opposite v (int_differs v least k.0) } in
    subst (λ (y : ℤ × List TokenView). Taken IsInt (Sign mark.Minus ∷ ts) y) k.1 made

int_takes : (ts : List TokenView) (x : ℤ × List TokenView) → int_at ts ≡ Ok x → Taken IsInt ts x
unfolding int_at
int_takes (Sign mark.Minus ∷ ts) x e =
    let v = step_ok e in
    opposite_takes ts v.0.0 v.0.1 x (number_is ts v.0 v.1) v.2
int_takes ts x e = plain_takes ts x e

fields_end_is : (ts rest : List TokenView) → fields_end ts ≡ Some rest → ts ≡ rest
unfolding fields_end
fields_end_is (Key key.Var ∷ ts) rest e = absurd cc
fields_end_is ts rest e = some_is ts rest e

decls_end_is : (ts rest : List TokenView) → decls_end ts ≡ Some rest → (ts ≡ []) × (rest ≡ [])
unfolding decls_end
decls_end_is [] rest e = (refl, sym (some_is [] rest e))
decls_end_is (t ∷ ts) rest e = absurd cc

-- a name and the number that it is set to
pub record IsSetting (ts : List TokenView) (x : List ℕ × ℤ) : Type 0 where
  pub value : List TokenView
  pub has_value : IsInt value x.1
  pub all : ts ≡ Name x.0 ∷ Sign mark.Assign ∷ (value ++ Sign mark.Semicolon ∷ [])

setting_takes : (ts : List TokenView) (x : (List ℕ × ℤ) × List TokenView) → setting_at ts ≡ Ok x → Taken IsSetting ts x
unfolding setting_at
setting_takes ts x e =
    let n = step_ok e in
    let a = step_ok n.2 in
    let v = step_ok a.2 in
    let s = step_ok v.2 in
    let t = int_takes a.0 v.0 v.1 in
    let last = t.parts ∙ closed_by (Sign mark.Semicolon) t.front v.0.1 s.0 (sign_is mark.Semicolon v.0.1 s.0 s.1) in
    let front = Name n.0.0 ∷ Sign mark.Assign ∷ (t.front ++ Sign mark.Semicolon ∷ []) in
    let is : IsSetting front (n.0.0, v.0.0) = record { value = t.front; has_value = t.is; all = refl } in
    let parts : ts ≡ front ++ s.0 = name_is ts n.0 n.1 ∙ ap (λ (w : List TokenView). Name n.0.0 ∷ w) (sign_is mark.Assign n.0.1 a.0 a.1 ∙ ap (λ (w : List TokenView). Sign mark.Assign ∷ w) last) in
    taken_as IsSetting ts front s.0 (n.0.0, v.0.0) x parts is s.2

abbrev local_made : List ℕ × ℤ → LocalTree
local_made x = record { name = x.0; default = x.1 }

local_takes : (ts : List TokenView) (x : LocalTree × List TokenView) → local_at ts ≡ Ok x → Taken IsLocal (Key key.Local ∷ ts) x
unfolding local_at
local_takes ts x e = taken_after IsSetting IsLocal local_made setting_at (Key key.Local) ts x (λ us v d. record { default = d.value; has_default = d.has_value; all = ap (λ (w : List TokenView). Key key.Local ∷ w) d.all }) (setting_takes ts) e

abbrev field_made : List ℕ × ℤ → FieldTree
field_made x = record { name = x.0; start = x.1 }

field_takes : (ts : List TokenView) (x : FieldTree × List TokenView) → field_at ts ≡ Ok x → Taken IsField ts x
unfolding field_at
field_takes [] x e = absurd cc
field_takes (Key key.Var ∷ ts) x e = taken_after IsSetting IsField field_made setting_at (Key key.Var) ts x (λ us v d. record { start = d.value; has_start = d.has_value; all = ap (λ (w : List TokenView). Key key.Var ∷ w) d.all }) (setting_takes ts) e
field_takes (_ ∷ ts) x e = absurd cc

kind_takes : (ts : List TokenView) (x : ExecutorKind × List TokenView) → kind_at ts ≡ Ok x → Taken IsKind ts x
unfolding kind_at
kind_takes [] x e = absurd cc
kind_takes (Key key.Priority ∷ ts) x e = taken_as IsKind (Key key.Priority ∷ ts) (Key key.Priority ∷ []) ts kind.Priority x refl by_priority e
kind_takes (Key key.Fifo ∷ ts) x e = taken_as IsKind (Key key.Fifo ∷ ts) (Key key.Fifo ∷ []) ts kind.Fifo x refl by_age e
kind_takes (Key key.Pinned ∷ ts) x e =
    let v = step_ok e in
    taken_as IsKind (Key key.Pinned ∷ ts) (Key key.Pinned ∷ Num v.0.0 ∷ []) v.0.1 (kind.Pinned v.0.0) x (ap (λ (w : List TokenView). Key key.Pinned ∷ w) (number_is ts v.0 v.1)) (by_worker v.0.0) v.2
kind_takes (_ ∷ ts) x e = absurd cc

executor_takes : (ts : List TokenView) (x : ExecutorTree × List TokenView) → executor_at ts ≡ Ok x → Taken IsExecutorDecl (Key key.Executor ∷ ts) x
unfolding executor_at
executor_takes ts x e =
    let n = step_ok e in
    let k = step_ok n.2 in
    let s = step_ok k.2 in
    let t = kind_takes n.0.1 k.0 k.1 in
    let last = t.parts ∙ closed_by (Sign mark.Semicolon) t.front k.0.1 s.0 (sign_is mark.Semicolon k.0.1 s.0 s.1) in
    let front = Key key.Executor ∷ Name n.0.0 ∷ (t.front ++ Sign mark.Semicolon ∷ []) in
    let v : ExecutorTree = record { name = n.0.0; kind = k.0.0 } in
    let is : IsExecutorDecl front v = record { kind = t.front; has_kind = t.is; all = refl } in
    let parts : Key key.Executor ∷ ts ≡ front ++ s.0 = ap (λ (w : List TokenView). Key key.Executor ∷ w) (name_is ts n.0 n.1 ∙ ap (λ (w : List TokenView). Name n.0.0 ∷ w) last) in
    taken_as IsExecutorDecl (Key key.Executor ∷ ts) front s.0 v x parts is s.2

on_takes : (ts : List TokenView) (x : Option (List ℕ) × List TokenView) → on_at ts ≡ Ok x → Taken IsOn ts x
unfolding on_at
on_takes (Key key.On ∷ ts) x e = taken_name IsOn (λ n. Some n) (Key key.On) ts x (λ n. on_shared n) e
on_takes ts x e = taken_as IsOn ts [] ts None x refl on_its_own e

-- a call whose arguments are numbers, up to its closing parenthesis
record TakesStart (ts : List TokenView) (x : (List ℕ × List ℕ × List ℤ) × List TokenView) : Type 0 where
  args : List TokenView
  has_args : Listed IsInt args x.0.2
  parts : ts ≡ (Name x.0.0 ∷ Sign mark.Dot ∷ Name x.0.1 ∷ Sign mark.Open ∷ (args ++ Sign mark.Close ∷ [])) ++ x.1

start_takes : (ts d o : List TokenView) (a : List ℕ × List TokenView) (n : List ℕ × List TokenView) (v : List ℤ × List TokenView)
    → name_at ts ≡ Ok a → sign_at mark.Dot a.1 ≡ Ok d → name_at d ≡ Ok n → sign_at mark.Open n.1 ≡ Ok o → list_at int_at o ≡ Ok v → TakesStart ts ((a.0, n.0, v.0), v.1)
start_takes ts d o a n v ea ed en eo ev =
    let args = list_take int_at IsInt int_takes o v ev in
    let last : o ≡ (args.front ++ Sign mark.Close ∷ []) ++ v.1 = args.parts ∙ sym (append_assoc args.front (Sign mark.Close ∷ []) v.1) in
    let e1 = name_is ts a ea in
    let e2 = sign_is mark.Dot a.1 d ed in
    let e3 = name_is d n en in
    let e4 = sign_is mark.Open n.1 o eo in
    record { args = args.front; has_args = args.is; parts = cc }

root_made : (ts q s : List TokenView) (n : List ℕ × List TokenView) (c : (List ℕ × List ℕ × List ℤ) × List TokenView) (p : Option Priority × List TokenView)
    → name_at ts ≡ Ok n → sign_at mark.Assign n.1 ≡ Ok q → TakesStart q c → given_at c.1 ≡ Ok p → sign_at mark.Semicolon p.1 ≡ Ok s
    → Taken IsRoot (Key key.Root ∷ ts) (record { name = n.0; actor = c.0.0; method = c.0.1; args = c.0.2; priority = or_medium p.0 }, s)
root_made ts q s n c p en eq call ep es =
    let prio = given_takes c.1 p ep in
    let start = Name c.0.0 ∷ Sign mark.Dot ∷ Name c.0.1 ∷ Sign mark.Open ∷ (call.args ++ Sign mark.Close ∷ []) in
    let after = prio.front ++ Sign mark.Semicolon ∷ [] in
    let r : RootTree = record { name = n.0; actor = c.0.0; method = c.0.1; args = c.0.2; priority = or_medium p.0 } in
    let started : IsStart start r = record { args = call.args; has_args = call.has_args; all = refl } in
    let last : c.1 ≡ after ++ s = prio.parts ∙ closed_by (Sign mark.Semicolon) prio.front p.1 s (sign_is mark.Semicolon p.1 s es) in
    let all : q ≡ (start ++ after) ++ s = joined q start c.1 after s call.parts last in
    let begun : ts ≡ Name n.0 ∷ Sign mark.Assign ∷ q = name_is ts n en ∙ ap (λ (u : List TokenView). Name n.0 ∷ u) (sign_is mark.Assign n.1 q eq) in
    record {
      front = Key key.Root ∷ Name n.0 ∷ Sign mark.Assign ∷ (start ++ after);
      parts = ap (λ (u : List TokenView). Key key.Root ∷ u) (begun ∙ ap (λ (u : List TokenView). Name n.0 ∷ Sign mark.Assign ∷ u) all);
      is = record { start = start; at = prio.front; priority = p.0; has_start = started; has_priority = prio.is; is = refl; all = refl };
    }

root_takes : (ts : List TokenView) (x : RootTree × List TokenView) → root_at ts ≡ Ok x → Taken IsRoot (Key key.Root ∷ ts) x
unfolding root_at
root_takes ts x e =
    let n = step_ok e in
    let q = step_ok n.2 in
    let a = step_ok q.2 in
    let d = step_ok a.2 in
    let m = step_ok d.2 in
    let o = step_ok m.2 in
    let v = step_ok o.2 in
    let p = step_ok v.2 in
    let s = step_ok p.2 in
    let call = start_takes q.0 d.0 o.0 a.0 m.0 v.0 a.1 d.1 m.1 o.1 v.1 in
    subst (λ (y : RootTree × List TokenView). Taken IsRoot (Key key.Root ∷ ts) y) (ok_is (record { name = n.0.0; actor = a.0.0; method = m.0.0; args = v.0.0; priority = or_medium p.0.0 }, s.0) x s.2)
    (root_made ts q.0 s.0 n.0 ((a.0.0, m.0.0, v.0.0), v.0.1) p.0 n.1 q.1 call p.1 s.1)

module _ (limit : ℕ) (positive : 0 < limit) where
  invariant_takes : (ts : List TokenView) (x : Option ExprTree × List TokenView) → invariant_at limit ts ≡ Ok x → Taken (IsInvariant limit) ts x
  unfolding invariant_at
  invariant_takes (Key key.Invariant ∷ ts) x e =
      let v = step_ok e in
      let s = step_ok v.2 in
      let t = expression_takes limit positive Plain limit ts v.0 v.1 in
      let last = t.parts ∙ closed_by (Sign mark.Semicolon) t.front v.0.1 s.0 (sign_is mark.Semicolon v.0.1 s.0 s.1) in
      taken_as (IsInvariant limit) (Key key.Invariant ∷ ts) (Key key.Invariant ∷ (t.front ++ Sign mark.Semicolon ∷ [])) s.0 (Some v.0.0) x (ap (λ (w : List TokenView). Key key.Invariant ∷ w) last) (an_invariant t.is) s.2
  invariant_takes ts x e = taken_as (IsInvariant limit) ts [] ts None x refl no_invariant e

  method_takes : (ts : List TokenView) (x : MethodTree × List TokenView) → method_at limit ts ≡ Ok x → Taken (IsMethodDecl limit) ts x
  unfolding method_at
  method_takes [] x e = absurd cc
  method_takes (Key key.Func ∷ ts) x e =
      let n = step_ok e in
      let o = step_ok n.2 in
      let p = step_ok o.2 in
      let b = step_ok p.2 in
      let names = list_take name_at IsName name_takes o.0 p.0 p.1 in
      let block = block_takes limit positive limit region.Method p.0.1 b.0 b.1 in
      let front = Key key.Func ∷ Name n.0.0 ∷ Sign mark.Open ∷ (names.front ++ (Sign mark.Close ∷ block.front)) in
      let all : o.0 ≡ (names.front ++ (Sign mark.Close ∷ block.front)) ++ b.0.1 = names.parts ∙ ap (λ (w : List TokenView). names.front ++ (Sign mark.Close ∷ w)) block.parts ∙ sym (append_assoc names.front (Sign mark.Close ∷ block.front) b.0.1) in
      let e1 = name_is ts n.0 n.1 in
      let e2 = sign_is mark.Open n.0.1 o.0 o.1 in
      let m : MethodTree = record { name = n.0.0; params = p.0.0; body = b.0.0 } in
      let is : IsMethodDecl limit front m = record { params = names.front; body = block.front; has_params = names.is; has_body = block.is; all = refl } in
      let parts : Key key.Func ∷ ts ≡ front ++ b.0.1 = ap (λ (w : List TokenView). Key key.Func ∷ w) (e1 ∙ ap (λ (w : List TokenView). Name n.0.0 ∷ w) (e2 ∙ ap (λ (w : List TokenView). Sign mark.Open ∷ w) all)) in
      taken_as (IsMethodDecl limit) (Key key.Func ∷ ts) front b.0.1 m x parts is b.2
  method_takes (_ ∷ ts) x e = absurd cc

  actor_takes : (ts : List TokenView) (x : ActorTree × List TokenView) → actor_at limit ts ≡ Ok x → Taken (IsActor limit) (Key key.Actor ∷ ts) x
  unfolding actor_at
  actor_takes ts x e =
      let n = step_ok e in
      let w = step_ok n.2 in
      let o = step_ok w.2 in
      let f = step_ok o.2 in
      let i = step_ok f.2 in
      let m = step_ok i.2 in
      let on = on_takes n.0.1 w.0 w.1 in
      let fields = items_take fields_end field_at IsField field_takes (length o.0 + 1) o.0 f.0 f.1 in
      let invariant = invariant_takes f.0.1 i.0 i.1 in
      let methods = items_take brace_at (method_at limit) (IsMethodDecl limit) method_takes (length i.0.1 + 1) i.0.1 m.0 m.1 in
      let inner = methods.front ++ Sign mark.CloseBrace ∷ [] in
      let last : i.0.1 ≡ inner ++ m.0.1 = methods.parts ∙ closed_by (Sign mark.CloseBrace) methods.front methods.next m.0.1 (brace_is methods.next m.0.1 methods.stopped) in
      let middle = joined f.0.1 invariant.front i.0.1 inner m.0.1 invariant.parts last in
      let members = fields.front ++ (invariant.front ++ inner) in
      let all : o.0 ≡ members ++ m.0.1 = joined o.0 fields.front f.0.1 (invariant.front ++ inner) m.0.1 (fields.parts ∙ ap (λ (u : List TokenView). fields.front ++ u) (fields_end_is fields.next f.0.1 fields.stopped)) middle in
      let opened : w.0.1 ≡ (Sign mark.OpenBrace ∷ members) ++ m.0.1 = sign_is mark.OpenBrace w.0.1 o.0 o.1 ∙ ap (λ (u : List TokenView). Sign mark.OpenBrace ∷ u) all in
      let front = Key key.Actor ∷ Name n.0.0 ∷ (on.front ++ (Sign mark.OpenBrace ∷ members)) in
      let a : ActorTree = record { name = n.0.0; executor = w.0.0; fields = f.0.0; invariant = i.0.0; methods = m.0.0 } in
      let is : IsActor limit front a = record { on = on.front; fields = fields.front; invariant = invariant.front; methods = methods.front; has_executor = on.is; has_fields = fields.each; has_invariant = invariant.is; has_methods = methods.each; all = refl } in
      let parts : Key key.Actor ∷ ts ≡ front ++ m.0.1 = ap (λ (u : List TokenView). Key key.Actor ∷ u) (name_is ts n.0 n.1 ∙ ap (λ (u : List TokenView). Name n.0.0 ∷ u) (joined n.0.1 on.front w.0.1 (Sign mark.OpenBrace ∷ members) m.0.1 on.parts opened)) in
      taken_as (IsActor limit) (Key key.Actor ∷ ts) front m.0.1 a x parts is m.2

  -- a declaration after its keyword
  decl_made : {A : Type 0} (Is : List TokenView → A → Type 0) (make : A → DeclTree) (read : List TokenView → Result (A × List TokenView) ParseFault) (k : TokenView) (ts : List TokenView) (x : DeclTree × List TokenView)
      → ((us : List TokenView) (a : A) → Is us a → IsDecl limit us (make a)) → ((a : A × List TokenView) → read ts ≡ Ok a → Taken Is (k ∷ ts) a)
      → (read ts >>= λ a. Ok (make a.0, a.1)) ≡ Ok x → Taken (IsDecl limit) (k ∷ ts) x
  decl_made Is make read k ts x is takes e =
      let a = step_ok e in
      let t = takes a.0 a.1 in
      taken_as (IsDecl limit) (k ∷ ts) t.front a.0.1 (make a.0.0) x t.parts (is t.front a.0.0 t.is) a.2

  decl_takes : (ts : List TokenView) (x : DeclTree × List TokenView) → decl_at limit ts ≡ Ok x → Taken (IsDecl limit) ts x
  unfolding decl_at
  decl_takes [] x e = absurd cc
  decl_takes (Key key.Executor ∷ ts) x e = decl_made IsExecutorDecl Executes executor_at (Key key.Executor) ts x (λ us a d. an_executor d) (executor_takes ts) e
  decl_takes (Key key.Local ∷ ts) x e = decl_made IsLocal Binds local_at (Key key.Local) ts x (λ us a d. a_local d) (local_takes ts) e
  decl_takes (Key key.Actor ∷ ts) x e = decl_made (IsActor limit) Acts (actor_at limit) (Key key.Actor) ts x (λ us a d. an_actor d) (actor_takes ts) e
  decl_takes (Key key.Root ∷ ts) x e = decl_made IsRoot Roots root_at (Key key.Root) ts x (λ us a d. a_root d) (root_takes ts) e
  decl_takes (_ ∷ ts) x e = absurd cc

  pub decls_take : (ts : List TokenView) (x : List DeclTree × List TokenView) → decls_at limit ts ≡ Ok x → IsScript limit ts x.0
  decls_take ts x e =
      let taken = items_take decls_end (decl_at limit) (IsDecl limit) decl_takes (length ts + 1) ts x e in
      let ended = decls_end_is taken.next x.1 taken.stopped in
      let all : ts ≡ taken.front = taken.parts ∙ ap (λ (w : List TokenView). taken.front ++ w) ended.0 ∙ append-nil taken.front in
      subst (λ (w : List TokenView). IsScript limit w x.0) (sym all) taken.each

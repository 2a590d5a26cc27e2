-- One executor more, and one task more, of what a run leaves.
use Rattle.swift_workers.proofs.Prelude.{◌≡◌, ◌⊎◌, ℕ, suc, ◌+◌, ◌<◌, ◌≤◌, ℤ, List, [], ◌∷◌, ◌++◌, Some, Contains, length, map, refl, sym, subst, ap, ◌∙◌, arith, inl, inr, add-zero, length-append, Contains-append_left, Contains-append_right, Vec, Global, rows_of, ScriptView, CheckpointRoomView, CheckpointView, RecordView, SiteView, TableId, Account, BookKnown, TurnOrder, at_rest, AreAtRest, IsAccountedFor, gathered, site_of, AccountsFor, orders_of, ExecStateView, ExecInvariant, Parts, AreReplayed, EachFrom, IsPartReplayed, KeepInvariants, Keeps, AreAccountedFor, AreParts}
use Rattle.swift_history.specs.Replay.{replay}

abbrev Rows : Type 0
Rows = Vec (Vec ℤ Global) Global

next_place : (e n : ℕ) → e + suc n ≡ e + 1 + n
next_place e n = omega arith

replayed_push : (p : ScriptView) (e : ℕ) (cs : List CheckpointRoomView) (js : List (List RecordView)) (fs : List Rows) (c : CheckpointRoomView) (j : List RecordView) (f : Rows)
    → AreReplayed p e cs js fs → IsPartReplayed p (e + length cs) c.view j (rows_of f.items) → AreReplayed p e (cs ++ c ∷ []) (js ++ j ∷ []) (fs ++ f ∷ [])
replayed_push p e [] [] [] c j f are is = (subst (λ n. IsPartReplayed p n c.view j (rows_of f.items)) (add-zero e) is, tt)
replayed_push p e [] [] (g ∷ fs) c j f are is = absurd are
replayed_push p e [] (k ∷ js) fs c j f are is = absurd are
replayed_push p e (d ∷ cs) [] fs c j f are is = absurd are
replayed_push p e (d ∷ cs) (k ∷ js) [] c j f are is = absurd are
replayed_push p e (d ∷ cs) (k ∷ js) (g ∷ fs) c j f are is =
    (are.0, replayed_push p (e + 1) cs js fs c j f are.1 (subst (λ n. IsPartReplayed p n c.view j (rows_of f.items)) (next_place e (length cs)) is))

accounted_push : (p : ScriptView) (v : BookKnown) (e : ℕ) (cs : List CheckpointRoomView) (js : List (List RecordView)) (fs : List Rows) (c : CheckpointRoomView) (j : List RecordView) (f : Rows)
    → AreAccountedFor p v e cs js fs → IsAccountedFor p v (e + length cs) j c.view (rows_of f.items) → AreAccountedFor p v e (cs ++ c ∷ []) (js ++ j ∷ []) (fs ++ f ∷ [])
accounted_push p v e [] [] [] c j f are is = (subst (λ n. IsAccountedFor p v n j c.view (rows_of f.items)) (add-zero e) is, tt)
accounted_push p v e [] [] (g ∷ fs) c j f are is = absurd are
accounted_push p v e [] (k ∷ js) fs c j f are is = absurd are
accounted_push p v e (d ∷ cs) [] fs c j f are is = absurd are
accounted_push p v e (d ∷ cs) (k ∷ js) [] c j f are is = absurd are
accounted_push p v e (d ∷ cs) (k ∷ js) (g ∷ fs) c j f are is =
    (are.0, accounted_push p v (e + 1) cs js fs c j f are.1 (subst (λ n. IsAccountedFor p v n j c.view (rows_of f.items)) (next_place e (length cs)) is))

accounted_more : (p : ScriptView) (v w : BookKnown) (e : ℕ) (journal : List RecordView) (c : CheckpointView) (fields : List (List ℤ)) → IsAccountedFor p v e journal c fields → IsAccountedFor p (gathered v w) e journal c fields
accounted_more p v w e journal c fields is = record {
  past = is.past;
  order = is.order;
  seen = is.seen;
  account = Contains-append_left v.accounts w.accounts (record { executor = e; records = is.past ++ journal; order = is.order; seen = is.seen }) is.account;
  folded = is.folded;
  replayed = is.replayed;
  fields_are = is.fields_are;
}

-- what the accounts of a seat say stays so where it takes in another
all_more : (p : ScriptView) (v w : BookKnown) (e : ℕ) (cs : List CheckpointRoomView) (js : List (List RecordView)) (fs : List Rows) → AreAccountedFor p v e cs js fs → AreAccountedFor p (gathered v w) e cs js fs
all_more p v w e [] [] [] are = tt
all_more p v w e [] [] (g ∷ fs) are = absurd are
all_more p v w e [] (k ∷ js) fs are = absurd are
all_more p v w e (d ∷ cs) [] fs are = absurd are
all_more p v w e (d ∷ cs) (k ∷ js) [] are = absurd are
all_more p v w e (d ∷ cs) (k ∷ js) (g ∷ fs) are = (accounted_more p v w e k d.view (rows_of g.items) are.0, all_more p v w (e + 1) cs js fs are.1)

only_one : (a : Account) → Contains (a ∷ []) a
only_one a = (0, omega arith, refl)

-- The account of an executor's seat says what is left of the executor, once it is gathered.
accounted_new : (v w : BookKnown) (s : ExecStateView) → AccountsFor s w → s.fields ≡ replay s.script s.checkpoint.fields s.journal → IsAccountedFor s.script (gathered v w) s.executor s.journal s.checkpoint s.fields
accounted_new v w s are replayed =
    let a : Account = record { executor = s.executor; records = are.past ++ s.journal; order = are.order; seen = are.seen } in
    record {
      past = are.past;
      order = are.order;
      seen = are.seen;
      account = Contains-append_right v.accounts w.accounts a (subst (λ (accounts : List Account). Contains accounts a) (sym are.accounts) (only_one a));
      folded = are.folded;
      replayed = are.replayed;
      fields_are = replayed;
    }

-- The accounts that are at rest are so once one more is gathered, which is at rest too.
rest_more : (v w : BookKnown) (s : ExecStateView) (many : ℕ) → AreAtRest many v → AccountsFor s w → s.executor ≡ many → orders_of w ≡ at_rest ∷ [] → AreAtRest (many + 1) (gathered v w)
rest_more v w s many all are is rest e lt = elim (lt_or e many) [
  | inl less ↦ let x = all e less in (x.0, Contains-append_left v.accounts w.accounts x.0 x.1, x.2, x.3)
  | inr last ↦
      let a : Account = record { executor = s.executor; records = are.past ++ s.journal; order = are.order; seen = are.seen } in
      let own : are.order ≡ at_rest = first_one are.order at_rest (sym (ap (map (λ (b : Account). b.order)) are.accounts) ∙ rest) in
      (a, Contains-append_right v.accounts w.accounts a (subst (λ (accounts : List Account). Contains accounts a) (sym are.accounts) (only_one a)), omega (arith, is, last, lt), own)
]
  where
    lt_or : (x y : ℕ) → (x < y) ⊎ (y ≤ x)
    lt_or x y = grind arith

    first_one : (o p : TurnOrder) → o ∷ [] ≡ p ∷ [] → o ≡ p
    first_one o p same = cc

-- one thing more, of each of which something holds
pub each_push : {A : Type 0} (P : ℕ → A → Type 0) (n : ℕ) (xs : List A) (x : A) → EachFrom P n xs → P (n + length xs) x → EachFrom P n (xs ++ x ∷ [])
each_push P n [] x are is = (subst (λ k. P k x) (add-zero n) is, tt)
each_push P n (y ∷ ys) x are is = (are.0, each_push P (n + 1) ys x are.1 (subst (λ k. P k x) (next_place n (length ys)) is))

zero_more : (n : ℕ) → n ≡ 0 + n
zero_more n = omega arith

pub one_longer : {X : Type 0} (xs : List X) (x : X) (n : ℕ) → length xs ≡ n → length (xs ++ x ∷ []) ≡ n + 1
one_longer xs x n is = omega (arith, is, length-append xs (x ∷ []))

-- the parts of the executors of a prefix, and of the one after them, whose state this was, and whose seat was gathered
parts_push : (p : ScriptView) (lock : TableId) (v w : BookKnown) (many : ℕ) (old new : Parts) (s : ExecStateView) (c : CheckpointRoomView) (f : Rows) → AreParts p v many old → site_of lock s ≡ record { script = p; executor = many; book = Some lock }
    → ExecInvariant s → Keeps s.script s.executor s.fields → AccountsFor s w → orders_of w ≡ at_rest ∷ [] → c.view ≡ s.checkpoint → rows_of f.items ≡ s.fields → new.checkpoints.items ≡ old.checkpoints.items ++ c ∷ []
    → new.journals.items ≡ old.journals.items ++ s.journal ∷ [] → new.fields.items ≡ old.fields.items ++ f ∷ [] → AreParts p (gathered v w) (many + 1) new
parts_push p lock v w many old new s c f are site is keeps known rest checkpoint fields cs js fs =
    let both : BookKnown = gathered v w in
    let script : s.script ≡ p = ap (λ (x : SiteView). x.script) site in
    let executor : s.executor ≡ many = ap (λ (x : SiteView). x.executor) site in
    let place : s.executor ≡ 0 + length old.checkpoints.items = executor ∙ sym are.checkpoints ∙ zero_more (length old.checkpoints.items) in
    let own : IsPartReplayed s.script s.executor s.checkpoint s.journal s.fields = record { past = is.past; lawful = is.lawful; runs = is.runs; replayed = is.replayed } in
    let of_script : IsPartReplayed p s.executor s.checkpoint s.journal s.fields = subst (λ (x : ScriptView). IsPartReplayed x s.executor s.checkpoint s.journal s.fields) script own in
    let at_place : IsPartReplayed p (0 + length old.checkpoints.items) s.checkpoint s.journal s.fields = subst (λ n. IsPartReplayed p n s.checkpoint s.journal s.fields) place of_script in
    let with_view : IsPartReplayed p (0 + length old.checkpoints.items) c.view s.journal s.fields = subst (λ (x : CheckpointView). IsPartReplayed p (0 + length old.checkpoints.items) x s.journal s.fields) (sym checkpoint) at_place in
    let replayed : IsPartReplayed p (0 + length old.checkpoints.items) c.view s.journal (rows_of f.items) = subst (λ (x : List (List ℤ)). IsPartReplayed p (0 + length old.checkpoints.items) c.view s.journal x) (sym fields) with_view in
    let said : IsAccountedFor s.script both s.executor s.journal s.checkpoint s.fields = accounted_new v w s known is.replayed in
    let said_script : IsAccountedFor p both s.executor s.journal s.checkpoint s.fields = subst (λ (x : ScriptView). IsAccountedFor x both s.executor s.journal s.checkpoint s.fields) script said in
    let said_place : IsAccountedFor p both (0 + length old.checkpoints.items) s.journal s.checkpoint s.fields = subst (λ n. IsAccountedFor p both n s.journal s.checkpoint s.fields) place said_script in
    let said_view : IsAccountedFor p both (0 + length old.checkpoints.items) s.journal c.view s.fields = subst (λ (x : CheckpointView). IsAccountedFor p both (0 + length old.checkpoints.items) s.journal x s.fields) (sym checkpoint) said_place in
    let accounted : IsAccountedFor p both (0 + length old.checkpoints.items) s.journal c.view (rows_of f.items) = subst (λ (x : List (List ℤ)). IsAccountedFor p both (0 + length old.checkpoints.items) s.journal c.view x) (sym fields) said_view in
    let keeps_script : Keeps p s.executor s.fields = subst (λ (x : ScriptView). Keeps x s.executor s.fields) script keeps in
    let keeps_place : Keeps p (0 + length old.fields.items) s.fields = subst (λ n. Keeps p n s.fields) (executor ∙ sym are.fields ∙ zero_more (length old.fields.items)) keeps_script in
    let kept : Keeps p (0 + length old.fields.items) (rows_of f.items) = subst (λ (x : List (List ℤ)). Keeps p (0 + length old.fields.items) x) (sym fields) keeps_place in
    let all = replayed_push p 0 old.checkpoints.items old.journals.items old.fields.items c s.journal f are.lawful replayed in
    let all_cs = subst (λ (x : List CheckpointRoomView). AreReplayed p 0 x (old.journals.items ++ s.journal ∷ []) (old.fields.items ++ f ∷ [])) (sym cs) all in
    let all_js = subst (λ (x : List (List RecordView)). AreReplayed p 0 new.checkpoints.items x (old.fields.items ++ f ∷ [])) (sym js) all_cs in
    let told = accounted_push p both 0 old.checkpoints.items old.journals.items old.fields.items c s.journal f (all_more p v w 0 old.checkpoints.items old.journals.items old.fields.items are.accounts) accounted in
    let told_cs = subst (λ (x : List CheckpointRoomView). AreAccountedFor p both 0 x (old.journals.items ++ s.journal ∷ []) (old.fields.items ++ f ∷ [])) (sym cs) told in
    let told_js = subst (λ (x : List (List RecordView)). AreAccountedFor p both 0 new.checkpoints.items x (old.fields.items ++ f ∷ [])) (sym js) told_cs in
    record {
      lawful = subst (λ (x : List Rows). AreReplayed p 0 new.checkpoints.items new.journals.items x) (sym fs) all_js;
      accounts = subst (λ (x : List Rows). AreAccountedFor p both 0 new.checkpoints.items new.journals.items x) (sym fs) told_js;
      invariants = subst (λ (x : List Rows). KeepInvariants p 0 x) (sym fs) (each_push (λ k (rows : Rows). Keeps p k (rows_of rows.items)) 0 old.fields.items f are.invariants kept);
      journals = ap length js ∙ one_longer old.journals.items s.journal many are.journals;
      checkpoints = ap length cs ∙ one_longer old.checkpoints.items c many are.checkpoints;
      fields = ap length fs ∙ one_longer old.fields.items f many are.fields;
      rest = rest_more v w s many are.rest known executor rest;
    }

-- the parts of one more executor, for a seat that knows what was gathered
pub parts_gathered : (p : ScriptView) (lock : TableId) (v w u : BookKnown) (many : ℕ) (old new : Parts) (s : ExecStateView) (c : CheckpointRoomView) (f : Rows) → u ≡ gathered v w → AreParts p v many old → site_of lock s ≡ record { script = p; executor = many; book = Some lock }
    → ExecInvariant s → Keeps s.script s.executor s.fields → AccountsFor s w → orders_of w ≡ at_rest ∷ [] → c.view ≡ s.checkpoint → rows_of f.items ≡ s.fields → new.checkpoints.items ≡ old.checkpoints.items ++ c ∷ []
    → new.journals.items ≡ old.journals.items ++ s.journal ∷ [] → new.fields.items ≡ old.fields.items ++ f ∷ [] → AreParts p u (many + 1) new
parts_gathered p lock v w u many old new s c f same are site is keeps known rest checkpoint fields cs js fs =
    subst (λ (x : BookKnown). AreParts p x (many + 1) new) (sym same) (parts_push p lock v w many old new s c f are site is keeps known rest checkpoint fields cs js fs)

-- Chains of entries after a push.
use Rattle.script_compiler.proofs.Prelude.{◌≡◌, ◌≢◌, ℕ, zero, suc, ◌≤◌, ◌<◌, ◌⊎◌, List, Option, None, Some, [], ◌∷◌, ◌++◌, length, get_or, set, replicate, refl, ap, sym, subst, ◌∙◌, inl, inr, arith, get_or-set_same, get_or-set_other, length_push, length-set, none-some, same_Some, slice_get_within, cases_eq, cases_lt, InChain, last_of, end_of, AreOrderly, Pushes, AreEmpty, at, after, ListEntry, MethodLists}
use Rattle.std.specs.List.{slice_get}

slice_get-push_old : {X : Type 0} (xs : List X) (y x : X) (k : ℕ) → slice_get xs k ≡ Some x → slice_get (xs ++ y ∷ []) k ≡ Some x
slice_get-push_old [] y x k h = absurd (none-some x h)
slice_get-push_old (z ∷ xs) y x zero h = h
slice_get-push_old (z ∷ xs) y x (suc k) h = slice_get-push_old xs y x k h

slice_get-push_new : {X : Type 0} (xs : List X) (y : X) → slice_get (xs ++ y ∷ []) (length xs) ≡ Some y
slice_get-push_new [] y = refl
slice_get-push_new (z ∷ xs) y = slice_get-push_new xs y

slice_get_before_push : {X : Type 0} (xs : List X) (y x : X) (k : ℕ) → k < length xs → slice_get (xs ++ y ∷ []) k ≡ Some x → slice_get xs k ≡ Some x
slice_get_before_push [] y x k l h = absurd (omega arith)
slice_get_before_push (z ∷ xs) y x zero l h = h
slice_get_before_push (z ∷ xs) y x (suc k) l h = slice_get_before_push xs y x k (omega arith) h

-- a chain stays as it is where entries are pushed
chain_kept : (entries : List ListEntry) (y : ListEntry) {o : Option ℕ} {m : ℕ} → InChain entries o m → InChain (entries ++ y ∷ []) o m
chain_kept entries y (at {k = k} {e = e} is) = at (slice_get-push_old entries y e k is)
chain_kept entries y (after {k = k} {e = e} is c) = after (slice_get-push_old entries y e k is) (chain_kept entries y c)

chain_before_push : (entries : List ListEntry) (y : ListEntry) → ((k : ℕ) (e : ListEntry) → slice_get entries k ≡ Some e → end_of e.before ≤ k)
    → {o : Option ℕ} {m : ℕ} → end_of o ≤ length entries → InChain (entries ++ y ∷ []) o m → InChain entries o m
chain_before_push entries y older l (at {k = k} {e = e} is) = at (slice_get_before_push entries y e k (omega arith) is)
chain_before_push entries y older l (after {k = k} {e = e} is c) =
    let was : slice_get entries k ≡ Some e = slice_get_before_push entries y e k (omega arith) is in
    let b = older k e was in
    after was (chain_before_push entries y older (omega (arith, b)) c)

last-set : (ls : List (Option ℕ)) (a b n : ℕ) (P : Option ℕ → Type 0) → a < length ls → (b ≡ a → P (Some n)) → (b ≢ a → P (get_or ls b None))
    → P (get_or (set ls a (Some n)) b None)
last-set ls a b n P l same other =
    elim (cases_eq b a) [
      | inl e ↦ subst (λ (i : ℕ). P (get_or (set ls a (Some n)) i None)) (sym e) (subst P (sym (get_or-set_same ls a (Some n) None l)) (same e))
      | inr ne ↦ subst P (sym (get_or-set_other ls a b (Some n) None ne)) (other ne)
    ]

-- the entry that a push of a method makes
abbrev entry_for : List (Option ℕ) → ℕ → ℕ → ListEntry
entry_for ls a m = record { method = m; before = get_or ls a None }

-- Lists where an entry is pushed: `ls` and `es` are the last places and the entries before.
module _ (ls : List (Option ℕ)) (es : List ListEntry) (a m : ℕ) (l : a < length ls)
    (inside : (b : ℕ) → end_of (get_or ls b None) ≤ length es)
    (older : (k : ℕ) (e : ListEntry) → slice_get es k ≡ Some e → end_of e.before ≤ k) where
  pushed_inside : (b : ℕ) → end_of (get_or (set ls a (Some (length es))) b None) ≤ length (es ++ entry_for ls a m ∷ [])
  pushed_inside b =
      let y : ListEntry = entry_for ls a m in
      let n = length_push es y in
      last-set ls a b (length es) (λ o. end_of o ≤ length (es ++ y ∷ [])) l (λ _. omega (arith, n)) (λ _. let i = inside b in omega (arith, n, i))

  pushed_older : (k : ℕ) (e : ListEntry) → slice_get (es ++ entry_for ls a m ∷ []) k ≡ Some e → end_of e.before ≤ k
  pushed_older k e h =
      let y : ListEntry = entry_for ls a m in
      let n = length_push es y in
      let w = slice_get_within (es ++ y ∷ []) k e h in
      elim (cases_lt k (length es)) [
        | inl lt ↦ older k e (slice_get_before_push es y e k lt h)
        | inr ge ↦
            let here : k ≡ length es = omega (arith, n, w, ge) in
            let same : y ≡ e = same_Some y e (sym (slice_get-push_new es y) ∙ ap (λ i. slice_get (es ++ y ∷ []) i) (sym here) ∙ h) in
            subst (λ (x : ListEntry). end_of x.before ≤ k) same (let i = inside a in omega (arith, i, here))
      ]

  pushed_has : InChain (es ++ entry_for ls a m ∷ []) (get_or (set ls a (Some (length es))) a None) m
  pushed_has =
      let y : ListEntry = entry_for ls a m in
      subst (λ (o : Option ℕ). InChain (es ++ y ∷ []) o m) (sym (get_or-set_same ls a (Some (length es)) None l)) (at (slice_get-push_new es y))

  pushed_kept : (b i : ℕ) → InChain es (get_or ls b None) i
      → InChain (es ++ entry_for ls a m ∷ []) (get_or (set ls a (Some (length es))) b None) i
  pushed_kept b i c =
      let y : ListEntry = entry_for ls a m in
      last-set ls a b (length es) (λ o. InChain (es ++ y ∷ []) o i) l
      (λ e. after (slice_get-push_new es y) (chain_kept es y (subst (λ (j : ℕ). InChain es (get_or ls j None) i) e c)))
      (λ _. chain_kept es y c)

  -- what the new entry leads to
  from_new : (i : ℕ) {o : Option ℕ} → o ≡ Some (length es) → InChain (es ++ entry_for ls a m ∷ []) o i → InChain es (get_or ls a None) i ⊎ (i ≡ m)
  from_new i is (at {k = k} {e = e} h) =
      let y : ListEntry = entry_for ls a m in
      let here : k ≡ length es = same_Some k (length es) is in
      let same : y ≡ e = same_Some y e (sym (slice_get-push_new es y) ∙ ap (λ i. slice_get (es ++ y ∷ []) i) (sym here) ∙ h) in
      inr (ap (λ (x : ListEntry). x.method) (sym same))
  from_new i is (after {k = k} {e = e} h c) =
      let y : ListEntry = entry_for ls a m in
      let here : k ≡ length es = same_Some k (length es) is in
      let same : y ≡ e = same_Some y e (sym (slice_get-push_new es y) ∙ ap (λ i. slice_get (es ++ y ∷ []) i) (sym here) ∙ h) in
      inl (chain_before_push es y older (inside a) (subst (λ (x : ListEntry). InChain (es ++ y ∷ []) x.before i) (sym same) c))

  pushed_only : (b i : ℕ) → InChain (es ++ entry_for ls a m ∷ []) (get_or (set ls a (Some (length es))) b None) i
      → InChain es (get_or ls b None) i ⊎ ((b ≡ a) × (i ≡ m))
  pushed_only b i =
      let y : ListEntry = entry_for ls a m in
      last-set ls a b (length es) (λ o. InChain (es ++ y ∷ []) o i → InChain es (get_or ls b None) i ⊎ ((b ≡ a) × (i ≡ m))) l
      (λ e c. elim (from_new i refl c) [
        | inl d ↦ inl (subst (λ (j : ℕ). InChain es (get_or ls j None) i) (sym e) d)
        | inr q ↦ inr (e, q)
      ])
      (λ _ c. inl (chain_before_push es y older (inside b) c))

pub pushes : (old new : MethodLists) (a m : ℕ) → AreOrderly old → a < length old.last.items
    → new.entries.items ≡ old.entries.items ++ (record { method = m; before = last_of old a }) ∷ []
    → new.last.items ≡ set old.last.items a (Some (length old.entries.items))
    → Pushes a m old new
pushes old new a m orderly l entries last =
    let ls : List (Option ℕ) = old.last.items in
    let es : List ListEntry = old.entries.items in
    record {
      orderly = record {
        inside = rw (entries, last) (pushed_inside ls es a m l orderly.inside orderly.older);
        older = rw entries (pushed_older ls es a m l orderly.inside orderly.older);
      };
      count = ap length last ∙ length-set ls a (Some (length es));
      has = rw (entries, last) (pushed_has ls es a m l orderly.inside orderly.older);
      kept = rw (entries, last) (pushed_kept ls es a m l orderly.inside orderly.older);
      only = rw (entries, last) (pushed_only ls es a m l orderly.inside orderly.older);
    }

chain_none : {o : Option ℕ} {m : ℕ} → InChain [] o m → ⊥
chain_none (at {e = e} is) = none-some e is
chain_none (after {e = e} is c) = none-some e is

last_of_none : (n a : ℕ) → ◌≡◌ {A = Option ℕ} (get_or (replicate n None) a None) None
last_of_none zero a = refl
last_of_none (suc n) zero = refl
last_of_none (suc n) (suc a) = last_of_none n a

pub empty : (n : ℕ) (lists : MethodLists) → lists.last.items ≡ replicate n None → lists.entries.items ≡ [] → AreEmpty lists
empty n lists last entries = record {
  orderly = record {
    inside = rw (entries, last) (λ a. subst (λ (o : Option ℕ). end_of o ≤ 0) (sym (last_of_none n a)) (omega arith));
    older = rw entries (λ k e h. absurd (none-some e h));
  };
  none = rw entries (λ a m c. chain_none c);
}

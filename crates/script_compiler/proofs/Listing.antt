-- Lists of the edges and of the waits that were looked at.
use Rattle.script_compiler.proofs.Prelude.{◌≡◌, ℕ, ◌+◌, ◌<◌, ◌⊎◌, List, [], ◌∷◌, ◌++◌, length, get_or, take, min, ap, sym, subst, ◌∙◌, inl, inr, take_more, Contains-push, Contains-push_cases, Contains-append_left, Has, Pushes, AreListsOf, Calls, WaitsInPlace, CallEdge, RootWait, MethodLists}

one_more : (is_in was_in : ℕ → ℕ → Type 0) (count a m : ℕ) (old new : MethodLists) → AreListsOf was_in count old → Pushes a m old new
    → ((b n : ℕ) → was_in b n → is_in b n) → is_in a m → ((b n : ℕ) → is_in b n → was_in b n ⊎ ((b ≡ a) × (n ≡ m)))
    → AreListsOf is_in count new
one_more is_in was_in count a m old new were pushes kept here only = record {
  orderly = pushes.orderly;
  same = pushes.count ∙ were.same;
  all = λ b n h. elim (only b n h) [
    | inl w ↦ pushes.kept b n (were.all b n w)
    | inr e ↦ subst (λ (i : ℕ). Has new i n) (sym e.0) (subst (λ (j : ℕ). Has new a j) (sym e.1) pushes.has)
  ];
  only = λ b n h. elim (pushes.only b n h) [
    | inl w ↦ kept b n (were.only b n w)
    | inr e ↦ subst (λ (i : ℕ). is_in i n) (sym e.0) (subst (λ (j : ℕ). is_in a j) (sym e.1) here)
  ];
}

pub edge_listed : (edges : List CallEdge) (i : ℕ) (d : CallEdge) (count : ℕ) (old new : MethodLists) → i < length edges
    → AreListsOf (Calls (take i edges)) count old → Pushes (get_or edges i d).to (get_or edges i d).from old new
    → AreListsOf (Calls (take (i + 1) edges)) count new
edge_listed edges i d count old new l were pushes =
    let e : CallEdge = get_or edges i d in
    subst (λ (s : List CallEdge). AreListsOf (Calls s) count new) (sym (take_more edges i d l))
    (one_more (Calls (take i edges ++ e ∷ [])) (Calls (take i edges)) count e.to e.from old new were pushes
    (λ b n h. Contains-append_left (take i edges) (e ∷ []) _ h)
    (Contains-push (take i edges) e)
    (λ b n h. elim (Contains-push_cases (take i edges) e _ h) [
      | inl w ↦ inl w
      | inr q ↦ inr (ap (λ (x : CallEdge). x.to) (sym q), ap (λ (x : CallEdge). x.from) (sym q))
    ]))

pub wait_listed : (waits : List RootWait) (roots i : ℕ) (d : RootWait) (count place : ℕ) (old new : MethodLists) → i < length waits → place ≡ min roots (get_or waits i d).root
    → AreListsOf (WaitsInPlace (take i waits) roots) count old → Pushes place (get_or waits i d).method old new
    → AreListsOf (WaitsInPlace (take (i + 1) waits) roots) count new
wait_listed waits roots i d count place old new l is were pushes =
    let w : RootWait = get_or waits i d in
    subst (λ (s : List RootWait). AreListsOf (WaitsInPlace s roots) count new) (sym (take_more waits i d l))
    (one_more (WaitsInPlace (take i waits ++ w ∷ []) roots) (WaitsInPlace (take i waits) roots) count place w.method old new were pushes
    (λ b n h. record { root = h.root; wait = Contains-append_left (take i waits) (w ∷ []) _ h.wait; is = h.is })
    (record { root = w.root; wait = Contains-push (take i waits) w; is = is })
    (λ b n h. elim (Contains-push_cases (take i waits) w _ h.wait) [
      | inl q ↦ inl (record { root = h.root; wait = q; is = h.is })
      | inr q ↦ inr (h.is ∙ ap (λ (x : RootWait). min roots x.root) (sym q) ∙ sym is, ap (λ (x : RootWait). x.method) (sym q))
    ]))

-- Lists one after another: what holds of each, and what a change of one changes.
use Rattle.swift_executor.proofs.Prelude.{◌≡◌, ℕ, zero, suc, ◌+◌, ◌<◌, ◌≤◌, List, [], ◌∷◌, ◌++◌, length, get_or, set, refl, subst, arith, append_assoc, All-nil, All-append, get_or_append_left, get_or-append-add, IsPermutation-trans, IsPermutation-append_left, IsPermutation-append_right, IsPermutation-append_comm, IsPermutation-sym, All, flat_map, IsPermutation}
use Rattle.std.proofs.Common.{length-append}

module _ {X L : Type 0} (f : L → List X) where
  -- what holds of each element of each list holds of all
  pub all_flat : (P : X → Type 0) (ls : List L) → ((k : ℕ) (d : L) → k < length ls → All P (f (get_or ls k d))) → All P (flat_map f ls)
  all_flat P [] h = All-nil P
  all_flat P (l ∷ ls) h = All-append P (f l) (flat_map f ls) (h 0 l (omega arith)) (all_flat P ls (λ k d lt. h (suc k) d (omega (arith, lt))))

  -- and the other way
  pub all_list : (P : X → Type 0) (ls : List L) (k : ℕ) (d : L) → k < length ls → All P (flat_map f ls) → All P (f (get_or ls k d))
  all_list P [] k d lt h = absurd (omega (arith, lt))
  all_list P (l ∷ ls) zero d lt h = λ i e il. subst (λ (x : X). P x) (get_or_append_left (f l) (flat_map f ls) e i il) (h i e (omega (arith, il, length-append (f l) (flat_map f ls))))
  all_list P (l ∷ ls) (suc k) d lt h =
      all_list P ls k d (omega (arith, lt))
      (λ i e il. subst (λ (x : X). P x) (get_or-append-add (f l) (flat_map f ls) i e) (h (length (f l) + i) e (omega (arith, il, length-append (f l) (flat_map f ls)))))

  -- a list is no longer than all
  pub list_short : (ls : List L) (k : ℕ) (d : L) → k < length ls → length (f (get_or ls k d)) ≤ length (flat_map f ls)
  list_short [] k d lt = absurd (omega (arith, lt))
  list_short (l ∷ ls) zero d lt = omega (arith, length-append (f l) (flat_map f ls))
  list_short (l ∷ ls) (suc k) d lt = omega (arith, length-append (f l) (flat_map f ls), list_short ls k d (omega (arith, lt)))

  -- where no list has an element there is none
  pub none_flat : (ls : List L) → ((k : ℕ) (d : L) → k < length ls → length (f (get_or ls k d)) ≡ 0) → length (flat_map f ls) ≡ 0
  none_flat [] h = refl
  none_flat (l ∷ ls) h = omega (arith, length-append (f l) (flat_map f ls), h 0 l (omega arith), none_flat ls (λ k d lt. h (suc k) d (omega (arith, lt))))

  -- where us and a list have together what vs and another list have, this is so of all lists
  pub exchange : (us vs : List X) (ls : List L) (k : ℕ) (l' d : L) → k < length ls → IsPermutation (us ++ f (get_or ls k d)) (vs ++ f l') → IsPermutation (us ++ flat_map f ls) (vs ++ flat_map f (set ls k l'))
  exchange us vs [] k l' d lt h = absurd (omega (arith, lt))
  exchange us vs (l ∷ ls) zero l' d lt h =
      subst (λ (s : List X). IsPermutation s (vs ++ (f l' ++ flat_map f ls))) (append_assoc us (f l) (flat_map f ls))
      (subst (λ (s : List X). IsPermutation (us ++ f l ++ flat_map f ls) s) (append_assoc vs (f l') (flat_map f ls))
      (IsPermutation-append_left (flat_map f ls) (us ++ f l) (vs ++ f l') h))
  exchange us vs (l ∷ ls) (suc k) l' d lt h =
      let rest = exchange us vs ls k l' d (omega (arith, lt)) h in
      let swap : (ws rs : List X) → IsPermutation (ws ++ (f l ++ rs)) (f l ++ (ws ++ rs)) = λ ws rs.
      subst (λ (s : List X). IsPermutation s (f l ++ (ws ++ rs))) (append_assoc ws (f l) rs)
      (subst (λ (s : List X). IsPermutation (ws ++ f l ++ rs) s) (append_assoc (f l) ws rs)
      (IsPermutation-append_left rs (ws ++ f l) (f l ++ ws) (IsPermutation-append_comm ws (f l)))) in
      IsPermutation-trans (us ++ (f l ++ flat_map f ls)) (f l ++ (us ++ flat_map f ls)) (vs ++ (f l ++ flat_map f (set ls k l'))) (swap us (flat_map f ls))
      (IsPermutation-trans (f l ++ (us ++ flat_map f ls)) (f l ++ (vs ++ flat_map f (set ls k l'))) (vs ++ (f l ++ flat_map f (set ls k l')))
      (IsPermutation-append_right (f l) (us ++ flat_map f ls) (vs ++ flat_map f (set ls k l')) rest)
      (IsPermutation-sym (vs ++ (f l ++ flat_map f (set ls k l'))) (f l ++ (vs ++ flat_map f (set ls k l'))) (swap vs (flat_map f (set ls k l')))))

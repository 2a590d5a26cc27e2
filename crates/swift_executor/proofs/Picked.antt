-- What a pick leaves.
use Rattle.swift_executor.proofs.Prelude.{◌≡◌, ℕ, Bool, List, [], ◌∷◌, length, map, Contains, refl, ap, sym, subst, ◌∙◌, arith, All-contains, All-head, All-nil, Contains-append_left, Contains-push, All-permutation, Contains-permutation, IsPermutation-sym, IsPermutation-trans, length_permutation, All, IsPermutation, JobView, ComesFirst, ReadyJobsView, ReadyJob}

module _ {B : Type 0} where
  -- levels that were counted, and then a job taken or put back
  pub two_steps : (s one two : ReadyJobsView B) → one ≡ record s { front = one.front; levels = one.levels } → two ≡ record one { front = two.front } → two ≡ record s { front = two.front; levels = two.levels }
  two_steps s one two e f =
      f ∙ ap (λ (r : ReadyJobsView B). record r { front = two.front }) e ∙ ap (λ (ls : List ℕ). record s { front = two.front; levels = ls }) (sym (ap (λ (r : ReadyJobsView B). r.levels) f))

  pub none_left : (xs ys : List (ReadyJob B)) → IsPermutation xs ys → ys ≡ [] → xs ≡ []
  none_left [] ys perm is = refl
  none_left (x ∷ xs) ys perm is = let len = length_permutation (x ∷ xs) ys perm in let none = ap length is in absurd (omega (arith, len, none))

  -- what was counted in another order
  pub all_of : (by : Bool) (levels : List ℕ) (x : ReadyJob B) (xs ys : List (ReadyJob B)) → IsPermutation xs ys → All (ComesFirst by levels x) ys → All (ComesFirst by levels x) xs
  all_of by levels x xs ys perm all = All-permutation (ComesFirst by levels x) ys xs (IsPermutation-sym xs ys perm) all

  pub was_inside : (xs ys rest : List (ReadyJob B)) (x : ReadyJob B) → IsPermutation xs ys → IsPermutation ys (x ∷ rest) → Contains xs x
  was_inside xs ys rest x one two =
      Contains-permutation (x ∷ rest) xs x (IsPermutation-sym xs (x ∷ rest) (IsPermutation-trans xs ys (x ∷ rest) one two)) (Contains-append_left (x ∷ []) rest x (Contains-push [] x))

  -- where none is in front, none leads
  pub none_behind : (front : List (ReadyJob B)) (behind : List (JobView B)) → front ≡ [] → All (λ j. Contains (map (λ (x : ReadyJob B). x.job.task) front) j.task) behind → behind ≡ []
  none_behind front [] is led = refl
  none_behind front (j ∷ behind) is led =
      let has = All-head (λ (j : JobView B). Contains (map (λ (x : ReadyJob B). x.job.task) front) j.task) j behind led in
      let none = subst (λ (xs : List (ReadyJob B)). Contains (map (λ (x : ReadyJob B). x.job.task) xs) j.task) is has in
      absurd (All-contains (λ _. ⊥) [] j.task (All-nil (λ _. ⊥)) none)

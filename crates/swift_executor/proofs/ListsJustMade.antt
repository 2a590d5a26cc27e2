-- Lists that were just made, two and two.
use Rattle.swift_executor.proofs.Prelude.{◌≡◌, ℕ, zero, suc, ◌<◌, ◌≤◌, List, [], ◌∷◌, length, refl, ap, sym, subst, arith, All, slice_index_or, deque_capacity, VecDeque, rank, Waiting, IsByArrival, IsList, AreEmptyFrom, AreLists}

module _ {B Z : Type 0} where
  new_list : (room level : ℕ) (list : VecDeque (Waiting B) Z) → list.items ≡ [] → room ≤ deque_capacity list → IsList room level list
  new_list room level list empty made = record {
    made = made;
    by_arrival = subst (λ (xs : List (Waiting B)). IsByArrival xs) (sym empty) (λ i j d less within. absurd (omega (arith, within)));
    ranks = subst (λ (xs : List (Waiting B)). All (λ x. rank x.priority ≡ level) xs) (sym empty) (λ k d within. absurd (omega (arith, within)));
  }

  -- they are the lists of all priorities
  pub new_lists : (room : ℕ) (a b c d : VecDeque (Waiting B) Z) → (a.items ≡ []) × (b.items ≡ []) → (room ≤ deque_capacity a) × (room ≤ deque_capacity b)
      → (c.items ≡ []) × (d.items ≡ []) → (room ≤ deque_capacity c) × (room ≤ deque_capacity d) → AreLists room (a ∷ b ∷ c ∷ d ∷ [])
  new_lists room a b c d lower_empty lower_made higher_empty higher_made = record { four = refl; each = each }
    where
      each : (k : ℕ) (x : VecDeque (Waiting B) Z) → k < 4 → IsList room k (slice_index_or (a ∷ b ∷ c ∷ d ∷ []) k x)
      each zero x within = new_list room 0 a lower_empty.0 lower_made.0
      each (suc zero) x within = new_list room 1 b lower_empty.1 lower_made.1
      each (suc (suc zero)) x within = new_list room 2 c higher_empty.0 higher_made.0
      each (suc (suc (suc zero))) x within = new_list room 3 d higher_empty.1 higher_made.1
      each (suc (suc (suc (suc k)))) x within = absurd (omega (arith, within))

  -- no job stands in them
  pub new_lists_empty : (a b c d : VecDeque (Waiting B) Z) → (a.items ≡ []) × (b.items ≡ []) → (c.items ≡ []) × (d.items ≡ []) → AreEmptyFrom 0 (a ∷ b ∷ c ∷ d ∷ [])
  new_lists_empty a b c d lower higher zero x low within = ap length lower.0
  new_lists_empty a b c d lower higher (suc zero) x low within = ap length lower.1
  new_lists_empty a b c d lower higher (suc (suc zero)) x low within = ap length higher.0
  new_lists_empty a b c d lower higher (suc (suc (suc zero))) x low within = ap length higher.1
  new_lists_empty a b c d lower higher (suc (suc (suc (suc k)))) x low within = absurd (omega (arith, within))

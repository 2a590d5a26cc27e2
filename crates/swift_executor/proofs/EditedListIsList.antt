-- One list among lists: what an edit of it leaves true.
use Rattle.swift_executor.proofs.Prelude.{◌≡◌, ℕ, suc, ◌<◌, ◌≤◌, List, [], ◌∷◌, ◌++◌, take, drop, length, get_or, set, sym, subst, inl, inr, arith, get_or-set_same, get_or-set_other, length-set, cases_eq, All-append, All-cons, All-drop, All-push, All-tail, All-take, All-permutation, All, remove, IsPermutation, deque_capacity, VecDeque, rank, Priority, Waiting, IsByArrival, IsList}
use Rattle.std.proofs.lemmas.List.Quantifiers.{all_pairs_push, all_pairs_remove}
use Rattle.swift_types.specs.declared.priority.Priority.TheVariants.{Background, Low, Medium, High}
use Rattle.swift_executor.proofs.PairsInAnyOrder.{pairs_tail}

-- what holds of each element by its place holds after one was written
pub each_set : {L : Type 0} (P : ℕ → L → Type 0) (ls : List L) (k : ℕ) (l' : L) → P k l' → ((j : ℕ) (d : L) → j < length ls → P j (get_or ls j d)) → (j : ℕ) (d : L) → j < length (set ls k l') → P j (get_or (set ls k l') j d)
each_set {L} P ls k l' p h j d lt =
    let len = length-set ls k l' in
    let l : j < length ls = omega (arith, lt, len) in
    elim (cases_eq j k) [
      | inl e ↦ subst (λ (i : ℕ). P i (get_or (set ls k l') i d)) (sym e) (subst (λ (x : L). P k x) (sym (get_or-set_same ls k l' d (omega (arith, l, e)))) p)
      | inr n ↦ subst (λ (x : L). P j x) (sym (get_or-set_other ls k j l' d n)) (h j d l)
    ]

module _ {B Z : Type 0} where
  pub push_list : (room level : ℕ) (list list' : VecDeque (Waiting B) Z) (w : Waiting B) → IsList room level list → rank w.priority ≡ level → All (λ (x : Waiting B). x.arrival < w.arrival) list.items
      → list'.items ≡ list.items ++ w ∷ [] → deque_capacity list' ≡ deque_capacity list → IsList room level list'
  push_list room level list list' w h r newest items cap =
      let made = h.made in
      record {
        made = omega (arith, made, cap);
        by_arrival = subst (λ (s : List (Waiting B)). IsByArrival s) (sym items) (all_pairs_push (λ (x y : Waiting B). x.arrival < y.arrival) list.items w h.by_arrival newest);
        ranks = subst (λ (s : List (Waiting B)). All (λ (x : Waiting B). rank x.priority ≡ level) s) (sym items) (All-push (λ (x : Waiting B). rank x.priority ≡ level) list.items w h.ranks r);
      }

  pub pop_list : (room level : ℕ) (list list' : VecDeque (Waiting B) Z) (w : Waiting B) → IsList room level list → list.items ≡ w ∷ list'.items → deque_capacity list' ≡ deque_capacity list → IsList room level list'
  pop_list room level list list' w h items cap =
      let made = h.made in
      record {
        made = omega (arith, made, cap);
        by_arrival = pairs_tail (λ (x y : Waiting B). x.arrival < y.arrival) w list'.items (subst (λ (s : List (Waiting B)). IsByArrival s) items h.by_arrival);
        ranks = All-tail (λ (x : Waiting B). rank x.priority ≡ level) w list'.items (subst (λ (s : List (Waiting B)). All (λ (x : Waiting B). rank x.priority ≡ level) s) items h.ranks);
      }

pub rank_few : (p : Priority) → rank p < 4
rank_few Background = omega arith
rank_few Low = omega arith
rank_few Medium = omega arith
rank_few High = omega arith

module _ {B Z : Type 0} where
  pub remove_list : (room level : ℕ) (list list' : VecDeque (Waiting B) Z) (place : ℕ) → IsList room level list → place < length list.items → list'.items ≡ remove list.items place → deque_capacity list' ≡ deque_capacity list → IsList room level list'
  remove_list room level list list' place h lt items cap =
      let made = h.made in
      let P : Waiting B → Type 0 = λ x. rank x.priority ≡ level in
      record {
        made = omega (arith, made, cap);
        by_arrival = subst (λ (s : List (Waiting B)). IsByArrival s) (sym items) (all_pairs_remove (λ (x y : Waiting B). x.arrival < y.arrival) list.items place lt h.by_arrival);
        ranks = subst (λ (s : List (Waiting B)). All P s) (sym items)
            (All-append P (take place list.items) (drop (suc place) list.items) (All-take P place list.items h.ranks) (All-drop P (suc place) list.items h.ranks));
      }

  pub insert_list : (room level : ℕ) (list list' : VecDeque (Waiting B) Z) (w : Waiting B) → IsList room level list → rank w.priority ≡ level → IsByArrival list'.items → IsPermutation (w ∷ list.items) list'.items → deque_capacity list ≤ deque_capacity list'
      → IsList room level list'
  insert_list room level list list' w h r by_arrival p cap =
      let made = h.made in
      let P : Waiting B → Type 0 = λ x. rank x.priority ≡ level in
      record {
        made = omega (arith, made, cap);
        by_arrival = by_arrival;
        ranks = All-permutation P (w ∷ list.items) list'.items p (All-cons P w list.items r h.ranks);
      }

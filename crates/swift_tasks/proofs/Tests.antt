-- Tests of groups, and elements of lists.
use Rattle.swift_tasks.proofs.Prelude.{◌≡◌, ℕ, ◌+◌, ◌<◌, ◌≤◌, Bool, true, false, leb, arith, List, [], ◌∷◌, length, zero, suc, refl, ap, ◌∙◌, inl, inr, get_or, ◌&&◌, not, nat_lt, cases_eq, false≢true, nat_tests, Event, is_closed, is_open_group, opened_by}

-- a group that was opened in this turn is open
pub new_is_open : (closed : Bool) (group opened now : ℕ) → group < now → opened ≤ group → closed ≡ false → leb opened group ≡ (nat_lt group now && not closed)
new_is_open closed group opened now lt le none = rw none (grind (arith, nat_tests))

-- one more group that is not open is closed
pub closed_next : (t k : ℕ) (log : List Event) → ((g : ℕ) → g < k → is_closed t g log ≡ true) → k < opened_by t log → is_open_group t k log ≡ false → (g : ℕ) → g < k + 1 → is_closed t g log ≡ true
closed_next t k log before lt shut g le = elim (cases_eq g k) [
  | inl same ↦ ap (λ (n : ℕ). is_closed t n log) same ∙ not_open (is_closed t k log) shut
  | inr other ↦ before g (omega (arith, le, other))
]
  where
    not_open : (closed : Bool) → (nat_lt k (opened_by t log) && not closed) ≡ false → closed ≡ true
    not_open true h = refl
    not_open false h = grind (arith, nat_tests)

-- a group that is open is not closed
pub open_unclosed : (lt closed : Bool) → (lt && not closed) ≡ true → closed ≡ true → ⊥
open_unclosed true true h is = false≢true h
open_unclosed false true h is = false≢true h
open_unclosed lt false h is = false≢true is

-- past no end, the default does not count
pub get_or_any : {A : Type 0} (xs : List A) (k : ℕ) (d e : A) → k < length xs → get_or xs k d ≡ get_or xs k e
get_or_any [] k d e lt = absurd (omega (arith, lt))
get_or_any (x ∷ xs) zero d e lt = refl
get_or_any (x ∷ xs) (suc k) d e lt = get_or_any xs k d e (omega (arith, lt))

-- What workers leave that have ended or sleep.
use Rattle.swift_workers.proofs.Prelude.{◌≡◌, ◌≢◌, ℕ, zero, suc, ◌+◌, ◌-◌, ◌<◌, ◌≤◌, Bool, cond, List, [], ◌∷◌, ◌++◌, length, take, drop, Option, Some, None, refl, sym, ap, ◌∙◌, subst, ⊎_elim, arith, length-append, length-drop, take-append-drop, eq-eqb, ne_eqb, ExecId, PoolTold, WorkerNext, Visit, Pause, Rest, Stop, AreTurns, PoolCall, calls_of, first_pool, given_by, owed_after, owed_first, taken_in, takes, total}
use Rattle.std.proofs.lemmas.Bool.{cases_eq, cases_lt}
use mathlib.Core.Option.{some}
use lib.ListN.{get_elem?}
use Rattle.swift_workers.specs.PoolEnds.{HoldsNothing, SleepsOrEnds, WhoEndsLeavesNothing, ended_in, held_after, last_next, or_before}
use Rattle.swift_workers.proofs.PoolLaws.{tokens_kept, total_append}

-- One seat

given_length : (n : Option WorkerNext) → length (given_by n) ≡ takes n
given_length None = refl
given_length (Some (Visit on)) = refl
given_length (Some Pause) = refl
given_length (Some Rest) = refl
given_length (Some Stop) = refl

-- a worker holds no more than it owes
few_held : (owes : ℕ) (held : List ExecId) (cs : List PoolCall) → length held ≤ owes → length (held_after held cs) ≤ owed_after owes cs
few_held owes held [] le = le
few_held owes held (c ∷ cs) le =
    few_held (owes - c.ends + takes c.next) (drop c.ends held ++ given_by c.next) cs (omega (arith, le, length-append (drop c.ends held) (given_by c.next), length-drop c.ends held, given_length c.next))

-- who was told last to pause, to rest or to stop owes nothing
owes_none : (owes : ℕ) (before : Option WorkerNext) (cs : List PoolCall) → AreTurns owes cs → (SleepsOrEnds before → owes ≡ 0) → SleepsOrEnds (last_next before cs) → owed_after owes cs ≡ 0
owes_none owes before [] turns out is = out is
owes_none owes before (c ∷ cs) turns out is = owes_none (owes - c.ends + takes c.next) (or_before c.next before) cs turns.2 (one c.next turns.1) is
  where
    one : (n : Option WorkerNext) → (n ≢ None → c.ends ≡ owes) → SleepsOrEnds (or_before n before) → owes - c.ends + takes n ≡ 0
    one None all is' = omega (arith, out is')
    one (Some (Visit on)) all is' = absurd is'
    one (Some Pause) all is' = omega (arith, all (λ e. cc))
    one (Some Rest) all is' = omega (arith, all (λ e. cc))
    one (Some Stop) all is' = omega (arith, all (λ e. cc))

no_length : (xs : List ExecId) → length xs ≡ 0 → xs ≡ []
no_length [] is = refl
no_length (x ∷ xs) is = absurd (omega (arith, is))

pub holds_nothing : HoldsNothing
holds_nothing i seats course seat s at out =
    let known = course.known seat s at in
    let none : SleepsOrEnds None → owed_first seat ≡ 0 = λ is. absurd is in
    let owes : s.view.owes ≡ 0 = ⊎_elim (λ e. e) (λ is. known.owed ∙ owes_none (owed_first seat) None s.view.calls known.turns none is) out in
    (owes, no_length (held_after [] s.view.calls) (omega (arith, owes, known.owed, few_held (owed_first seat) [] s.view.calls (omega arith))))

-- Weights

-- the tokens that a worker was given by these calls
abbrev given_in : List PoolCall → List ExecId
given_in [] = []
given_in (c ∷ cs) = given_by c.next ++ given_in cs

module _ (f : ExecId → ℕ) where
  -- what it held and was given is what it has ended and holds
  given_weighs : (held : List ExecId) (cs : List PoolCall) → total f held + total f (given_in cs) ≡ total f (ended_in held cs) + total f (held_after held cs)
  given_weighs held [] = omega arith
  given_weighs held (c ∷ cs) =
      omega (
        arith,
        given_weighs (drop c.ends held ++ given_by c.next) cs,
        total_append f (drop c.ends held) (given_by c.next),
        total_append f (given_by c.next) (given_in cs),
        total_append f (take c.ends held) (ended_in (drop c.ends held ++ given_by c.next) cs),
        total_append f (take c.ends held) (drop c.ends held),
        ap (total f) (take-append-drop c.ends held),
      )

  -- what `many` seats from a number on were given
  abbrev given_from : List (ℕ × PoolCall) → ℕ → ℕ → ℕ
  given_from h seat zero = 0
  given_from h seat (suc many) = total f (given_in (calls_of h seat)) + given_from h (suc seat) many

  none_given : (seat many : ℕ) → given_from [] seat many ≡ 0
  none_given seat zero = refl
  none_given seat (suc many) = let rest = none_given (suc seat) many in omega (arith, rest)

  -- the seat of a call has it, and no other
  head_given : (d : ℕ × PoolCall) (h : List (ℕ × PoolCall)) → total f (given_in (calls_of (d ∷ h) d.0)) ≡ total f (given_by d.1.next) + total f (given_in (calls_of h d.0))
  head_given d h =
      ap (λ (b : Bool). total f (given_in (cond b (d.1 ∷ calls_of h d.0) (calls_of h d.0)))) (eq-eqb d.0 d.0 refl) ∙ total_append f (given_by d.1.next) (given_in (calls_of h d.0))

  else_given : (d : ℕ × PoolCall) (h : List (ℕ × PoolCall)) (seat : ℕ) → seat ≢ d.0 → calls_of (d ∷ h) seat ≡ calls_of h seat
  else_given d h seat apart = ap (λ (b : Bool). cond b (d.1 ∷ calls_of h seat) (calls_of h seat)) (ne_eqb seat d.0 apart)

  past_given : (d : ℕ × PoolCall) (h : List (ℕ × PoolCall)) (seat many : ℕ) → d.0 < seat → given_from (d ∷ h) seat many ≡ given_from h seat many
  past_given d h seat zero past = refl
  past_given d h seat (suc many) past =
      omega (arith, ap (λ (l : List PoolCall). total f (given_in l)) (else_given d h seat (λ e. absurd (omega (arith, e, past)))), past_given d h (suc seat) many (omega (arith, past)))

  push_given : (d : ℕ × PoolCall) (h : List (ℕ × PoolCall)) (seat many : ℕ) → seat ≤ d.0 → d.0 < seat + many → given_from (d ∷ h) seat many ≡ total f (given_by d.1.next) + given_from h seat many
  push_given d h seat zero le lt = absurd (omega (arith, le, lt))
  push_given d h seat (suc many) le lt =
      ⊎_elim
      (λ e. omega (
        arith,
        subst (λ (n : ℕ). total f (given_in (calls_of (d ∷ h) n)) ≡ total f (given_by d.1.next) + total f (given_in (calls_of h n))) (sym e) (head_given d h),
        past_given d h (suc seat) many (omega (arith, e)),
      ))
      (λ apart. omega (
        arith,
        ap (λ (l : List PoolCall). total f (given_in l)) (else_given d h seat apart),
        push_given d h (suc seat) many (next_le apart) (omega (arith, lt)),
      ))
      (cases_eq seat d.0)
    where
      next_le : seat ≢ d.0 → suc seat ≤ d.0
      next_le apart = ⊎_elim (λ lt'. omega (arith, lt')) (λ ge. absurd (apart (omega (arith, ge, le)))) (cases_lt seat d.0)

  -- where seats from a number on have no calls, what was taken is what those before it were given
  taken_weighs : (h : List (ℕ × PoolCall)) (many : ℕ) → ((seat : ℕ) → many ≤ seat → calls_of h seat ≡ []) → total f (taken_in h) ≡ given_from h 0 many
  taken_weighs [] many others = sym (none_given 0 many)
  taken_weighs (d ∷ h) many others =
      omega (
        arith,
        total_append f (given_by d.1.next) (taken_in h),
        push_given d h 0 many (omega arith) (omega (arith, within)),
        taken_weighs h many (λ seat le. sym (else_given d h seat (λ e. absurd (omega (arith, e, le, within)))) ∙ others seat le),
      )
    where
      own : calls_of (d ∷ h) d.0 ≡ d.1 ∷ calls_of h d.0
      own = ap (λ (b : Bool). cond b (d.1 ∷ calls_of h d.0) (calls_of h d.0)) (eq-eqb d.0 d.0 refl)

      none : (c : PoolCall) (cs : List PoolCall) → c ∷ cs ≡ [] → ⊥
      none c cs e = cc

      within : d.0 < many
      within = ⊎_elim (λ lt. lt) (λ le. absurd (none d.1 (calls_of h d.0) (sym own ∙ others d.0 le))) (cases_lt d.0 many)

  -- each seat has ended what it was given
  seats_weigh : (h : List (ℕ × PoolCall)) (first : ℕ) (seats : List PoolTold)
      → ((seat : ℕ) (s : PoolTold) → get_elem? seats seat ≡ some s → (s.view.calls ≡ calls_of h (first + seat)) × (held_after [] s.view.calls ≡ []))
      → given_from h first (length seats) ≡ total (λ s. total f (ended_in [] s.view.calls)) seats
  seats_weigh h first [] each = refl
  seats_weigh h first (s ∷ seats) each =
      let here = each 0 s refl in
      let calls : s.view.calls ≡ calls_of h first = here.0 ∙ ap (calls_of h) (omega arith) in
      omega (
        arith,
        ap (λ (l : List PoolCall). total f (given_in l)) calls,
        given_weighs [] s.view.calls,
        ap (total f) here.1,
        seats_weigh h (suc first) seats (λ seat u at. let next = each (suc seat) u at in (next.0 ∙ ap (calls_of h) (omega arith), next.1)),
      )

pub leaves_nothing : WhoEndsLeavesNothing
leaves_nothing i seats course out f =
    let h = course.history in
    omega (
      arith,
      tokens_kept i.crew h first_pool i.facts course.leads f,
      total_append f (taken_in h) i.facts.tokens,
      taken_weighs f h (length seats) course.others,
      seats_weigh f h 0 seats (λ seat s at. ((course.known seat s at).calls ∙ ap (calls_of h) (omega arith), (holds_nothing i seats course seat s at (out seat s at)).1)),
    )

-- Each kind of step keeps the rule of a pool.
use Rattle.swift_workers.proofs.Prelude.{◌≡◌, ◌≢◌, ◌⊎◌, ℕ, zero, suc, ◌==◌, ◌+◌, ◌-◌, ◌<◌, ◌≤◌, Bool, true, false, cond, List, [], ◌∷◌, ◌++◌, set, length, Option, Some, None, refl, sym, ap, ◌∙◌, subst, ⊎_elim, inl, inr, arith, length-append, length-set, eq-eqb, ne_eqb, ExecId, WorkerNext, Visit, Pause, Rest, Stop, Halt, PoolTold, AreTurns, IsAnswer, IsAtEnd, IsCall, IsHistory, PoolCall, PoolCrew, PoolFacts, PoolView, PoolKnown, after_call, calls_of, first_known, first_pool, has_put, or_else, owed_after, owed_first, split_left, split_new, stops, takes, tells, total, IsKnown, IsInCourse, IsPoolCourse}
use mathlib.Core.Option.{some, some-injective, some-ne-none}
use lib.ListN.{get_elem?}
use Rattle.atomic_table.proofs.Lists.{at_set}

-- Totals

module _ {A : Type 0} (f : A → ℕ) where
  pub total_set : (xs : List A) (i : ℕ) (v w : A) → get_elem? xs i ≡ some v → total f (set xs i w) + f v ≡ total f xs + f w
  total_set [] i v w at = absurd (some-ne-none v (sym at))
  total_set (x ∷ xs) zero v w at = let e : f x ≡ f v = ap f (some-injective x v at) in omega arith
  total_set (x ∷ xs) (suc i) v w at = omega (arith, total_set xs i v w at)

  pub total_push : (xs : List A) (w : A) → total f (xs ++ w ∷ []) ≡ total f xs + f w
  total_push [] w = omega arith
  total_push (x ∷ xs) w = omega (arith, total_push xs w)

  pub total_at : (xs : List A) (i : ℕ) (v : A) → get_elem? xs i ≡ some v → f v ≤ total f xs
  total_at [] i v at = absurd (some-ne-none v (sym at))
  total_at (x ∷ xs) zero v at = let e : f x ≡ f v = ap f (some-injective x v at) in omega arith
  total_at (x ∷ xs) (suc i) v at = omega (arith, total_at xs i v at)

module _ {A : Type 0} (f g : A → ℕ) where
  -- where each is at most another, so is the total, and one's slack is left
  pub total_le : (xs : List A) (i : ℕ) (v : A) → get_elem? xs i ≡ some v → ((j : ℕ) (u : A) → get_elem? xs j ≡ some u → f u ≤ g u) → total f xs + g v ≤ total g xs + f v
  total_le [] i v at each = absurd (some-ne-none v (sym at))
  total_le (x ∷ xs) zero v at each =
      let e : f x ≡ f v = ap f (some-injective x v at) in
      let e' : g x ≡ g v = ap g (some-injective x v at) in
      omega (arith, total_all xs (λ j u. each (suc j) u))
    where
      total_all : (ys : List A) → ((j : ℕ) (u : A) → get_elem? ys j ≡ some u → f u ≤ g u) → total f ys ≤ total g ys
      total_all [] each = omega arith
      total_all (y ∷ ys) each = omega (arith, each 0 y refl, total_all ys (λ j u. each (suc j) u))
  total_le (x ∷ xs) (suc i) v at each = omega (arith, each 0 x refl, total_le xs i v at (λ j u. each (suc j) u))

-- Histories

module _ (crew : PoolCrew) where
  pub history_push : (h : List (ℕ × PoolCall)) (p q r : PoolFacts) (s : ℕ) (c : PoolCall) → IsHistory crew h p q → IsCall crew q c r → IsHistory crew (h ++ (s, c) ∷ []) p r
  history_push [] p q r s c is call = (r, subst (λ (x : PoolFacts). IsCall crew x c r) is call, refl)
  history_push (d ∷ h) p q r s c is call = (is.0, is.1, history_push h is.0 q r s c is.2 call)

pub calls_own : (h : List (ℕ × PoolCall)) (s : ℕ) (c : PoolCall) → calls_of (h ++ (s, c) ∷ []) s ≡ calls_of h s ++ c ∷ []
calls_own [] s c = ap (λ (b : Bool). cond b (c ∷ []) []) (eq-eqb s s refl)
calls_own (d ∷ h) s c = at (s == d.0) (calls_of (h ++ (s, c) ∷ []) s) (calls_of h s) (calls_own h s c)
  where
    at : (b : Bool) (xs ys : List PoolCall) → xs ≡ ys ++ c ∷ [] → cond b (d.1 ∷ xs) xs ≡ cond b (d.1 ∷ ys) ys ++ c ∷ []
    at true xs ys e = ap (λ (l : List PoolCall). d.1 ∷ l) e
    at false xs ys e = e

pub calls_else : (h : List (ℕ × PoolCall)) (s t : ℕ) (c : PoolCall) → t ≢ s → calls_of (h ++ (s, c) ∷ []) t ≡ calls_of h t
calls_else [] s t c apart = ap (λ (b : Bool). cond b (c ∷ []) []) (ne_eqb t s apart)
calls_else (d ∷ h) s t c apart = at (t == d.0) (calls_of (h ++ (s, c) ∷ []) t) (calls_of h t) (calls_else h s t c apart)
  where
    at : (b : Bool) (xs ys : List PoolCall) → xs ≡ ys → cond b (d.1 ∷ xs) xs ≡ cond b (d.1 ∷ ys) ys
    at true xs ys e = ap (λ (l : List PoolCall). d.1 ∷ l) e
    at false xs ys e = e

-- The end

given_up : (a b : Option Halt) → a ≢ None → or_else a b ≢ None
given_up (Some x) b is = is
given_up None b is = absurd (is refl)

told_up : (a : Option Halt) (b : Option Halt) → (b ≢ None) → or_else a b ≢ None
told_up (Some x) b is = λ e. cc
told_up None b is = is

no_tokens : (before after : List ExecId) (on : ExecId) → [] ≡ before ++ on ∷ after → ⊥
no_tokens [] after on e = cc
no_tokens (x ∷ xs) after on e = cc

module _ (crew : PoolCrew) where
  -- an answer leaves the cause
  pub answer_halt : (w : ℕ) (p q : PoolFacts) (n : Option WorkerNext) → IsAnswer crew w p n q → q.halt ≡ p.halt
  answer_halt w p q None is = ap (λ (x : PoolFacts). x.halt) is
  answer_halt w p q (Some (Visit on)) is = ap (λ (x : PoolFacts). x.halt) is.3
  answer_halt w p q (Some Pause) is = ap (λ (x : PoolFacts). x.halt) is.3
  answer_halt w p q (Some Rest) is = ap (λ (x : PoolFacts). x.halt) is.3
  answer_halt w p q (Some Stop) is = ap (λ (x : PoolFacts). x.halt) is.1

  -- and counts who takes a token
  pub answer_under_way : (w : ℕ) (p q : PoolFacts) (n : Option WorkerNext) → IsAnswer crew w p n q → q.under_way ≡ p.under_way + takes n
  answer_under_way w p q None is = let e = ap (λ (x : PoolFacts). x.under_way) is in omega arith
  answer_under_way w p q (Some (Visit on)) is = ap (λ (x : PoolFacts). x.under_way) is.3
  answer_under_way w p q (Some Pause) is = let e = ap (λ (x : PoolFacts). x.under_way) is.3 in omega arith
  answer_under_way w p q (Some Rest) is = let e = ap (λ (x : PoolFacts). x.under_way) is.3 in omega arith
  answer_under_way w p q (Some Stop) is = let e = ap (λ (x : PoolFacts). x.under_way) is.1 in omega arith

  -- where the run is over, it stays so
  answer_over : (w : ℕ) (p q : PoolFacts) (n : Option WorkerNext) → p.tokens ≡ [] → p.under_way ≡ 0 → IsAnswer crew w p n q → (q.tokens ≡ []) × (q.under_way ≡ 0)
  answer_over w p q None bare zero' is = (ap (λ (x : PoolFacts). x.tokens) is ∙ bare, ap (λ (x : PoolFacts). x.under_way) is ∙ zero')
  answer_over w p q (Some (Visit on)) bare zero' is = absurd (no_tokens is.2.before is.2.after on (sym bare ∙ is.2.here))
  answer_over w p q (Some Pause) bare zero' is = (ap (λ (x : PoolFacts). x.tokens) is.3 ∙ bare, ap (λ (x : PoolFacts). x.under_way) is.3 ∙ zero')
  answer_over w p q (Some Rest) bare zero' is = (ap (λ (x : PoolFacts). x.tokens) is.3 ∙ bare, ap (λ (x : PoolFacts). x.under_way) is.3 ∙ zero')
  answer_over w p q (Some Stop) bare zero' is = (ap (λ (x : PoolFacts). x.tokens) is.1 ∙ bare, ap (λ (x : PoolFacts). x.under_way) is.1 ∙ zero')

  call_halt : (p q : PoolFacts) (c : PoolCall) → IsCall crew p c q → p.halt ≢ None → q.halt ≢ None
  call_halt p q c is up = λ e. given_up p.halt c.told up (sym (answer_halt c.worker (has_put p c) q c.next is.answer) ∙ e)

  call_told : (p q : PoolFacts) (c : PoolCall) → IsCall crew p c q → c.told ≢ None → q.halt ≢ None
  call_told p q c is up = λ e. told_up p.halt c.told up (sym (answer_halt c.worker (has_put p c) q c.next is.answer) ∙ e)

  pub end_stays : (p q : PoolFacts) (c : PoolCall) → IsCall crew p c q → c.ends ≤ p.under_way → IsAtEnd p → IsAtEnd q
  end_stays p q c is lt (inl up) = inl (call_halt p q c is up)
  end_stays p q c is lt (inr over) =
      let none_ends : c.ends ≡ 0 = omega (arith, over.1) in
      inr (answer_over c.worker (has_put p c) q c.next (ap (λ (l : List ExecId). l ++ c.put) over.0 ∙ is.only none_ends) (omega (arith, over.1)) is.answer)

  stop_ends : (w : ℕ) (p q : PoolFacts) (n : Option WorkerNext) (over : Bool) → IsAnswer crew w p n q → (over ≡ true → IsAtEnd q) → stops over n ≡ true → IsAtEnd q
  stop_ends w p q None over is before e = before e
  stop_ends w p q (Some (Visit on)) over is before e = before e
  stop_ends w p q (Some Pause) over is before e = before e
  stop_ends w p q (Some Rest) over is before e = before e
  stop_ends w p q (Some Stop) over is before e = subst IsAtEnd (sym is.1) is.0

  told_ends : (q : PoolFacts) (n : Option Halt) (told : Bool) → (n ≢ None → q.halt ≢ None) → (told ≡ true → q.halt ≢ None) → tells told n ≡ true → q.halt ≢ None
  told_ends q None told here before e = before e
  told_ends q (Some h) told here before e = here (λ x. cc)

pub at_length : (xs : List PoolTold) (i : ℕ) (u : PoolTold) → get_elem? xs i ≡ some u → i < length xs
at_length [] i u at = absurd (some-ne-none u (sym at))
at_length (x ∷ xs) zero u at = omega arith
at_length (x ∷ xs) (suc i) u at = let h = at_length xs i u at in omega arith

-- What a seat owes, from call to call

none_first : (seat : ℕ) → 0 < seat → owed_first seat ≡ 0
none_first seat some_seat = ap (λ (b : Bool). cond b 1 0) (ne_eqb seat 0 (λ e. absurd (omega (arith, e, some_seat))))

owed_push : (owes : ℕ) (cs : List PoolCall) (c : PoolCall) → owed_after owes (cs ++ c ∷ []) ≡ owed_after owes cs - c.ends + takes c.next
owed_push owes [] c = refl
owed_push owes (d ∷ cs) c = owed_push (owes - d.ends + takes d.next) cs c

turns_push : (owes : ℕ) (cs : List PoolCall) (c : PoolCall) → AreTurns owes cs → c.ends ≤ owed_after owes cs → (c.next ≢ None → c.ends ≡ owed_after owes cs) → AreTurns owes (cs ++ c ∷ [])
turns_push owes [] c turns ends asks = (ends, asks, tt)
turns_push owes (d ∷ cs) c turns ends asks = (turns.0, turns.1, turns_push (owes - d.ends + takes d.next) cs c turns.2 ends asks)

-- A call by a seat keeps the rule. It ends a turn only where the seat owes, and owes no more than one.
pub call_keeps : (crew : PoolCrew) (p q : PoolFacts) (c : PoolCall) (v w : PoolTold) → IsCall crew p c q → c.ends ≤ v.view.owes → (c.next ≢ None → c.ends ≡ v.view.owes) → v.view.owes - c.ends + takes c.next ≤ v.view.parts → w.view ≡ after_call c v.view
    → (seats : List PoolTold) (seat : ℕ) → IsPoolCourse (record { crew = crew; facts = p }) seats → get_elem? seats seat ≡ some v → IsPoolCourse (record { crew = crew; facts = q }) (set seats seat w)
call_keeps crew p q c v w call ends asks few is seats seat k at =
    let owes : PoolTold → ℕ = λ s. s.view.owes in
    let parts : PoolTold → ℕ = λ s. s.view.parts in
    let mine = k.known seat v at in
    let under : c.ends ≤ p.under_way = omega (arith, total_at owes seats seat v at, k.owed) in
    let counted : q.under_way ≡ p.under_way - c.ends + takes c.next = answer_under_way crew c.worker (has_put p c) q c.next call.answer in
    let w_owes : w.view.owes ≡ v.view.owes - c.ends + takes c.next = ap (λ (x : PoolKnown). x.owes) is in
    let w_parts : w.view.parts ≡ v.view.parts = ap (λ (x : PoolKnown). x.parts) is in
    let w_calls : w.view.calls ≡ v.view.calls ++ c ∷ [] = ap (λ (x : PoolKnown). x.calls) is in
    record {
      history = k.history ++ (seat, c) ∷ [];
      leads = history_push crew k.history first_pool p q seat c k.leads call;
      known = (λ t s e. ⊎_elim
          (λ x. subst (λ (i : ℕ). IsKnown (record { crew = crew; facts = q }) (k.history ++ (seat, c) ∷ []) i s.view) (sym x.0)
          (subst (λ (y : PoolTold). IsKnown (record { crew = crew; facts = q }) (k.history ++ (seat, c) ∷ []) seat y.view) x.1
          (record {
            crew = ap (λ (x : PoolKnown). x.crew) is ∙ mine.crew;
            calls = w_calls ∙ ap (λ (l : List PoolCall). l ++ c ∷ []) mine.calls ∙ sym (calls_own k.history seat c);
            owed = w_owes ∙ ap (λ (n : ℕ). n - c.ends + takes c.next) mine.owed ∙ sym (owed_push (owed_first seat) v.view.calls c) ∙ ap (owed_after (owed_first seat)) (sym w_calls);
            turns = subst (AreTurns (owed_first seat)) (sym w_calls) (turns_push (owed_first seat) v.view.calls c mine.turns (omega (arith, ends, mine.owed)) (λ some_next. asks some_next ∙ mine.owed));
            few = omega (arith, w_owes, w_parts, few);
            over = (λ o. stop_ends crew c.worker (has_put p c) q c.next v.view.over call.answer (λ b. end_stays crew p q c call under (mine.over b)) (sym (ap (λ (x : PoolKnown). x.over) is) ∙ o));
            told = (λ o. told_ends crew q c.told v.view.told (call_told crew p q c call) (λ b. call_halt crew p q c call (mine.told b)) (sym (ap (λ (x : PoolKnown). x.told) is) ∙ o));
          })))
          (λ x. let other = k.known t s x.1 in record {
            crew = other.crew;
            calls = other.calls ∙ sym (calls_else k.history seat t c x.0);
            owed = other.owed;
            turns = other.turns;
            few = other.few;
            over = (λ o. end_stays crew p q c call under (other.over o));
            told = (λ o. call_halt crew p q c call (other.told o));
          })
          (at_set seats seat t w s e));
      others = (λ t le. calls_else k.history seat t c (λ e. absurd (omega (arith, e, length-set seats seat w, at_length seats seat v at, le))) ∙ k.others t (omega (arith, length-set seats seat w, le)));
      owed = omega (arith, total_set owes seats seat v w at, total_at owes seats seat v at, w_owes, counted, under, ends, k.owed);
      parts = omega (arith, total_set parts seats seat v w at, w_parts, k.parts);
    }

-- a seat more
pub at_push : {A : Type 0} (l : List A) (a b : A) (j : ℕ) → get_elem? (l ++ a ∷ []) j ≡ some b → (get_elem? l j ≡ some b) ⊎ ((length l ≡ j) × (a ≡ b))
at_push [] a b zero e = inr (refl, some-injective a b e)
at_push [] a b (suc j) e = absurd (some-ne-none b (sym e))
at_push (x ∷ xs) a b zero e = inl e
at_push (x ∷ xs) a b (suc j) e = ⊎_elim (λ h. inl h) (λ h. inr (omega (arith, h.0), h.1)) (at_push xs a b j e)

-- A seat that does not owe with all its parts may be split.
pub split_keeps : (i : PoolView) (v left right : PoolTold) → v.view.owes < v.view.parts → left.view ≡ split_left v.view → right.view ≡ split_new v.view
    → (seats : List PoolTold) (seat : ℕ) → IsPoolCourse i seats → get_elem? seats seat ≡ some v → IsPoolCourse i (set seats seat left ++ right ∷ [])
split_keeps i v left right less is is' seats seat k at =
    let owes : PoolTold → ℕ = λ s. s.view.owes in
    let parts : PoolTold → ℕ = λ s. s.view.parts in
    let mine = k.known seat v at in
    let front = set seats seat left in
    let left_owes : left.view.owes ≡ v.view.owes = ap (λ (x : PoolKnown). x.owes) is in
    let left_parts : left.view.parts ≡ v.view.parts - 1 = ap (λ (x : PoolKnown). x.parts) is in
    let left_calls : left.view.calls ≡ v.view.calls = ap (λ (x : PoolKnown). x.calls) is in
    let right_calls : right.view.calls ≡ [] = ap (λ (x : PoolKnown). x.calls) is' in
    let owes_none : owed_first (length front) ≡ 0 = none_first (length front) (omega (arith, length-set seats seat left, at_length seats seat v at)) in
    let right_owes : right.view.owes ≡ 0 = ap (λ (x : PoolKnown). x.owes) is' in
    let right_parts : right.view.parts ≡ 1 = ap (λ (x : PoolKnown). x.parts) is' in
    let kept : IsKnown i k.history seat left.view = record {
      crew = ap (λ (x : PoolKnown). x.crew) is ∙ mine.crew;
      calls = ap (λ (x : PoolKnown). x.calls) is ∙ mine.calls;
      owed = left_owes ∙ mine.owed ∙ ap (owed_after (owed_first seat)) (sym left_calls);
      turns = subst (AreTurns (owed_first seat)) (sym left_calls) mine.turns;
      few = omega (arith, left_owes, left_parts, less);
      over = (λ o. mine.over (sym (ap (λ (x : PoolKnown). x.over) is) ∙ o));
      told = (λ o. mine.told (sym (ap (λ (x : PoolKnown). x.told) is) ∙ o));
    } in
    let new : IsKnown i k.history (length front) right.view = record {
      crew = ap (λ (x : PoolKnown). x.crew) is' ∙ mine.crew;
      calls = right_calls ∙ sym (k.others (length front) (omega (arith, length-set seats seat left)));
      owed = right_owes ∙ sym owes_none ∙ ap (owed_after (owed_first (length front))) (sym right_calls);
      turns = subst (AreTurns (owed_first (length front))) (sym right_calls) tt;
      few = omega (arith, right_owes, right_parts);
      over = (λ o. let x : false ≡ true = sym (ap (λ (x : PoolKnown). x.over) is') ∙ o in absurd (cc x));
      told = (λ o. let x : false ≡ true = sym (ap (λ (x : PoolKnown). x.told) is') ∙ o in absurd (cc x));
    } in
    record {
      history = k.history;
      leads = k.leads;
      known = (λ t s e. ⊎_elim
          (λ x. ⊎_elim
          (λ y. subst (λ (n : ℕ). IsKnown i k.history n s.view) (sym y.0) (subst (λ (z : PoolTold). IsKnown i k.history seat z.view) y.1 kept))
          (λ y. k.known t s y.1)
          (at_set seats seat t left s x))
          (λ x. subst (λ (n : ℕ). IsKnown i k.history n s.view) x.0 (subst (λ (z : PoolTold). IsKnown i k.history (length front) z.view) x.1 new))
          (at_push front right s t e));
      others = (λ t le. k.others t (omega (arith, length-append front (right ∷ []), length-set seats seat left, le)));
      owed = omega (arith, total_push owes front right, total_set owes seats seat v left at, left_owes, right_owes, k.owed);
      parts = omega (arith, total_push parts front right, total_set parts seats seat v left at, left_parts, right_parts, less, k.parts);
    }

-- a pool that was just made
pub first_keeps : (i : PoolView) (v : PoolTold) → i.facts ≡ first_pool → v.view ≡ first_known i.crew → IsPoolCourse i (v ∷ [])
first_keeps i v is knows =
    let owes : v.view.owes ≡ 1 = ap (λ (x : PoolKnown). x.owes) knows in
    let parts : v.view.parts ≡ 4294967295 = ap (λ (x : PoolKnown). x.parts) knows in
    let calls : v.view.calls ≡ [] = ap (λ (x : PoolKnown). x.calls) knows in
    record {
      history = [];
      leads = is;
      known = (λ t s e. subst (λ (z : PoolTold). IsKnown i [] t z.view) (one t s e) (record {
        crew = ap (λ (x : PoolKnown). x.crew) knows;
        calls = calls;
        owed = owes ∙ ap (λ (n : ℕ). owed_first n) (sym (first_place t s e)) ∙ ap (owed_after (owed_first t)) (sym calls);
        turns = subst (AreTurns (owed_first t)) (sym calls) tt;
        few = omega (arith, owes, parts);
        over = (λ o. let x : false ≡ true = sym (ap (λ (x : PoolKnown). x.over) knows) ∙ o in absurd (cc x));
        told = (λ o. let x : false ≡ true = sym (ap (λ (x : PoolKnown). x.told) knows) ∙ o in absurd (cc x));
      }));
      others = (λ t le. refl);
      owed = omega (arith, owes, ap (λ (x : PoolFacts). x.under_way) is);
      parts = omega (arith, parts);
    }
  where
    one : (t : ℕ) (s : PoolTold) → get_elem? (v ∷ []) t ≡ some s → v ≡ s
    one zero s e = some-injective v s e
    one (suc t) s e = absurd (some-ne-none s (sym e))

    first_place : (t : ℕ) (s : PoolTold) → get_elem? (v ∷ []) t ≡ some s → t ≡ 0
    first_place zero s e = refl
    first_place (suc t) s e = absurd (some-ne-none s (sym e))

-- What a seat knows of the pool that it takes.

-- it is of its run
pub crew_is : (v : PoolTold) (i : PoolView) → IsInCourse v i → v.view.crew ≡ i.crew
crew_is v i is = (is.2.known is.1 v is.3).crew

-- a seat that owes is under way
pub owes_counted : (v : PoolTold) (i : PoolView) → IsInCourse v i → v.view.owes ≤ i.facts.under_way
owes_counted v i is =
    let owes : PoolTold → ℕ = λ s. s.view.owes in
    omega (arith, total_at owes is.0 is.1 v is.3, is.2.owed)

-- so many more may be under way as the seat has parts left
pub room_left : (v : PoolTold) (i : PoolView) → IsInCourse v i → i.facts.under_way + v.view.parts ≤ 4294967295 + v.view.owes
room_left v i is =
    let owes : PoolTold → ℕ = λ s. s.view.owes in
    let parts : PoolTold → ℕ = λ s. s.view.parts in
    omega (arith, total_le owes parts is.0 is.1 v is.3 (λ j u e. (is.2.known j u e).few), is.2.owed, is.2.parts)

-- a seat that has told a cause knows that the run is given up
pub told_is : (v : PoolTold) (i : PoolView) → IsInCourse v i → v.view.told ≡ true → i.facts.halt ≢ None
told_is v i is = (is.2.known is.1 v is.3).told

pub over_is : (v : PoolTold) (i : PoolView) → IsInCourse v i → v.view.over ≡ true → IsAtEnd i.facts
over_is v i is = (is.2.known is.1 v is.3).over

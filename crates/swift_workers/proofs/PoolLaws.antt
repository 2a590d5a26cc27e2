-- What follows from the history of a pool.
use Rattle.swift_workers.proofs.Prelude.{◌≡◌, ℕ, ◌+◌, List, [], ◌∷◌, ◌++◌, Option, Some, None, refl, sym, ap, ◌∙◌, subst, arith, append_assoc, append-nil, All, AllByRecursion, ExecId, WorkerNext, Visit, Pause, Rest, Stop, Halt, FirstCauseStays, IsAnswer, IsOldest, MayTake, OneWorkerTakesInOrder, PoolCrew, PoolFacts, TokensAreKept, given_by, has_put, or_else, put_in, taken_in, told_in, total, WhoRestsOwesNothing, PoolTold}
use Rattle.swift_workers.proofs.PoolSteps.{answer_halt, total_at}

pub total_append : {A : Type 0} (f : A → ℕ) (xs ys : List A) → total f (xs ++ ys) ≡ total f xs + total f ys
total_append f [] ys = omega arith
total_append f (x ∷ xs) ys = omega (arith, total_append f xs ys)

-- the weights before and after an answer
answer_weighs : (crew : PoolCrew) (w : ℕ) (p q : PoolFacts) (n : Option WorkerNext) (f : ExecId → ℕ) → IsAnswer crew w p n q → total f p.tokens ≡ total f (given_by n) + total f q.tokens
answer_weighs crew w p q None f is = let e = ap (λ (x : PoolFacts). total f x.tokens) is in omega arith
answer_weighs crew w p q (Some (Visit on)) f is =
    let o = is.2 in
    let e : total f q.tokens ≡ total f (o.before ++ o.after) = ap (λ (x : PoolFacts). total f x.tokens) is.3 ∙ ap (total f) o.others in
    let e' : total f p.tokens ≡ total f (o.before ++ on ∷ o.after) = ap (total f) o.here in
    omega (arith, e, e', total_append f o.before o.after, total_append f o.before (on ∷ o.after))
answer_weighs crew w p q (Some Pause) f is = let e = ap (λ (x : PoolFacts). total f x.tokens) is.3 in omega arith
answer_weighs crew w p q (Some Rest) f is = let e = ap (λ (x : PoolFacts). total f x.tokens) is.3 in omega arith
answer_weighs crew w p q (Some Stop) f is = let e = ap (λ (x : PoolFacts). total f x.tokens) is.1 in omega arith

pub tokens_kept : TokensAreKept
tokens_kept crew [] p q is f = ap (total f) (append-nil p.tokens) ∙ ap (λ (x : PoolFacts). total f x.tokens) (sym is)
tokens_kept crew (c ∷ cs) p q is f =
    let mid = is.0 in
    let e = answer_weighs crew c.1.worker (has_put p c.1) mid c.1.next f is.1.answer in
    let rest = tokens_kept crew cs mid q is.2 f in
    omega (
      arith,
      e,
      rest,
      total_append f p.tokens c.1.put,
      total_append f p.tokens (c.1.put ++ put_in cs),
      total_append f c.1.put (put_in cs),
      total_append f mid.tokens (put_in cs),
      total_append f (given_by c.1.next ++ taken_in cs) q.tokens,
      total_append f (given_by c.1.next) (taken_in cs),
      total_append f (taken_in cs) q.tokens,
    )

or_else_assoc : (a b c : Option Halt) → or_else (or_else a b) c ≡ or_else a (or_else b c)
or_else_assoc (Some x) b c = refl
or_else_assoc None b c = refl

or_else_none : (a : Option Halt) → a ≡ or_else a None
or_else_none (Some x) = refl
or_else_none None = refl

pub cause_stays : FirstCauseStays
cause_stays crew [] p q is = ap (λ (x : PoolFacts). x.halt) is ∙ or_else_none p.halt
cause_stays crew (c ∷ cs) p q is =
    let mid = is.0 in
    cause_stays crew cs mid q is.2 ∙ ap (λ (o : Option Halt). or_else o (told_in cs)) (answer_halt crew c.1.worker (has_put p c.1) mid c.1.next is.1.answer) ∙ or_else_assoc p.halt c.1.told (told_in cs)

-- a worker that may run each of the tokens takes the first
oldest_first : (may : ExecId → Type 0) (tokens left : List ExecId) (on : ExecId) → AllByRecursion may tokens → IsOldest may tokens on left → tokens ≡ on ∷ left
oldest_first may tokens left on all is = first is.before is.after is.none_before is.here is.others
  where
    first : (before after : List ExecId) → All (λ (t : ExecId). may t → ⊥) before → tokens ≡ before ++ on ∷ after → left ≡ before ++ after → tokens ≡ on ∷ left
    first [] after none_may here others = here ∙ ap (λ (l : List ExecId). on ∷ l) (sym others)
    first (x ∷ xs) after none_may here others = let head : AllByRecursion may ((x ∷ xs) ++ on ∷ after) = subst (AllByRecursion may) here all in absurd (none_may 0 x (omega arith) head.0)

answer_order : (crew : PoolCrew) (w : ℕ) (p q : PoolFacts) (n : Option WorkerNext) → AllByRecursion (MayTake crew w) p.tokens → IsAnswer crew w p n q → p.tokens ≡ given_by n ++ q.tokens
answer_order crew w p q None all is = ap (λ (x : PoolFacts). x.tokens) (sym is)
answer_order crew w p q (Some (Visit on)) all is = oldest_first (MayTake crew w) p.tokens is.1 on all is.2 ∙ ap (λ (x : PoolFacts). on ∷ x.tokens) (sym is.3)
answer_order crew w p q (Some Pause) all is = ap (λ (x : PoolFacts). x.tokens) (sym is.3)
answer_order crew w p q (Some Rest) all is = ap (λ (x : PoolFacts). x.tokens) (sym is.3)
answer_order crew w p q (Some Stop) all is = ap (λ (x : PoolFacts). x.tokens) (sym is.1)

front : {A : Type 0} (P : A → Type 0) (xs ys : List A) → AllByRecursion P (xs ++ ys) → AllByRecursion P xs
front P [] ys all = tt
front P (x ∷ xs) ys all = (all.0, front P xs ys all.1)

back : {A : Type 0} (P : A → Type 0) (xs ys : List A) → AllByRecursion P (xs ++ ys) → AllByRecursion P ys
back P [] ys all = all
back P (x ∷ xs) ys all = back P xs ys all.1

pub in_order : OneWorkerTakesInOrder
in_order crew [] p q w is by all = append-nil p.tokens ∙ ap (λ (x : PoolFacts). x.tokens) (sym is)
in_order crew (c ∷ cs) p q w is by all =
    let mid = is.0 in
    let g = given_by c.1.next in
    let apart : p.tokens ++ (c.1.put ++ put_in cs) ≡ (p.tokens ++ c.1.put) ++ put_in cs = sym (append_assoc p.tokens c.1.put (put_in cs)) in
    let all' : AllByRecursion (MayTake crew w) ((p.tokens ++ c.1.put) ++ put_in cs) = subst (AllByRecursion (MayTake crew w)) apart all in
    let answer : IsAnswer crew w (has_put p c.1) c.1.next mid = subst (λ (n : ℕ). IsAnswer crew n (has_put p c.1) c.1.next mid) by.0 is.1.answer in
    let e : p.tokens ++ c.1.put ≡ g ++ mid.tokens = answer_order crew w (has_put p c.1) mid c.1.next (front (MayTake crew w) (p.tokens ++ c.1.put) (put_in cs) all') answer in
    let e' : (p.tokens ++ c.1.put) ++ put_in cs ≡ g ++ (mid.tokens ++ put_in cs) = ap (λ (l : List ExecId). l ++ put_in cs) e ∙ append_assoc g mid.tokens (put_in cs) in
    let rest = in_order crew cs mid q w is.2 by.1 (back (MayTake crew w) g (mid.tokens ++ put_in cs) (subst (AllByRecursion (MayTake crew w)) e' all')) in
    apart ∙ e' ∙ ap (λ (l : List ExecId). g ++ l) rest ∙ sym (append_assoc g (taken_in cs) q.tokens)

pub none_owes : WhoRestsOwesNothing
none_owes i seats k none seat s at = let owes : PoolTold → ℕ = λ x. x.view.owes in omega (arith, total_at owes seats seat s at, k.owed, none)

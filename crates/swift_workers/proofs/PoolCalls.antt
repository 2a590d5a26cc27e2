-- The rule of a pool at each call.
use Rattle.swift_workers.proofs.Prelude.{◌≡◌, ◌≢◌, ℕ, zero, suc, ◌+◌, ◌-◌, ◌<◌, ◌≤◌, List, [], ◌∷◌, ◌++◌, length, take, drop, Option, Some, None, IfNone, IfSome, IsErr, IsSome, Result, Ok, Err, Bool, true, false, refl, sym, ap, ◌∙◌, subst, inl, inr, ⊎_elim, arith, append-nil, set, slice_get, take_all, none-some, same_Some, ExecId, ScriptView, Halt, PoolTold, WorkerNext, Visit, Pause, Rest, Stop, IsAnswer, IsAtEnd, IsCall, IsCauseOf, IsEndOf, MayVisit, PoolCall, PoolCrew, PoolFacts, PoolKnown, PoolView, after_call, first_known, first_pool, has_put, or_else, split_left, split_new, stops, takes, tells, HoldsOf, IsInCourse, IsPoolCourse, HasCalled, IsPoolSeatOf, IsRunOut, SeatView, SharedPoolView}
use Rattle.swift_shared_book.specs.LockSeat.{MayLearn, MayUnlock, MaySplit, free_seat, held_by}
use Rattle.swift_workers.specs.declared.known.PoolImage.{PoolImage}
use Rattle.swift_workers.specs.declared.pool.Ended.{Ended}
use Rattle.swift_workers.specs.declared.pool.Pool.{Pool}
use Rattle.swift_workers.specs.declared.shelf.PoolShelf.{PoolShelf}
use Rattle.swift_workers.specs.PoolFactsInside.{facts_of}
use Rattle.swift_workers.specs.PoolSeatsInside.{HasTaken, MayGiveBack}
use Rattle.swift_workers.specs.PoolsInside.{HasEnded, IsNext, IsNextOrRest}
use Rattle.swift_workers.proofs.PoolSteps.{call_keeps, crew_is, first_keeps, over_is, owes_counted, room_left, split_keeps, told_is}

-- what the lock keeps of a pool
abbrev pub image_of : PoolShelf → PoolImage
image_of s = record { view = record { crew = record { script = s.script.value; workers = s.workers.value }; facts = facts_of s.pool.value } }

-- what the lock gives and takes

pub finds : (v : PoolTold) → MayLearn HoldsOf v (λ image. IsInCourse v image.view)
finds v image seats seat holds at = (seats, seat, holds, at)

pub call_unlocks : (held : Option PoolImage) (v : PoolTold) (given : PoolImage) (script : ScriptView) (workers : ℕ) (p : Pool) (c : PoolCall) → MayGiveBack v.view held script workers p c
    → given.view ≡ record { crew = record { script = script; workers = workers }; facts = facts_of p } → IfSome held (λ taken. MayUnlock HoldsOf v taken given (λ w. w.view ≡ after_call c v.view))
call_unlocks None v given script workers p c may is = tt
call_unlocks (Some taken) v given script workers p c may is = λ seats seat holds at.
    let w : PoolTold = record { view = after_call c v.view } in
    let crew : PoolCrew = record { script = script; workers = workers } in
    let was : taken.view ≡ record { crew = crew; facts = may.taken } = ap (λ (i : PoolImage). i.view) (same_Some taken (record { view = record { crew = crew; facts = may.taken } }) may.was) in
    let before : IsPoolCourse (record { crew = crew; facts = may.taken }) seats = subst (λ (i : PoolView). IsPoolCourse i seats) was holds in
    (w, subst (λ (i : PoolView). IsPoolCourse i (set seats seat w)) (sym is) (call_keeps crew may.taken (facts_of p) c v w may.call may.ends may.asks may.few refl seats seat before at), refl)

pub may_split : (v left right : PoolTold) → v.view.owes < v.view.parts → left.view ≡ split_left v.view → right.view ≡ split_new v.view → MaySplit HoldsOf v left right
may_split v left right less is is' image seats seat holds at = split_keeps image.view v left right less is is' seats seat holds at

-- a pool that was just made
pub new_starts : (script : ScriptView) (workers : ℕ) (boxed p : Pool) → boxed ≡ p → p.tokens.items ≡ [] → p.under_way ≡ 1 → p.halt ≡ None
    → IsPoolCourse (record { crew = record { script = script; workers = workers }; facts = facts_of boxed }) (record { view = first_known (record { script = script; workers = workers }) } ∷ [])
new_starts script workers boxed p same tokens under_way halt =
    let is : facts_of p ≡ first_pool = λ k. record { tokens = tokens k; under_way = under_way k; halt = halt k } in
    first_keeps _ _ (ap facts_of same ∙ is) refl

-- the calls of one worker

split_here : (xs : List ExecId) (n : ℕ) (x : ExecId) → slice_get xs n ≡ Some x → xs ≡ take n xs ++ x ∷ drop (n + 1) xs
split_here [] n x at = absurd (none-some x at)
split_here (y ∷ ys) zero x at = ap (λ (z : ExecId). z ∷ ys) (same_Some y x at)
split_here (y ∷ ys) (suc n) x at =
    let next : suc (n + 1) ≡ suc n + 1 = omega arith in
    subst (λ (m : ℕ). y ∷ ys ≡ take (suc n) (y ∷ ys) ++ x ∷ drop m (y ∷ ys)) next (ap (λ (l : List ExecId). y ∷ l) (split_here ys n x at))

no_length : (xs : List ExecId) → length xs ≡ 0 → xs ≡ []
no_length [] is = refl
no_length (x ∷ xs) is = absurd (omega (arith, is))

none_less : (n : ℕ) → n ≡ n - 0
none_less n = omega arith

same_facts : (old new : Pool) → new.tokens.items ≡ old.tokens.items → new.under_way ≡ old.under_way → new.halt ≡ old.halt → facts_of new ≡ facts_of old
same_facts old new tokens under_way halt = λ k. record { tokens = tokens k; under_way = under_way k; halt = halt k }

-- what a worker is told is an answer
pub next_answers : (script : ScriptView) (workers worker : ℕ) (old new : Pool) (n : WorkerNext) → IsNextOrRest script workers worker old n new
    → IsAnswer (record { script = script; workers = workers }) worker (facts_of old) (Some n) (facts_of new)
next_answers script workers worker old new (Visit on) is =
    let t = is.1.1 in (
      is.0,
      new.tokens.items,
      record {
        before = take is.1.0 old.tokens.items;
        after = drop (is.1.0 + 1) old.tokens.items;
        here = split_here old.tokens.items is.1.0 on t.here;
        may_run = is.1.2;
        none_before = is.1.3;
        others = t.others;
      },
      (λ k. record { tokens = new.tokens.items; under_way = t.under_way k; halt = t.halt k }),
    )
next_answers script workers worker old new Pause is =
    (is.0, is.1, ⊎_elim (λ some_left. inl (λ e. some_left (ap length e))) (λ under_way. inr under_way) is.2, same_facts old new is.3.tokens is.3.under_way is.3.halt)
next_answers script workers worker old new Rest is = (is.0, is.1, is.2, same_facts old new is.3.tokens is.3.under_way is.3.halt)
next_answers script workers worker old new Stop is =
    (⊎_elim (λ up. inl up) (λ over. inr (no_length old.tokens.items over.0, over.1)) is.0, same_facts old new is.1.tokens is.1.under_way is.1.halt)

-- the pool after the end of a turn
ended_puts : (old mid : Pool) (tokens : List ExecId) (done : Result (Unit {0}) Halt) (ended : Ended) (c : PoolCall) → HasEnded old tokens done ended mid → c.ends ≡ 1 → c.put ≡ take ended.put tokens → c.told ≡ ended.told → has_put (facts_of old) c ≡ facts_of mid
ended_puts old mid tokens done ended c is ends put told = λ k. record {
  tokens = (ap (λ (l : List ExecId). old.tokens.items ++ l) put ∙ sym is.tokens_are) k;
  under_way = (ap (λ (n : ℕ). old.under_way - n) ends ∙ sym is.under_way) k;
  halt = (ap (or_else old.halt) told ∙ sym is.halt) k;
}

-- What is given back, for what was taken.
gives : (v : PoolKnown) (crew : PoolCrew) (held : Option PoolImage) (taken : PoolFacts) (script : ScriptView) (workers : ℕ) (given : Pool) (c : PoolCall) → held ≡ Some (record { view = record { crew = crew; facts = taken } }) → script ≡ crew.script → workers ≡ crew.workers
    → IsCall crew taken c (facts_of given) → c.ends ≤ v.owes → (c.next ≢ None → c.ends ≡ v.owes) → v.owes - c.ends + takes c.next ≤ v.parts → MayGiveBack v held script workers given c
gives v crew held taken script workers given c was script_is workers_is call ends asks few =
    let same : crew ≡ record { script = script; workers = workers } = λ k. record { script = sym script_is k; workers = sym workers_is k } in
    record {
      taken = taken;
      was = was ∙ ap (λ (x : PoolCrew). Some (record { view = record { crew = x; facts = taken } })) same;
      call = subst (λ (x : PoolCrew). IsCall x taken c (facts_of given)) same call;
      ends = ends;
      asks = asks;
      few = few;
    }

takes_one : (n : Option WorkerNext) → takes n ≤ 1
takes_one None = omega arith
takes_one (Some (Visit on)) = omega arith
takes_one (Some Pause) = omega arith
takes_one (Some Rest) = omega arith
takes_one (Some Stop) = omega arith

-- a seat that owes has a part
has_part : (v : PoolTold) (i : PoolView) → IsInCourse v i → v.view.owes ≤ v.view.parts
has_part v i is = (is.2.known is.1 v is.3).few

-- the end of a turn, and what comes next
pub turn_gives : (v : PoolTold) (crew : PoolCrew) (held : Option PoolImage) (script : ScriptView) (workers : ℕ) (old mid new : Pool) (tokens : List ExecId) (done : Result (Unit {0}) Halt) (ended : Ended) (c : PoolCall) (n : WorkerNext)
    → held ≡ Some (record { view = record { crew = crew; facts = facts_of old } }) → script ≡ crew.script → workers ≡ crew.workers → IsInCourse v (record { crew = crew; facts = facts_of old }) → v.view.owes ≡ 1
    → HasEnded old tokens done ended mid → c.ends ≡ 1 → c.put ≡ take ended.put tokens → c.told ≡ ended.told → c.next ≡ Some n → IsNextOrRest crew.script crew.workers c.worker mid n new → MayGiveBack v.view held script workers new c
turn_gives v crew held script workers old mid new tokens done ended c n was script_is workers_is course owes is ends put told next told_next =
    let answer : IsAnswer crew c.worker (facts_of mid) (Some n) (facts_of new) = next_answers crew.script crew.workers c.worker mid new n told_next in
    let at : IsAnswer crew c.worker (has_put (facts_of old) c) c.next (facts_of new) =
    subst (λ (x : PoolFacts). IsAnswer crew c.worker x c.next (facts_of new)) (sym (ended_puts old mid tokens done ended c is ends put told))
    (subst (λ (o : Option WorkerNext). IsAnswer crew c.worker (facts_of mid) o (facts_of new)) (sym next) answer) in
    gives v.view crew held (facts_of old) script workers new c was script_is workers_is (record { only = (λ none. absurd (omega (arith, none, ends))); answer = at })
    (omega (arith, ends, owes)) (λ some_next. omega (arith, ends, owes)) (omega (arith, ends, owes, takes_one c.next, has_part v _ course))

-- the tokens of the roots
pub first_gives : (v : PoolTold) (crew : PoolCrew) (held : Option PoolImage) (script : ScriptView) (workers : ℕ) (old new : Pool) (tokens : List ExecId) (done : Result (Unit {0}) Halt) (ended : Ended) (c : PoolCall)
    → held ≡ Some (record { view = record { crew = crew; facts = facts_of old } }) → script ≡ crew.script → workers ≡ crew.workers → IsInCourse v (record { crew = crew; facts = facts_of old }) → v.view.owes ≡ 1
    → HasEnded old tokens done ended new → c.ends ≡ 1 → c.put ≡ take ended.put tokens → c.told ≡ ended.told → c.next ≡ None → MayGiveBack v.view held script workers new c
first_gives v crew held script workers old new tokens done ended c was script_is workers_is course owes is ends put told next =
    let e = ended_puts old new tokens done ended c is ends put told in
    let at : IsAnswer crew c.worker (has_put (facts_of old) c) c.next (facts_of new) = subst (λ (o : Option WorkerNext). IsAnswer crew c.worker (has_put (facts_of old) c) o (facts_of new)) (sym next) (sym e) in
    let none_taken : takes c.next ≡ 0 = ap takes next in
    gives v.view crew held (facts_of old) script workers new c was script_is workers_is (record { only = (λ none. absurd (omega (arith, none, ends))); answer = at })
    (omega (arith, ends, owes)) (λ some_next. omega (arith, ends, owes)) (omega (arith, ends, owes, none_taken, has_part v _ course))

-- a worker asks that is not under way
pub look_gives : (v : PoolTold) (crew : PoolCrew) (held : Option PoolImage) (script : ScriptView) (workers worker : ℕ) (old new : Pool) (n : WorkerNext)
    → held ≡ Some (record { view = record { crew = crew; facts = facts_of old } }) → script ≡ crew.script → workers ≡ crew.workers → v.view.owes ≡ 0 → 0 < v.view.parts
    → IsNextOrRest crew.script crew.workers worker old n new → MayGiveBack v.view held script workers new (record { worker = worker; ends = 0; put = []; told = None; next = Some n })
look_gives v crew held script workers worker old new n was script_is workers_is owes parts told_next =
    let c : PoolCall = record { worker = worker; ends = 0; put = []; told = None; next = Some n } in
    let answer : IsAnswer crew worker (facts_of old) (Some n) (facts_of new) = next_answers crew.script crew.workers worker old new n told_next in
    let same : facts_of old ≡ has_put (facts_of old) c = λ k. record { tokens = sym (append-nil old.tokens.items) k; under_way = none_less old.under_way k; halt = kept old.halt k } in
    gives v.view crew held (facts_of old) script workers new c was script_is workers_is (record { only = (λ none. refl); answer = subst (λ (x : PoolFacts). IsAnswer crew worker x (Some n) (facts_of new)) same answer })
    (omega arith) (λ some_next. omega (arith, owes)) (omega (arith, owes, parts, takes_one (Some n)))
  where
    kept : (h : Option Halt) → h ≡ or_else h None
    kept (Some x) = refl
    kept None = refl

-- a worker gives the run up
pub halt_gives : (v : PoolTold) (crew : PoolCrew) (held : Option PoolImage) (script : ScriptView) (workers : ℕ) (old new : Pool) (halt : Halt)
    → held ≡ Some (record { view = record { crew = crew; facts = facts_of old } }) → script ≡ crew.script → workers ≡ crew.workers → IsInCourse v (record { crew = crew; facts = facts_of old })
    → new.tokens.items ≡ old.tokens.items → new.under_way ≡ old.under_way → new.halt ≡ or_else old.halt (Some halt) → MayGiveBack v.view held script workers new (record { worker = 0; ends = 0; put = []; told = Some halt; next = None })
halt_gives v crew held script workers old new halt was script_is workers_is course tokens under_way halt_is =
    let c : PoolCall = record { worker = 0; ends = 0; put = []; told = Some halt; next = None } in
    let same : facts_of new ≡ has_put (facts_of old) c = λ k. record { tokens = (tokens ∙ sym (append-nil old.tokens.items)) k; under_way = (under_way ∙ none_less old.under_way) k; halt = halt_is k } in
    gives v.view crew held (facts_of old) script workers new c was script_is workers_is (record { only = (λ none. refl); answer = same }) (omega arith) (λ some_next. absurd (some_next refl)) (omega (arith, has_part v _ course))

-- a turn that was refused is followed by none
pub refused_stops : (script : ScriptView) (workers worker : ℕ) (old mid new : Pool) (tokens : List ExecId) (done : Result (Unit {0}) Halt) (ended : Ended) (n : WorkerNext) → HasEnded old tokens done ended mid → IsNextOrRest script workers worker mid n new
    → IsErr done → n ≡ Stop
refused_stops script workers worker old mid new tokens (Err halt) ended n is next bad =
    let told : ended.told ≡ Some halt = ⊎_elim (λ x. x.1) (λ x. x.1) is.cause in
    let up : mid.halt ≢ None = λ e. never old.halt halt (sym (ap (or_else old.halt) told) ∙ sym is.halt ∙ e) in
    by_next n next up
  where
    never : (h : Option Halt) (x : Halt) → or_else h (Some x) ≡ None → ⊥
    never (Some y) x e = cc
    never None x e = cc

    by_next : (m : WorkerNext) → IsNextOrRest script workers worker mid m new → mid.halt ≢ None → m ≡ Stop
    by_next (Visit on) is' up' = absurd (up' is'.0)
    by_next Pause is' up' = absurd (up' is'.0)
    by_next Rest is' up' = absurd (up' is'.0)
    by_next Stop is' up' = refl
refused_stops script workers worker old mid new tokens (Ok u) ended n is next bad = let x : false ≡ true = bad in absurd (cc x)

-- a worker that is told to stop has been told so
pub over_stops : (over : Bool) (n : Option WorkerNext) → stops false n ≡ true → stops over n ≡ true
over_stops over None e = cc
over_stops over (Some (Visit on)) e = cc
over_stops over (Some Pause) e = cc
over_stops over (Some Rest) e = cc
over_stops over (Some Stop) e = refl

-- what is known of a pool that was taken
pub taken_is : (p : SharedPoolView) (s t : SeatView) (shelf : PoolShelf) → IsPoolSeatOf p s → t ≡ held_by s (image_of shelf) → IsInCourse s.known (image_of shelf).view → HasTaken p s t shelf
taken_is p s t shelf is held course =
    let same : p.crew ≡ record { script = shelf.script.value; workers = shelf.workers.value } = sym is.2 ∙ crew_is s.known (image_of shelf).view course in
    record {
      lock = ap (λ (x : SeatView). x.lock) held;
      known = ap (λ (x : SeatView). x.known) held;
      held = ap (λ (x : SeatView). x.held) held ∙ ap (λ (x : PoolCrew). Some (record { view = record { crew = x; facts = facts_of shelf.pool.value } })) (sym same);
      script = ap (λ (x : PoolCrew). x.script) (sym same);
      workers = ap (λ (x : PoolCrew). x.workers) (sym same);
      course = subst (λ (x : PoolCrew). IsInCourse s.known (record { crew = x; facts = facts_of shelf.pool.value })) (sym same) course;
    }

-- a call that has a name
pub named_unlocks : (k : PoolCall) (held : Option PoolImage) (v : PoolTold) (given : PoolImage) (script : ScriptView) (workers : ℕ) (p : Pool) (c : PoolCall) → k ≡ c → MayGiveBack v.view held script workers p c
    → given.view ≡ record { crew = record { script = script; workers = workers }; facts = facts_of p } → IfSome held (λ taken. MayUnlock HoldsOf v taken given (λ w. w.view ≡ after_call k v.view))
named_unlocks k held v given script workers p c is may same =
    subst (λ (x : PoolCall). IfSome held (λ taken. MayUnlock HoldsOf v taken given (λ w. w.view ≡ after_call x v.view))) (sym is) (call_unlocks held v given script workers p c may same)

pub is_held : (v : PoolKnown) (held : Option PoolImage) (script : ScriptView) (workers : ℕ) (p : Pool) (c : PoolCall) → MayGiveBack v held script workers p c → IsSome held
is_held v held script workers p c may = subst (λ (o : Option PoolImage). IsSome o) (sym may.was) refl

pub unlocked : (k c : PoolCall) (s t : SeatView) → k ≡ c → IsSome s.held → t ≡ free_seat s t.known → IfSome s.held (λ taken. t.known.view ≡ after_call k s.known.view) → HasCalled c s t
unlocked k c s t is held free told = (
  ap (λ (x : SeatView). x.lock) free,
  ap (λ (x : SeatView). x.held) free,
  there s.held held told ∙ ap (λ (x : PoolCall). after_call x s.known.view) is,
)
  where
    there : {X : Type 0} (o : Option PoolImage) → IsSome o → IfSome o (λ taken. X) → X
    there (Some x) is' told' = told'
    there None is' told' = let x : false ≡ true = is' in absurd (cc x)

-- a call that was made by a seat that had taken the pool
pub called_by : (p : SharedPoolView) (s t u : SeatView) (shelf : PoolShelf) (c : PoolCall) → HasTaken p s t shelf → HasCalled c t u → HasCalled c s u
called_by p s t u shelf c taken called = (called.0 ∙ taken.lock, called.1, called.2 ∙ ap (λ (v : PoolTold). after_call c v.view) taken.known)

-- the call that ends a turn
ends_of : (old mid : Pool) (tokens : List ExecId) (done : Result (Unit {0}) Halt) (ended : Ended) (c : PoolCall) → HasEnded old tokens done ended mid → c.ends ≡ 1 → c.put ≡ take ended.put tokens → c.told ≡ ended.told → IsEndOf tokens done c
ends_of old mid tokens done ended c is ends put told = (
  ends,
  ⊎_elim
      (λ all. inl (put ∙ take_all ended.put tokens (omega (arith, all.0)), subst (λ (o : Option Halt). IsCauseOf done false o) (sym told) all.1))
      (λ cut. inr (ended.put, cut.0, put, subst (λ (o : Option Halt). IsCauseOf done true o) (sym told) cut.1))
      is.cause,
)

pub end_called : (p : SharedPoolView) (s t u : SeatView) (shelf : PoolShelf) (c : PoolCall) (old mid : Pool) (tokens : List ExecId) (done : Result (Unit {0}) Halt) (ended : Ended) → HasTaken p s t shelf → HasCalled c t u → HasEnded old tokens done ended mid → c.ends ≡ 1 → c.put ≡ take ended.put tokens → c.told ≡ ended.told
    → HasCalled c s u × IsEndOf tokens done c
end_called p s t u shelf c old mid tokens done ended taken called is ends put told = (called_by p s t u shelf c taken called, ends_of old mid tokens done ended c is ends put told)

-- the seat of a worker, from call to call

pub called_seat : (p : SharedPoolView) (s t : SeatView) (c : PoolCall) → IsPoolSeatOf p s → HasCalled c s t → IsPoolSeatOf p t
called_seat p s t c is called = (called.0 ∙ is.0, called.1, ap (λ (v : PoolKnown). v.crew) called.2 ∙ is.2)

-- what a worker is told that owes no more than it has ended
pub told_seat : (p : SharedPoolView) (s t : SeatView) (c : PoolCall) (n : WorkerNext) → IsPoolSeatOf p s → HasCalled c s t → c.next ≡ Some n → s.known.view.owes ≡ c.ends → 0 < s.known.view.parts
    → IsPoolSeatOf p t × (t.known.view.owes ≡ takes (Some n)) × (0 < t.known.view.parts) × (stops false (Some n) ≡ true → t.known.view.over ≡ true)
told_seat p s t c n is called next owes parts =
    let next_takes : takes c.next ≡ takes (Some n) = ap takes next in
    let t_owes : t.known.view.owes ≡ s.known.view.owes - c.ends + takes c.next = ap (λ (v : PoolKnown). v.owes) called.2 in
    let t_parts : t.known.view.parts ≡ s.known.view.parts = ap (λ (v : PoolKnown). v.parts) called.2 in (
      called_seat p s t c is called,
      omega (arith, next_takes, t_owes, owes),
      omega (arith, t_parts, parts),
      (λ stop. ap (λ (v : PoolKnown). v.over) called.2 ∙ ap (stops s.known.view.over) next ∙ over_stops s.known.view.over (Some n) stop),
    )

-- a worker that has given the run up
pub up_seat : (p : SharedPoolView) (s t : SeatView) (halt : Halt) → IsPoolSeatOf p s → ((c : PoolCall) × HasCalled c s t × (c.ends ≡ 0) × (c.told ≡ Some halt) × (c.next ≡ None))
    → IsPoolSeatOf p t × (t.known.view.owes ≡ s.known.view.owes) × (t.known.view.parts ≡ s.known.view.parts) × (t.known.view.told ≡ true)
up_seat p s t halt is call =
    let none_taken : takes call.0.next ≡ 0 = ap takes call.4 in
    let t_owes : t.known.view.owes ≡ s.known.view.owes - call.0.ends + takes call.0.next = ap (λ (v : PoolKnown). v.owes) call.1.2 in (
      called_seat p s t call.0 is call.1,
      omega (arith, none_taken, t_owes, call.2),
      ap (λ (v : PoolKnown). v.parts) call.1.2,
      ap (λ (v : PoolKnown). v.told) call.1.2 ∙ ap (tells s.known.view.told) call.3,
    )

-- the seats after a split
pub own_seat : (p : SharedPoolView) (s own : SeatView) → IsPoolSeatOf p s → (own.lock ≡ p.id) × (own.held ≡ None) × (own.known.view ≡ split_new s.known.view)
    → IsPoolSeatOf p own × (own.known.view.owes ≡ 0) × (0 < own.known.view.parts)
own_seat p s own is new =
    let parts : own.known.view.parts ≡ 1 = ap (λ (v : PoolKnown). v.parts) new.2 in (
      (new.0, new.1, ap (λ (v : PoolKnown). v.crew) new.2 ∙ is.2),
      ap (λ (v : PoolKnown). v.owes) new.2,
      omega (arith, parts),
    )

pub left_seat : (p : SharedPoolView) (s t : SeatView) (n : ℕ) → IsPoolSeatOf p s → s.known.view.owes ≡ 0 → n + 1 < s.known.view.parts → (t.lock ≡ s.lock) × (t.held ≡ None) × (t.known.view ≡ split_left s.known.view)
    → IsPoolSeatOf p t × (t.known.view.owes ≡ 0) × (n < t.known.view.parts)
left_seat p s t n is owes less left =
    let parts : t.known.view.parts ≡ s.known.view.parts - 1 = ap (λ (v : PoolKnown). v.parts) left.2 in (
      (left.0 ∙ is.0, left.1, ap (λ (v : PoolKnown). v.crew) left.2 ∙ is.2),
      ap (λ (v : PoolKnown). v.owes) left.2 ∙ owes,
      omega (arith, parts, less),
    )

-- The same of a pool that was taken: what may be given back for it, and how many may be under way.

-- the seat knows what it did
known_before : (u v : PoolTold) (held : Option PoolImage) (script : ScriptView) (workers : ℕ) (given : Pool) (c : PoolCall) → u ≡ v → MayGiveBack v.view held script workers given c → MayGiveBack u.view held script workers given c
known_before u v held script workers given c same may = subst (λ (x : PoolTold). MayGiveBack x.view held script workers given c) (sym same) may

pub turn_over_gives : (p : SharedPoolView) (s t : SeatView) (shelf : PoolShelf) (script : ScriptView) (workers worker : ℕ) (old mid new : Pool) (tokens put : List ExecId) (done : Result (Unit {0}) Halt) (ended : Ended) (n : WorkerNext)
    → HasTaken p s t shelf → old ≡ shelf.pool.value → p.crew ≡ record { script = script; workers = workers } → s.known.view.owes ≡ 1 → HasEnded old tokens done ended mid → put ≡ take ended.put tokens → IsNextOrRest script workers worker mid n new
    → MayGiveBack t.known.view t.held shelf.script.value shelf.workers.value new (record { worker = worker; ends = 1; put = put; told = ended.told; next = Some n })
turn_over_gives p s t shelf script workers worker old mid new tokens put done ended n taken same crew owes is put_is next =
    let own : IsNextOrRest p.crew.script p.crew.workers worker mid n new = subst (λ (x : PoolCrew). IsNextOrRest x.script x.workers worker mid n new) (sym crew) next in
    let own_end : HasEnded shelf.pool.value tokens done ended mid = subst (λ (x : Pool). HasEnded x tokens done ended mid) same is in
    known_before t.known s.known t.held shelf.script.value shelf.workers.value new _ taken.known
    (turn_gives s.known p.crew t.held shelf.script.value shelf.workers.value shelf.pool.value mid new tokens done ended (record { worker = worker; ends = 1; put = put; told = ended.told; next = Some n }) n
    taken.held taken.script taken.workers taken.course owes own_end refl put_is refl refl own)

pub put_first_gives : (p : SharedPoolView) (s t : SeatView) (shelf : PoolShelf) (old new : Pool) (tokens put : List ExecId) (done : Result (Unit {0}) Halt) (ended : Ended)
    → HasTaken p s t shelf → old ≡ shelf.pool.value → s.known.view.owes ≡ 1 → HasEnded old tokens done ended new → put ≡ take ended.put tokens
    → MayGiveBack t.known.view t.held shelf.script.value shelf.workers.value new (record { worker = 0; ends = 1; put = put; told = ended.told; next = None })
put_first_gives p s t shelf old new tokens put done ended taken same owes is put_is =
    let own_end : HasEnded shelf.pool.value tokens done ended new = subst (λ (x : Pool). HasEnded x tokens done ended new) same is in
    known_before t.known s.known t.held shelf.script.value shelf.workers.value new _ taken.known
    (first_gives s.known p.crew t.held shelf.script.value shelf.workers.value shelf.pool.value new tokens done ended (record { worker = 0; ends = 1; put = put; told = ended.told; next = None })
    taken.held taken.script taken.workers taken.course owes own_end refl put_is refl refl)

pub look_again_gives : (p : SharedPoolView) (s t : SeatView) (shelf : PoolShelf) (script : ScriptView) (workers worker : ℕ) (old new : Pool) (n : WorkerNext)
    → HasTaken p s t shelf → old ≡ shelf.pool.value → p.crew ≡ record { script = script; workers = workers } → s.known.view.owes ≡ 0 → 0 < s.known.view.parts → IsNextOrRest script workers worker old n new
    → MayGiveBack t.known.view t.held shelf.script.value shelf.workers.value new (record { worker = worker; ends = 0; put = []; told = None; next = Some n })
look_again_gives p s t shelf script workers worker old new n taken same crew owes parts next =
    let own : IsNextOrRest p.crew.script p.crew.workers worker shelf.pool.value n new =
    subst (λ (x : PoolCrew). IsNextOrRest x.script x.workers worker shelf.pool.value n new) (sym crew) (subst (λ (x : Pool). IsNextOrRest script workers worker x n new) same next)
    in
    known_before t.known s.known t.held shelf.script.value shelf.workers.value new _ taken.known
    (look_gives s.known p.crew t.held shelf.script.value shelf.workers.value worker shelf.pool.value new n taken.held taken.script taken.workers owes parts own)

pub give_up_gives : (p : SharedPoolView) (s t : SeatView) (shelf : PoolShelf) (old new : Pool) (halt : Halt)
    → HasTaken p s t shelf → old ≡ shelf.pool.value → new.tokens.items ≡ old.tokens.items → new.under_way ≡ old.under_way → new.halt ≡ or_else old.halt (Some halt)
    → MayGiveBack t.known.view t.held shelf.script.value shelf.workers.value new (record { worker = 0; ends = 0; put = []; told = Some halt; next = None })
give_up_gives p s t shelf old new halt taken same tokens under_way halt_is =
    known_before t.known s.known t.held shelf.script.value shelf.workers.value new _ taken.known
    (halt_gives s.known p.crew t.held shelf.script.value shelf.workers.value shelf.pool.value new halt taken.held taken.script taken.workers taken.course
    (tokens ∙ ap (λ (x : Pool). x.tokens.items) same) (under_way ∙ ap (λ (x : Pool). x.under_way) same) (halt_is ∙ ap (λ (x : Pool). or_else x.halt (Some halt)) same))

pub room_after : (p : SharedPoolView) (s t : SeatView) (shelf : PoolShelf) (old mid : Pool) (tokens : List ExecId) (done : Result (Unit {0}) Halt) (ended : Ended) → HasTaken p s t shelf → old ≡ shelf.pool.value → s.known.view.owes ≡ 1 → HasEnded old tokens done ended mid
    → mid.under_way < 4294967295
room_after p s t shelf old mid tokens done ended taken same owes is =
    omega (arith, is.under_way, ap (λ (x : Pool). x.under_way) same, owes, room_left s.known _ taken.course, owes_counted s.known _ taken.course, has_part s.known _ taken.course)

pub room_now : (p : SharedPoolView) (s t : SeatView) (shelf : PoolShelf) (old : Pool) → HasTaken p s t shelf → old ≡ shelf.pool.value → s.known.view.owes ≡ 0 → 0 < s.known.view.parts → old.under_way < 4294967295
room_now p s t shelf old taken same owes parts = omega (arith, ap (λ (x : Pool). x.under_way) same, owes, parts, room_left s.known _ taken.course)

-- what is left when a pool is closed
pub closed_out : (v : PoolTold) (crew : PoolCrew) (shelf : PoolShelf) → v.view.crew ≡ crew → IsInCourse v (image_of shelf).view → v.view.over ≡ true → shelf.pool.value.halt ≡ None → IsRunOut crew v
closed_out v crew shelf of_crew course over none =
    let same : (image_of shelf).view.crew ≡ crew = sym (crew_is v (image_of shelf).view course) ∙ of_crew in
    let at : IsAtEnd (facts_of shelf.pool.value) = over_is v (image_of shelf).view course over in
    let here : IsInCourse v (record { crew = crew; facts = facts_of shelf.pool.value }) = subst (λ (x : PoolCrew). IsInCourse v (record { crew = x; facts = facts_of shelf.pool.value })) same course in
    ⊎_elim (λ up. absurd (up none)) (λ out. (facts_of shelf.pool.value, here, out.0, out.1, none)) at

pub halt_out : (crew : PoolCrew) (v : PoolTold) (shelf : PoolShelf) (o : Option Halt) → o ≡ shelf.pool.value.halt → v.view.crew ≡ crew → IsInCourse v (image_of shelf).view → v.view.over ≡ true → IfNone o (IsRunOut crew v)
halt_out crew v shelf None is of_crew course over = closed_out v crew shelf of_crew course over (sym is)
halt_out crew v shelf (Some h) is of_crew course over = tt

pub told_out : (v : PoolTold) (shelf : PoolShelf) (o : Option Halt) → o ≡ shelf.pool.value.halt → IsInCourse v (image_of shelf).view → v.view.told ≡ true → IsSome o
told_out v shelf None is course told = absurd (told_is v (image_of shelf).view course told (sym is))
told_out v shelf (Some h) is course told = refl

-- a pool alone never tells a worker to rest
pub next_or_rest : (script : ScriptView) (workers worker : ℕ) (old : Pool) (n : WorkerNext) (new : Pool) → IsNext (MayVisit script workers worker) old n new → IsNextOrRest script workers worker old n new
next_or_rest script workers worker old (Visit on) new is = is
next_or_rest script workers worker old Pause new is = is
next_or_rest script workers worker old Rest new is = absurd is
next_or_rest script workers worker old Stop new is = is

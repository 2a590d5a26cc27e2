-- Turns of a batch, one after the other.
use Rattle.swift_executor.proofs.Prelude.{◌≡◌, ◌-◌, ◌<◌, ◌≤◌, ◌+◌, ℕ, zero, suc, Bool, true, Option, Some, None, List, [], ◌∷◌, ◌++◌, map, refl, ap, sym, subst, ◌∙◌, arith, same_Some, take, drop, length, get_or, ExecInvariant, IsPermutation-refl, IsSome, TaskId, Env, ScriptView, JobView, BodyView, JobFacts, job_facts, BookKnown, BookLockView, BookSeatView, seat_of, name_of, GoesTogether, IsOfBook, IsSeatFor, ReadyJobsView, ChosenView, ExecStateView, HasChosen, Plays, TakenView, taken_of, HasStayed, RunsTurn, Afresh, AppliesThere, BeginsElse, BeginsThere, ChoosesAhead, HasAhead, PlaysAhead, HasBegun, StateName}
use Rattle.std.specs.Prelude.{slice_set}
use Rattle.swift_executor.specs.declared.aside.Aside.{Aside}
use Rattle.swift_executor.specs.AsideInside.{IsShuffled, PlayAside, PlaysAside, after_aside, seen_ready}
use Rattle.swift_executor.specs.CommitAsideInside.{CommitsAside, MayCommit}
use Rattle.swift_executor.specs.PlayingInside.{HasJob}
use Rattle.swift_shared_book.specs.declared.commits.Committed.TheVariants as committed
use Rattle.swift_executor.proofs.Committed.{task_here}
use Rattle.swift_executor.specs.BatchInside.{Batch, BeginsNext, HasRunSome, IsBatch, RunsBatch, between}
use Rattle.swift_executor.specs.Visits.{RunsTurns}
use Rattle.swift_executor.proofs.PlayedAhead.{runs_ahead}
use Rattle.swift_executor.proofs.SeatKept.{ahead_knows}
use Rattle.swift_executor.proofs.Shuffled.{begins_moved, shuffled_stays}
use Rattle.swift_executor.proofs.TurnsRun.{turns_push, turns_stay}
use Rattle.swift_executor.proofs.VisitSteps.{Done, stays_so}

-- A batch goes on with the next of its turns.
module _ (b : BookLockView) (worker n : ℕ) (last : TaskId) (jobs mid : List JobFacts) (r : TakenView) (knows : BookKnown) (order : Bool) (s : ExecStateView) (some : HasRunSome b worker n last jobs mid r knows order s)
    (a : Aside) (next : ExecStateView) (p : PlaysAside worker s a next) where
  abbrev m : TakenView
  m = taken_of s r.taker (seat_of b knows) order

  of : IsOfBook b m
  of = (refl, some.script_is)

  -- the seat is that of the executor as it was when the job was picked
  pub has_ahead : HasAhead worker (seat_of b knows) p.played
  has_ahead = record { was = p.picked; chosen = p.chosen; plays = p.plays; known = ahead_knows p.task s p.picked (seat_of b knows) some.together.is_of.2 some.free p.chooses }

  pub script_played : p.played.script ≡ s.script
  script_played = ap (λ (x : ExecStateView). x.script) p.plays.plays.same ∙ ap (λ (x : ExecStateView). x.script) p.chooses.same

  pub levels_played : (p.played.ready.levels ≡ r.state.ready.levels) × (p.played.ready.counted ≡ r.state.ready.counted)
  levels_played = (
    ap (λ (x : ExecStateView). x.ready.levels) p.plays.plays.same ∙ ap (λ (x : ExecStateView). x.ready.levels) p.chooses.same ∙ some.levels.0,
    ap (λ (x : ExecStateView). x.ready.counted) p.plays.plays.same ∙ ap (λ (x : ExecStateView). x.ready.counted) p.chooses.same ∙ some.levels.1,
  )

  pub applies_next : (c : ChosenView) (at : p.played.chosen ≡ Some c) (task : TaskId) (jobs' : List JobFacts) (knows' : BookKnown) (order' : Bool) → AppliesThere worker task mid jobs' (seat_of b knows) (seat_of b knows') order order' p.played (after_aside p.played a p.sets.is) c
      → HasRunSome b worker (suc n) task jobs jobs' r knows' order' next
  applies_next c at task jobs' knows' order' x =
      let x' : AppliesThere worker task mid jobs' (seat_of b knows) (seat_of b knows') order order' p.played next c = subst (λ (y : ExecStateView). AppliesThere worker task mid jobs' (seat_of b knows) (seat_of b knows') order order' p.played y c) (sym p.sets.new_is) x in
      let d = runs_ahead m some.together some.free p.task p.picked p.chooses worker p.chosen p.played p.plays b of c at task mid jobs' (seat_of b knows') order' next x' in
      record {
        free = ap (λ (y : ExecStateView). y.chosen) p.sets.new_is;
        script_is = some.script_is ∙ sym script_played ∙ sym (ap (λ (y : ExecStateView). y.script) p.sets.new_is);
        levels = (ap (λ (y : ExecStateView). y.ready.levels) p.sets.new_is ∙ levels_played.0, ap (λ (y : ExecStateView). y.ready.counted) p.sets.new_is ∙ levels_played.1);
        together = d.together;
        runs = turns_push worker n last task jobs mid jobs' r m (taken_of next r.taker (seat_of b knows') order') some.runs d.does;
      }

  -- The turn has begun, in another environment or in a book that does not take it.
  pub begins_next : (pl : ExecStateView) (sh : IsShuffled p.played pl) (c : ChosenView) (at : p.played.chosen ≡ Some c) (task : TaskId) (seat' : BookSeatView) (order' : Bool) (new : ExecStateView)
      → BeginsElse worker task (seat_of b knows) seat' order order' pl new c → Done (RunsBatch worker n last (Some task) jobs mid r) (taken_of new r.taker seat' order')
  begins_next pl sh c at task seat' order' new x =
      let d = begins_moved m some.together some.free p.task p.picked p.chooses worker p.chosen p.played p.plays pl sh b of c at task seat' order' new x in
      record { together = d.together; does = (d.does.ready, turns_stay worker n last jobs mid r m d.does.ready some.runs d.does.whole.stays, d.does.whole.is_of some.together.is_of, d.does.does) }

-- the turns that were run so far, where no other is to come
pub some_shuffled : (b : BookLockView) (worker n : ℕ) (last : TaskId) (jobs jobs' : List JobFacts) (r : TakenView) (knows : BookKnown) (order : Bool) (s new : ExecStateView) → HasRunSome b worker n last jobs jobs' r knows order s → IsShuffled s new
    → Done (RunsBatch worker n last None jobs jobs' r) (taken_of new r.taker (seat_of b knows) order)
some_shuffled b worker n last jobs jobs' r knows order s new some sh =
    let m = taken_of s r.taker (seat_of b knows) order in
    let d = shuffled_stays m new order some.together some.free sh (λ e. e) in
    record { together = d.together; does = (turns_stay worker n last jobs jobs' r m (taken_of new r.taker (seat_of b knows) order) some.runs d.does, d.together.is_of) }

-- in a book that is not known to go on in order, all else is as before
pub less_orderly : (b : BookLockView) (worker n : ℕ) (last : TaskId) (jobs jobs' : List JobFacts) (r : TakenView) (knows : BookKnown) (order order' : Bool) (s : ExecStateView) → (order' ≡ true → order ≡ true) → HasRunSome b worker n last jobs jobs' r knows order s
    → HasRunSome b worker n last jobs jobs' r knows order' s
less_orderly b worker n last jobs jobs' r knows order order' s less some =
    let m = taken_of s r.taker (seat_of b knows) order in
    record {
      free = some.free;
      script_is = some.script_is;
      levels = some.levels;
      together = record { is_of = some.together.is_of; order = λ e. some.together.order (less e) };
      runs = turns_stay worker n last jobs jobs' r m (taken_of s r.taker (seat_of b knows) order') some.runs (record { goes_on = (refl, some.free); jobs = refl; records = refl });
    }

-- So many turns were played, one after the other, and are aside.
abbrev pub PlayExactly : ℕ → ExecStateView → List Aside → ExecStateView → Type 0
PlayExactly worker s [] new = new ≡ s
PlayExactly worker s (a ∷ others) new = (next : ExecStateView) × PlaysAside worker s a next × PlayExactly worker next others new

pub play_one_more : (worker : ℕ) (s : ExecStateView) (xs : List Aside) (m : ExecStateView) (a : Aside) (new : ExecStateView) → PlayExactly worker s xs m → PlaysAside worker m a new → PlayExactly worker s (xs ++ a ∷ []) new
play_one_more worker s [] m a new e p = (new, subst (λ (x : ExecStateView). PlaysAside worker x a new) e p, refl)
play_one_more worker s (x ∷ xs) m a new h p = (h.0, h.1, play_one_more worker h.0 xs m a new h.2 p)

pub play_shuffled : (worker : ℕ) (s : ExecStateView) (xs : List Aside) (m new : ExecStateView) → PlayExactly worker s xs m → IsShuffled m new → PlayAside worker s xs new
play_shuffled worker s [] m new e is = subst (λ (x : ExecStateView). IsShuffled x new) e is
play_shuffled worker s (x ∷ xs) m new h is = (h.0, h.1, play_shuffled worker h.0 xs m new h.2 is)

-- no job in front is another one
pub same_shuffled : (s : ExecStateView) → ExecInvariant s → IsShuffled s s
same_shuffled s keeps = record { front = IsPermutation-refl (map seen_ready s.ready.front); belongs = keeps.front; same = refl }

-- what stays through turns that are aside
pub record SameThrough (s new : ExecStateView) : Type 0 where
  pub script : new.script ≡ s.script
  pub levels : new.ready.levels ≡ s.ready.levels
  pub counted : new.ready.counted ≡ s.ready.counted

pub shuffled_through : (s new : ExecStateView) → IsShuffled s new → SameThrough s new
shuffled_through s new is = record { script = ap (λ (x : ExecStateView). x.script) is.same; levels = ap (λ (x : ExecStateView). x.ready.levels) is.same; counted = ap (λ (x : ExecStateView). x.ready.counted) is.same }

plays_same : (worker : ℕ) (s next : ExecStateView) (a : Aside) → PlaysAside worker s a next → SameThrough s next
plays_same worker s next a p = record {
  script = ap (λ (x : ExecStateView). x.script) p.sets.new_is ∙ ap (λ (x : ExecStateView). x.script) p.plays.plays.same ∙ ap (λ (x : ExecStateView). x.script) p.chooses.same;
  levels = ap (λ (x : ExecStateView). x.ready.levels) p.sets.new_is ∙ ap (λ (x : ExecStateView). x.ready.levels) p.plays.plays.same ∙ ap (λ (x : ExecStateView). x.ready.levels) p.chooses.same;
  counted = ap (λ (x : ExecStateView). x.ready.counted) p.sets.new_is ∙ ap (λ (x : ExecStateView). x.ready.counted) p.plays.plays.same ∙ ap (λ (x : ExecStateView). x.ready.counted) p.chooses.same;
}

pub play_same : (worker : ℕ) (s : ExecStateView) (xs : List Aside) (new : ExecStateView) → PlayAside worker s xs new → SameThrough s new
play_same worker s [] new h = shuffled_through s new h
play_same worker s (x ∷ xs) new h =
    let one = plays_same worker s h.0 x h.1 in
    let two = play_same worker h.0 xs new h.2 in
    record { script = two.script ∙ one.script; levels = two.levels ∙ one.levels; counted = two.counted ∙ one.counted }

-- Lists.

set_more : (xs : List Aside) (n : ℕ) (a : Aside) → n < length xs → take (suc n) (slice_set xs n a) ≡ take n xs ++ a ∷ []
set_more [] n a lt = absurd (omega (arith, lt))
set_more (x ∷ xs) zero a lt = refl
set_more (x ∷ xs) (suc n) a lt = ap (λ (ys : List Aside). x ∷ ys) (set_more xs n a (omega (arith, lt)))

pub take_set_more : (xs : List Aside) (n : ℕ) (a : Aside) → n < length xs → take (n + 1) (slice_set xs n a) ≡ take n xs ++ a ∷ []
take_set_more xs n a lt = (let e : n + 1 ≡ suc n = omega arith in ap (λ (k : ℕ). take k (slice_set xs n a)) e ∙ set_more xs n a lt)

pub set_length : (xs : List Aside) (n : ℕ) (a : Aside) → length (slice_set xs n a) ≡ length xs
set_length [] n a = refl
set_length (x ∷ xs) zero a = refl
set_length (x ∷ xs) (suc n) a = ap suc (set_length xs n a)

drop_here : (xs : List Aside) (n : ℕ) (d : Aside) → n < length xs → drop n xs ≡ get_or xs n d ∷ drop (suc n) xs
drop_here [] n d lt = absurd (omega (arith, lt))
drop_here (x ∷ xs) zero d lt = refl
drop_here (x ∷ xs) (suc n) d lt = drop_here xs n d (omega (arith, lt))

drop_set : (xs : List Aside) (n : ℕ) (a : Aside) → drop (suc n) (slice_set xs n a) ≡ drop (suc n) xs
drop_set [] n a = refl
drop_set (x ∷ xs) zero a = refl
drop_set (x ∷ xs) (suc n) a = drop_set xs n a

drop_set_here : (xs : List Aside) (n : ℕ) (a : Aside) → n < length xs → drop n (slice_set xs n a) ≡ a ∷ drop (suc n) xs
drop_set_here [] n a lt = absurd (omega (arith, lt))
drop_set_here (x ∷ xs) zero a lt = refl
drop_set_here (x ∷ xs) (suc n) a lt = drop_set_here xs n a (omega (arith, lt))

less_one : (at many : ℕ) → at < many → many - at ≡ suc (many - (at + 1))
less_one at many lt = omega (arith, lt)

next_place : (at : ℕ) → suc at ≡ at + 1
next_place at = omega arith

-- the next of the turns aside, and those behind it
pub between_at : (xs : List Aside) (at many : ℕ) (d : Aside) → at < many → many ≤ length xs → between at many xs ≡ get_or xs at d ∷ between (at + 1) many xs
between_at xs at many d lt le =
    ap (λ (k : ℕ). take k (drop at xs)) (less_one at many lt) ∙ ap (λ (ys : List Aside). take (suc (many - (at + 1))) ys) (drop_here xs at d (omega (arith, lt, le)))
    ∙ ap (λ (k : ℕ). get_or xs at d ∷ take (many - (at + 1)) (drop k xs)) (next_place at)

pub between_set_here : (xs : List Aside) (at many : ℕ) (a : Aside) → at < many → many ≤ length xs → between at many (slice_set xs at a) ≡ a ∷ between (at + 1) many xs
between_set_here xs at many a lt le =
    ap (λ (k : ℕ). take k (drop at (slice_set xs at a))) (less_one at many lt) ∙ ap (λ (ys : List Aside). take (suc (many - (at + 1))) ys) (drop_set_here xs at a (omega (arith, lt, le)))
    ∙ ap (λ (k : ℕ). a ∷ take (many - (at + 1)) (drop k xs)) (next_place at)

pub between_set : (xs : List Aside) (at many : ℕ) (a : Aside) → between (at + 1) many (slice_set xs at a) ≡ between (at + 1) many xs
between_set xs at many a =
    ap (λ (k : ℕ). take (many - (at + 1)) (drop k (slice_set xs at a))) (sym (next_place at)) ∙ ap (λ (ys : List Aside). take (many - (at + 1)) ys) (drop_set xs at a)
    ∙ ap (λ (k : ℕ). take (many - (at + 1)) (drop k xs)) (next_place at)

pub between_none : (xs : List Aside) (many : ℕ) → between many many xs ≡ []
between_none xs many = (let e : many - many ≡ 0 = omega arith in ap (λ (k : ℕ). take k (drop many xs)) e)

-- where one is there, it is in its place
pub between_some : (xs : List Aside) (at many : ℕ) (a : Aside) (others : List Aside) → at ≤ many → between at many xs ≡ a ∷ others → at < many
between_some xs at many a others le is = by (many - at) refl is
  where
    by : (k : ℕ) → many - at ≡ k → take k (drop at xs) ≡ a ∷ others → at < many
    by zero e none = absurd (cc none)
    by (suc k) e some = omega (arith, e)

-- the next of the turns aside, where these are left
pub next_is : (xs : List Aside) (at many : ℕ) (d a : Aside) (others : List Aside) → at < many → many ≤ length xs → between at many xs ≡ a ∷ others → (get_or xs at d ≡ a) × (between (at + 1) many xs ≡ others)
next_is xs at many d a others lt le is =
    let e : get_or xs at d ∷ between (at + 1) many xs ≡ a ∷ others = sym (between_at xs at many d lt le) ∙ is in
    (ap (λ (ys : List Aside). get_or ys 0 d) e, ap (λ (ys : List Aside). drop 1 ys) e)

pub get_taken : (xs ys : List Aside) (n : ℕ) (d : Aside) → take (n + 1) ys ≡ take (n + 1) xs → n < length ys → n < length xs → get_or ys n d ≡ get_or xs n d
get_taken xs ys n d same one two =
    let next : n + 1 ≡ suc n = omega arith in
    let same' : take (suc n) ys ≡ take (suc n) xs = subst (λ (k : ℕ). take k ys ≡ take k xs) next same in
    sym (by ys n one) ∙ ap (λ (zs : List Aside). get_or zs n d) same' ∙ by xs n two
  where
    by : (zs : List Aside) (k : ℕ) → k < length zs → get_or (take (suc k) zs) k d ≡ get_or zs k d
    by [] k lt = absurd (omega (arith, lt))
    by (z ∷ zs) zero lt = refl
    by (z ∷ zs) (suc k) lt = by zs k (omega (arith, lt))

-- A batch begins.
pub batch_begins : (worker : ℕ) (b : BookLockView) (ready : ReadyJobsView BodyView) (knows : BookKnown) (order : Bool) (asides : List Aside) (g : Batch) (last : TaskId) (jobs : List JobFacts) → IsBatch worker b ready knows order asides g → HasRunSome b worker 0 last jobs jobs g.first knows order g.first.state
batch_begins worker b ready knows order asides g last jobs is =
    let r = g.first in
    let same : r ≡ taken_of r.state r.taker (seat_of b knows) order = ap (λ (x : BookSeatView). taken_of r.state r.taker x r.is_orderly) is.seat_is ∙ ap (λ (o : Bool). taken_of r.state r.taker (seat_of b knows) o) is.order_is in
    record {
      free = is.free;
      script_is = is.script_is;
      levels = (refl, refl);
      together = subst GoesTogether same is.together;
      runs = (subst (HasStayed r) same (stays_so r is.free), refl);
    }

-- where a batch stands: so many turns were run, and these are still aside
abbrev pub StandsAt : BookLockView → ℕ → ℕ → TaskId → List JobFacts → List JobFacts → Batch → BookKnown → Bool → List Aside → Type 0
StandsAt b worker n last jobs jobs' g knows order asides = (s : ExecStateView) × HasRunSome b worker n last jobs jobs' g.first knows order s × PlayAside worker s asides g.end

-- The next turn of a batch.
module _ (worker : ℕ) (b : BookLockView) (ready : ReadyJobsView BodyView) (knows0 : BookKnown) (order0 : Bool) (asides : List Aside) (g : Batch) (is : IsBatch worker b ready knows0 order0 asides g)
    (n : ℕ) (last : TaskId) (jobs mid : List JobFacts) (knows : BookKnown) (order : Bool) (a : Aside) (others : List Aside) (st : StandsAt b worker n last jobs mid g knows order (a ∷ others)) where
  abbrev s : ExecStateView
  s = st.0

  abbrev some : HasRunSome b worker n last jobs mid g.first knows order s
  some = st.1

  abbrev next : ExecStateView
  next = st.2.0

  abbrev p : PlaysAside worker s a next
  p = st.2.1

  abbrev pub may_commit : MayCommit worker b ready knows a p.played
  may_commit = record {
    is = p.sets.is;
    keeps = p.keeps;
    ahead = has_ahead b worker n last jobs mid g.first knows order s some a next p;
    script_is = some.script_is ∙ sym (script_played b worker n last jobs mid g.first knows order s some a next p);
    levels = is.levels ∙ sym (levels_played b worker n last jobs mid g.first knows order s some a next p).0;
    counted = is.counted ∙ sym (levels_played b worker n last jobs mid g.first knows order s some a next p).1;
  }

  pub aside_there : IsSome a.chosen.job
  aside_there = subst (λ (o : Option (JobView BodyView)). IsSome o) (sym p.sets.is.place) refl

  pub stands_next : (task : TaskId) (jobs' : List JobFacts) (knows' : BookKnown) (order' : Bool) → HasJob a.chosen.job (λ j. task ≡ j.task)
      → ((q : ExecStateView) (m : MayCommit worker b ready knows a q) → CommitsAside worker b mid jobs' knows knows' order order' a q m.is committed.Applied)
      → StandsAt b worker (n + 1) task jobs jobs' g knows' order' others
  stands_next task jobs' knows' order' of_task done =
      let x = done p.played may_commit in
      let own = p.sets.is in
      let same : own.job.task ≡ task = sym (task_here task own.job a.chosen.job own.place of_task) in
      let h : HasRunSome b worker (suc n) own.job.task jobs jobs' g.first knows' order' next =
      applies_next b worker n last jobs mid g.first knows order s some a next p x.applies.0 x.applies.1 own.job.task jobs' knows' order' x.applies.2
      in
      (next, subst (λ (k : ℕ). HasRunSome b worker k task jobs jobs' g.first knows' order' next) (next_place n) (subst (λ (t : TaskId). HasRunSome b worker (suc n) t jobs jobs' g.first knows' order' next) same h), st.2.2)

  pub begins_here : (env : Env) (jobs' : List JobFacts) (knows' : BookKnown) (order' : Bool) → jobs' ≡ mid
      → ((q : ExecStateView) (m : MayCommit worker b ready knows a q) → CommitsAside worker b mid jobs' knows knows' order order' a q m.is (committed.Begun env))
      → BeginsNext b worker n last jobs jobs' g (a ∷ others) env knows' order'
  begins_here env jobs' knows' order' same done =
      let x = done p.played may_commit in
      record {
        aside = a;
        others = others;
        here = refl;
        state = s;
        knew = knows;
        was = order;
        some = subst (λ (js : List JobFacts). HasRunSome b worker n last jobs js g.first knows order s) (sym same) some;
        next = next;
        plays = p;
        play = st.2.2;
        chosen = x.0;
        at = x.1;
        begins = x.2;
      }

  pub refuses_here : (jobs' : List JobFacts) (knows' : BookKnown) (order' : Bool) → jobs' ≡ mid
      → ((q : ExecStateView) (m : MayCommit worker b ready knows a q) → CommitsAside worker b mid jobs' knows knows' order order' a q m.is committed.Refused)
      → StandsAt b worker n last jobs jobs' g knows' order' (a ∷ others)
  refuses_here jobs' knows' order' same done =
      let x = done p.played may_commit in
      let less = less_orderly b worker n last jobs mid g.first knows order order' s x.1 some in
      (s, subst (λ (v : BookKnown). HasRunSome b worker n last jobs jobs' g.first v order' s) (sym x.0) (subst (λ (js : List JobFacts). HasRunSome b worker n last jobs js g.first knows order' s) (sym same) less), st.2)

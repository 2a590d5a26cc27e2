-- What each step of a visit has done to the state that a worker holds, and that what lies beside it still goes together with it.
use Rattle.swift_executor.proofs.Prelude.{◌≡◌, ℕ, Bool, true, false, refl, ◌⊎◌, sym, subst, Option, Some, None, map, List, ap, ◌∙◌, false≢true, same_Some, TaskId, JobFacts, job_facts, JobView, RecordView, ScriptView, BodyView, order_applied, BookKnown, TurnOrder, at_rest, under_way, BookView, facts_of, BookLockView, BookSeatView, IsInRun, OpenSeatView, after_turn, knowing, seat_of, with_ticket, HasTaken, IsAt, IsOf, name_of, site_of, GoesOn, GoesTogether, IsOfBook, order_at, order_of, InboxView, TakerView, has_taken, Adds, IsRefusal, IsSeatFor, KeepsOrder, orders_of, records_in, SiteView, ChosenStageView, ChosenView, Chooses, EndsTurn, ExecStateView, HasChosen, HasNone, IsBegun, LacksTask, OnlyJobs, Plays, PutsBack, begun, picked, played, record_of, refusal_to_apply, refusal_to_begin, TakenView, taken_of, BeginsIn, CannotBegin, CannotChoose, CannotEnd, CannotPlay, FindsNone, Finishes, HasBegun, HasStayed, RunsTurn, Starts, ExecFault, Memory, Refused, StateName}
use Rattle.swift_tasks.specs.declared.fault.BookFault.TheVariants.{Unknown}
use Rattle.swift_executor.proofs.AccountKept.{accepted, chose, had_none, lacked, put_back, started, turned, was_played}
use Rattle.swift_executor.proofs.SeatKept.{accepted_knows, back_knows, lacked_knows, none_knows, played_knows}
use Rattle.swift_executor.proofs.Visits.{at_rest_of, begun_at, name_stays, only_back, only_both, only_by, only_played, only_started, same_seat, seat_of_book, site_stays, together_after}

-- what was done, and that all goes together after it
pub record Done (P : TakenView → Type 0) (new : TakenView) : Type 0 where
  pub together : GoesTogether new
  pub does : P new

-- no turn was run, for this
pub record StaysFor (r : TakenView) (P : TakenView → ExecFault → TakenView → Type 0) (fault : ExecFault) (new : TakenView) : Type 0 where
  pub stays : HasStayed r new
  pub why : P r fault new

-- nothing was done
pub stays_so : (r : TakenView) → r.state.chosen ≡ None → HasStayed r r
stays_so r free = record { goes_on = (refl, free); jobs = refl; records = refl }

-- no turn was run, and then none again, or one that was put back
pub stays_both : (a b c : TakenView) → HasStayed a b → HasStayed b c → HasStayed a c
stays_both a b c one two = record {
  goes_on = (two.goes_on.0 ∙ one.goes_on.0, two.goes_on.1);
  jobs = only_both a.state b.state c.state one.jobs two.jobs;
  records = two.records ∙ one.records;
}

pub stays_begun : (worker : ℕ) (task : TaskId) (a b c : TakenView) → HasBegun worker task a b → HasStayed b c → HasStayed a c
stays_begun worker task a b c one two = record {
  goes_on = (two.goes_on.0 ∙ one.name, two.goes_on.1);
  jobs = only_both a.state b.state c.state (only_started worker task a.seat.knows a.state b.state one.starts) two.jobs;
  records = two.records ∙ one.records;
}

-- a state that keeps its name is of the same book, and of the same script
pub script_stays : (old new : TakenView) → name_of new ≡ name_of old → new.state.script ≡ old.state.script
script_stays old new name = ap (λ (n : StateName). n.site.script) name

pub book_stays : (b : BookLockView) (old new : TakenView) → name_of new ≡ name_of old → IsOfBook b old → IsOfBook b new
book_stays b old new name of =
    (same_Some new.seat.lock old.seat.lock (ap (λ (n : StateName). n.site.book) name) ∙ of.0, of.1 ∙ sym (script_stays old new name))

-- the turn of the state has begun
pub is_begun : (worker : ℕ) (task : TaskId) (old new : TakenView) → HasBegun worker task old new → HasChosen new.state (λ c. IsBegun c.stage)
is_begun worker task old new h = (let s = h.starts in let c = begun_at s.book worker s.picked new.state s.begins in (c.0, c.1, c.2))

-- a turn was run
pub ran_on : (worker : ℕ) (task : TaskId) (jobs jobs' : List JobFacts) (old new : TakenView) → RunsTurn worker task jobs jobs' old new → GoesOn old new
ran_on worker task jobs jobs' old new ran = (ran.finishes.goes_on.0 ∙ ran.begins.name, ran.finishes.goes_on.1)

-- what a turn that begins takes
taken_started : (taken : List JobFacts) (worker : ℕ) (task : TaskId) (knows : BookKnown) (old new : ExecStateView) → old.chosen ≡ None → Starts worker task knows old new → HasTaken taken old → HasTaken taken new
taken_started taken worker task knows old new free s was =
    let b = s.begins in
    subst (HasTaken taken) (sym b.given) (started taken s.book b.begins.book_after worker s.picked b.begun (chose taken s.book.log task old s.picked was free s.chooses) b.begins.turn)

-- only the jobs have changed, none is chosen, and none is lost
pub stays_with : (r : TakenView) (new : ExecStateView) (seat : BookSeatView) (is_orderly : Bool) → GoesTogether r → seat.lock ≡ r.seat.lock → records_in seat.knows ≡ records_in r.seat.knows → OnlyJobs r.state new → new.chosen ≡ None
    → HasTaken r.taker.taken new → IsSeatFor new seat → KeepsOrder is_orderly at_rest seat → Done (HasStayed r) (taken_of new r.taker seat is_orderly)
stays_with r new seat is_orderly t lock records jobs none taken known keeps =
    let site = site_stays r.seat.lock r.state new jobs in
    record {
      together = together_after r.taker r.seat seat r.state new is_orderly at_rest t.is_of lock site taken known (ap order_of none) keeps;
      does = record { goes_on = (name_stays r (taken_of new r.taker seat is_orderly) refl lock site, none); jobs = jobs; records = records };
    }

none_known : (P : Type 0) → false ≡ true → P
none_known P e = absurd (false≢true e)

-- A job of the inbox was made ready, or none.
module _ (i : InboxView) (r : TakenView) (t : GoesTogether r) (free : r.state.chosen ≡ None) (here : IsAt i r.taker r.seat r.state) where
  pub record Accepts (new : TakenView) : Type 0 where
    pub at : IsAt i new.taker new.seat new.state
    pub stays : HasStayed r new

  pub accepts_none : (t' : TakerView) → t' ≡ r.taker → Done Accepts (taken_of r.state t' r.seat r.is_orderly)
  accepts_none t' same = subst (λ (x : TakerView). Done Accepts (taken_of r.state x r.seat r.is_orderly)) (sym same) (record { together = t; does = record { at = here; stays = stays_so r free } })

  pub accepts_one : (t1 t2 : TakerView) (seat' : BookSeatView) (s' : ExecStateView) (sent job : JobView BodyView) → t2 ≡ has_taken t1 sent → t1 ≡ r.taker → job ≡ sent
      → seat' ≡ knowing (with_ticket (job_facts sent) r.seat.knows) r.seat → Adds r.state.ready job s'.ready → s' ≡ record r.state { ready = s'.ready } → Done Accepts (taken_of s' t2 seat' r.is_orderly)
  accepts_one t1 t2 seat' s' sent job took same_taker of_job takes adds rest =
      let s = r.state in
      let seat = r.seat in
      let next : TakerView = has_taken r.taker sent in
      let got : BookSeatView = knowing (with_ticket (job_facts sent) seat.knows) seat in
      let is : t2 ≡ next = took ∙ ap (λ (x : TakerView). has_taken x sent) same_taker in
      let adds' : Adds s.ready sent s'.ready = subst (λ (j : JobView BodyView). Adds s.ready j s'.ready) of_job adds in
      let site : site_of seat.lock s' ≡ site_of seat.lock s = ap (site_of seat.lock) rest in
      let none : s'.chosen ≡ None = ap (λ (x : ExecStateView). x.chosen) rest ∙ free in
      let known : IsSeatFor s' got = accepted_knows sent s s' seat here.2.2 free adds' rest in
      let of : IsOf next got s' = (here.2.0 ∙ ap (λ (x : SiteView). Some x) (sym site), accepted r.taker.taken sent s s' here.2.1 adds' rest, known) in
      let new = taken_of s' next got r.is_orderly in
      let all : Done Accepts new = record {
        together = record { is_of = of; order = subst (λ (o : Option ChosenView). KeepsOrder r.is_orderly (order_of o) got) (sym none) (at_rest_of r t free) };
        does = record {
          at = (here.0, site ∙ here.1, of);
          stays = record {
            goes_on = (ap (λ (x : SiteView). record { site = x; inbox = record { inbox = r.taker.inbox } }) site, none);
            jobs = only_by s s' s'.ready s.chosen rest;
            records = refl;
          };
        };
      }
      in
      subst (λ (x : TakerView). Done Accepts (taken_of s' x seat' r.is_orderly)) (sym is) (subst (λ (x : BookSeatView). Done Accepts (taken_of s' next x r.is_orderly)) (sym takes) all)

-- The book was taken by the seat, to choose the job that comes first, and was given back.
module _ (b : BookLockView) (r : TakenView) (t : GoesTogether r) (free : r.state.chosen ≡ None) (of : IsOfBook b r) (o : OpenSeatView) (v : BookView)
    (is : o ≡ record { lock = b.id; knows = r.seat.knows; taken = Some (facts_of v) }) (run : IsInRun r.seat.knows (facts_of v)) where
  own : o.knows ≡ r.seat.knows
  own = ap (λ (x : OpenSeatView). x.knows) is

  -- the seat that comes back is as it was
  back : (seat : BookSeatView) → seat ≡ seat_of b o.knows → seat ≡ r.seat
  back seat given = given ∙ ap (seat_of b) own ∙ same_seat b r.seat (seat_of_book b r of t.is_of.2)

  left_so : (P : TakenView → Type 0) (new : ExecStateView) (seat : BookSeatView) → seat ≡ seat_of b o.knows → Done P (taken_of new r.taker r.seat r.is_orderly) → Done P (taken_of new r.taker seat r.is_orderly)
  left_so P new seat given = subst (λ (x : BookSeatView). Done P (taken_of new r.taker x r.is_orderly)) (sym (back seat given))

  pub begins_one : (worker : ℕ) (task : TaskId) (s new : ExecStateView) (seat : BookSeatView) (is_orderly : Bool) → Chooses v.log r.state s task → BeginsIn v worker s new → seat.lock ≡ b.id → records_in seat.knows ≡ records_in o.knows
      → IsSeatFor new seat → KeepsOrder is_orderly under_way seat → Done (HasBegun worker task r) (taken_of new r.taker seat is_orderly)
  begins_one worker task s new seat is_orderly ch begins lock records known keeps =
      let starts : Starts worker task r.seat.knows r.state new = record { book = v; run = run; picked = s; chooses = ch; begins = begins } in
      let same : seat.lock ≡ r.seat.lock = lock ∙ sym of.0 in
      let site = site_stays r.seat.lock r.state new (only_started worker task r.seat.knows r.state new starts) in
      record {
        together = together_after r.taker r.seat seat r.state new is_orderly under_way t.is_of same site (taken_started r.taker.taken worker task r.seat.knows r.state new free starts t.is_of.1) known (begun_at v worker s new begins).3 keeps;
        does = record { name = name_stays r (taken_of new r.taker seat is_orderly) refl same site; starts = starts; known = known; records = records ∙ ap records_in own };
      }

  pub finds_none : (new : ExecStateView) (seat : BookSeatView) → HasNone v.log r.state new → seat ≡ seat_of b o.knows → Done (FindsNone r) (taken_of new r.taker seat r.is_orderly)
  finds_none new seat h given =
      let none = ap (λ (s : ExecStateView). s.chosen) h.same ∙ free in
      let all = stays_with r new r.seat r.is_orderly t refl refl (only_by r.state new _ _ h.same) none (had_none r.taker.taken v.log r.state new t.is_of.1 h) (none_knows v.log r.state new r.seat t.is_of.2 free h) (at_rest_of r t free) in
      left_so (FindsNone r) new seat given (record { together = all.together; does = record { stays = all.does; book = v; run = run; none = h } })

  pub cannot_choose : (new : ExecStateView) (seat : BookSeatView) (fault : ExecFault) → LacksTask v.log r.state new → fault ≡ Refused Unknown → seat ≡ seat_of b o.knows → Done (StaysFor r CannotChoose fault) (taken_of new r.taker seat r.is_orderly)
  cannot_choose new seat fault h cause given =
      let none = ap (λ (s : ExecStateView). s.chosen) h.same ∙ free in
      let all = stays_with r new r.seat r.is_orderly t refl refl (only_by r.state new _ _ h.same) none (lacked r.taker.taken v.log r.state new t.is_of.1 h) (lacked_knows v.log r.state new r.seat t.is_of.2 free h) (at_rest_of r t free) in
      left_so (StaysFor r CannotChoose fault) new seat given (record { together = all.together; does = record { stays = all.does; why = record { book = v; run = run; lacks = h; cause = cause } } })

  pub cannot_begin : (task : TaskId) (s new : ExecStateView) (seat : BookSeatView) (is_orderly : Bool) (fault : ExecFault) → Chooses v.log r.state s task → HasChosen s (PutsBack s new) → seat.lock ≡ b.id → records_in seat.knows ≡ records_in o.knows
      → IsSeatFor new seat → KeepsOrder is_orderly at_rest seat → IsRefusal (refusal_to_begin v s.chosen) fault → Done (StaysFor r CannotBegin fault) (taken_of new r.taker seat is_orderly)
  cannot_begin task s new seat is_orderly fault ch puts lock records known keeps cause =
      let jobs = only_both r.state s new (only_by r.state s _ _ ch.same) (only_back s new puts) in
      let none = ap (λ (x : ExecStateView). x.chosen) puts.2.same in
      let taken = put_back r.taker.taken s new (chose r.taker.taken v.log task r.state s t.is_of.1 free ch) puts in
      let all = stays_with r new seat is_orderly t (lock ∙ sym of.0) (records ∙ ap records_in own) jobs none taken known keeps in
      record { together = all.together; does = record { stays = all.does; why = record { book = v; run = run; picked = s; task = task; chooses = ch; back = puts; cause = cause } } }

-- A turn that has begun is under way.
begun_stage : (c : ChosenView) → IsBegun c.stage → order_of (Some c) ≡ under_way
begun_stage c is = by c.stage is
  where
    by : (x : ChosenStageView) → IsBegun x → order_at x ≡ under_way
    by picked is = absurd is
    by (begun worker env) is = refl
    by (played worker env frame fields effects exit) is = absurd is

-- The turn that has begun is played and journalled.
module _ (r : TakenView) (t : GoesTogether r) (begins : HasChosen r.state (λ c. IsBegun c.stage)) where
  goes : KeepsOrder r.is_orderly under_way r.seat
  goes = subst (λ (o : TurnOrder). KeepsOrder r.is_orderly o r.seat) (ap order_of begins.1 ∙ begun_stage begins.0 begins.2) t.order

  pub cannot_play : (new : ExecStateView) (fault : ExecFault) → HasChosen r.state (PutsBack r.state new) → fault ≡ Memory → Done (StaysFor r CannotPlay fault) (taken_of new r.taker r.seat false)
  cannot_play new fault puts cause =
      let all = stays_with r new r.seat false t refl refl (only_back r.state new puts) (ap (λ (x : ExecStateView). x.chosen) puts.2.same) (put_back r.taker.taken r.state new t.is_of.1 puts) (back_knows r.state new r.seat t.is_of.2 puts) (none_known _) in
      record { together = all.together; does = record { stays = all.does; why = record { back = puts; cause = cause } } }

  pub cannot_end : (s new : ExecStateView) (seat : BookSeatView) (fault : ExecFault) → HasChosen r.state (Plays r.state s) → HasChosen s (PutsBack s new) → seat ≡ r.seat
      → (fault ≡ Memory) ⊎ ((book : BookView) × (book.script ≡ s.script) × IsInRun r.seat.knows (facts_of book) × IsRefusal (refusal_to_apply book s.chosen) fault)
      → Done (StaysFor r CannotEnd fault) (taken_of new r.taker seat false)
  cannot_end s new seat fault plays puts same cause =
      let jobs = only_both r.state s new (only_played r.state s plays) (only_back s new puts) in
      let taken = put_back r.taker.taken s new (was_played r.taker.taken r.state s t.is_of.1 plays) puts in
      let known = back_knows s new r.seat (played_knows r.state s r.seat t.is_of.2 plays) puts in
      let all = stays_with r new r.seat false t refl refl jobs (ap (λ (x : ExecStateView). x.chosen) puts.2.same) taken known (none_known _) in
      let script : s.script ≡ r.state.script = ap (λ (x : ExecStateView). x.script) plays.2.same in
      subst (λ (x : BookSeatView). Done (StaysFor r CannotEnd fault) (taken_of new r.taker x false)) (sym same)
      (record {
        together = all.together;
        does = record {
          stays = all.does;
          why = record {
            played = s;
            plays = plays;
            back = puts;
            cause = subst (λ (p : ScriptView). (fault ≡ Memory) ⊎ ((book : BookView) × (book.script ≡ p) × IsInRun r.seat.knows (facts_of book) × IsRefusal (refusal_to_apply book s.chosen) fault)) script cause;
          };
        };
      })

  pub finishes_one : (jobs jobs' : List JobFacts) (s new : ExecStateView) (seat : BookSeatView) → HasChosen r.state (Plays r.state s) → EndsTurn r.seat.knows jobs jobs' s new → IsSeatFor new seat
      → (w : RecordView) × (record_of s.chosen ≡ Some w) × (seat ≡ knowing (after_turn w r.seat.knows) r.seat) → orders_of seat.knows ≡ map order_applied (orders_of r.seat.knows)
      → Done (Finishes jobs jobs' r) (taken_of new r.taker seat r.is_orderly)
  finishes_one jobs jobs' s new seat plays ends known told order =
      let lock : seat.lock ≡ r.seat.lock = ap (λ (x : BookSeatView). x.lock) told.2 in
      let e = ends.turn in
      let none : new.chosen ≡ None = ap (λ (x : ExecStateView). x.chosen) e.2.same in
      let site : site_of r.seat.lock new ≡ site_of r.seat.lock r.state = ap (site_of r.seat.lock) e.2.same ∙ ap (site_of r.seat.lock) plays.2.same in
      let taken = turned r.taker.taken ends.book ends.book_after jobs jobs' s new (was_played r.taker.taken r.state s t.is_of.1 plays) e in
      let keeps : KeepsOrder r.is_orderly at_rest seat = λ is. order ∙ ap (map order_applied) (goes is) in
      record {
        together = together_after r.taker r.seat seat r.state new r.is_orderly at_rest t.is_of lock site taken known (ap order_of none) keeps;
        does = record {
          goes_on = (name_stays r (taken_of new r.taker seat r.is_orderly) refl lock site, none);
          played = s;
          plays = plays;
          ends = ends;
          written = told.0;
          is_written = told.1;
          told = told.2;
        };
      }

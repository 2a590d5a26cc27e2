-- What the steps of a visit leave, by what their calls have answered.
use Rattle.swift_executor.proofs.Prelude.{◌≡◌, ℕ, Bool, true, map, sym, subst, [], ◌∷◌, Option, Some, None, length, Result, Ok, Err, IfOk, IfErr, IfSome, IfNone, List, ap, ◌∙◌, same_Some, TaskId, Event, AreLevels, ScriptView, BookFacts, BookKnown, TurnOrder, at_rest, under_way, order_begun, BodyView, BookView, facts_of, BookLockView, BookSeatView, IsSeatOf, OpenSeatView, seat_of, HasTaken, IsAt, IsOf, name_of, site_of, state_name, GoesTogether, HasOpened, IsOfBook, IsResting, IsStateAt, order_of, InboxView, TakerView, HaveCounted, ReadyJobsView, HaveSeen, IsSeatFor, KeepsOrder, SiteView, BeginsTurn, ChosenView, Chooses, ExecStateView, HasChosen, HasNone, IsBegun, IsPicked, IsPlayed, LacksTask, OnlyJobs, Plays, PutsBack, begun, picked, played, TakenView, taken_of, BeginsIn, IsFree, Starts, ExecFault, StateName}
use Rattle.atomic_table.specs.Seated.{TableId}
use Rattle.swift_course.specs.Reports.{Knows}
use Rattle.swift_executor.proofs.SeatKept.{chose_counted, counted_knows}

-- where an executor has other jobs, only its jobs have changed
pub only_by : (old new : ExecStateView) (ready : ReadyJobsView BodyView) (chosen : Option ChosenView) → new ≡ record old { ready = ready; chosen = chosen } → OnlyJobs old new
only_by old new ready chosen is = is ∙ ap (λ (s : ExecStateView). record old { ready = s.ready; chosen = s.chosen }) (sym is)

pub only_both : (old mid new : ExecStateView) → OnlyJobs old mid → OnlyJobs mid new → OnlyJobs old new
only_both old mid new one two = two ∙ ap (λ (s : ExecStateView). record s { ready = new.ready; chosen = new.chosen }) one

-- the chosen job is ready again
pub only_back : (old new : ExecStateView) → HasChosen old (PutsBack old new) → OnlyJobs old new
only_back old new back = only_by old new _ _ back.2.same

-- a turn has begun
only_begun : (book : BookView) (worker : ℕ) (old new : ExecStateView) → BeginsTurn book worker old new → OnlyJobs old new
only_begun book worker old new begins = only_by old new _ _ begins.turn.2.same

pub only_started : (worker : ℕ) (task : TaskId) (knows : BookKnown) (old new : ExecStateView) → Starts worker task knows old new → OnlyJobs old new
only_started worker task knows old new s =
    let b = s.begins in
    only_both old s.picked new (only_by old s.picked _ _ s.chooses.same) (only_both s.picked b.begun new (only_begun s.book worker s.picked b.begun b.begins) (only_by b.begun new _ _ b.given))

-- a turn was played
pub only_played : (old new : ExecStateView) → HasChosen old (Plays old new) → OnlyJobs old new
only_played old new plays = only_by old new _ _ plays.2.same

-- then the executor is the same
pub site_stays : (lock : TableId) (old new : ExecStateView) → OnlyJobs old new → site_of lock new ≡ site_of lock old
site_stays lock old new jobs = ap (site_of lock) jobs

-- the job is chosen, and its turn has begun, or was played
pub is_picked : (log : List Event) (old new : ExecStateView) (task : TaskId) → Chooses log old new task → HasChosen new (λ c. IsPicked c.stage)
is_picked log old new task h = (record { job = h.job; arrival = h.arrival; stage = picked }, ap (λ (s : ExecStateView). s.chosen) h.same, tt)

pub begun_at : (book : BookView) (worker : ℕ) (old new : ExecStateView) → BeginsIn book worker old new → (c : ChosenView) × (new.chosen ≡ Some c) × IsBegun c.stage × (order_of new.chosen ≡ under_way)
begun_at book worker old new b =
    let t = b.begins.turn in
    let c : ChosenView = record t.0 { stage = begun worker t.2.env } in
    let is : new.chosen ≡ Some c = ap (λ (s : ExecStateView). s.chosen) b.given ∙ ap (λ (s : ExecStateView). s.chosen) t.2.same in
    (c, is, tt, ap order_of is)

pub is_played : (old new : ExecStateView) → HasChosen old (Plays old new) → HasChosen new (λ c. IsPlayed c.stage)
is_played old new p =
    (record { job = p.2.job; arrival = p.0.arrival; stage = played p.2.worker p.2.env p.2.frame p.2.fields p.2.effects p.2.exit }, ap (λ (s : ExecStateView). s.chosen) p.2.same, tt)

-- a choice by the levels of a log
module _ (given : List ℕ) (old new : ExecStateView) (log : List Event) (levels : AreLevels log given) where
  pub picks_by : (r : Result (Option TaskId) ExecFault) → IfOk r (λ picked. IfSome picked (λ task. (log : List Event) → AreLevels log given → Chooses log old new task)) → IfOk r (λ picked. IfSome picked (λ task. Chooses log old new task))
  picks_by (Ok (Some task)) some = some log levels
  picks_by (Ok None) some = tt
  picks_by (Err fault) some = tt

  pub none_by : (r : Result (Option TaskId) ExecFault) → IfOk r (λ picked. IfNone picked ((log : List Event) → AreLevels log given → HasNone log old new)) → IfOk r (λ picked. IfNone picked (HasNone log old new))
  none_by (Ok (Some task)) none = tt
  none_by (Ok None) none = none log levels
  none_by (Err fault) none = tt

  pub lacks_by : (F : ExecFault → Type 0) (r : Result (Option TaskId) ExecFault) → IfErr r (λ fault. F fault × ((log : List Event) → AreLevels log given → LacksTask log old new)) → IfErr r (λ fault. F fault × LacksTask log old new)
  lacks_by F (Ok one) err = tt
  lacks_by F (Err fault) err = (err.0, err.1 log levels)

-- where the last root is there, and none was under way, one more turn begins in order
pub begun_in_order : (there : Bool) (orders : List TurnOrder) → there ≡ true → orders ≡ at_rest ∷ [] → map (order_begun there) orders ≡ under_way ∷ []
begun_in_order there orders is rest = ap (map (order_begun there)) rest ∙ ap (λ (b : Bool). order_begun b at_rest ∷ []) is

-- a turn that has begun, in the book by whose levels its job was chosen, which are then noted
pub begun_knows : (before old new : ExecStateView) (task : TaskId) (book : BookView) (worker : ℕ) (events : ℕ) (seat : BookSeatView) → Chooses book.log before old task → BeginsTurn book worker old new → IsSeatFor new seat
    → map (λ a. a.seen) seat.knows.accounts ≡ book.log ∷ [] → events ≡ length book.log → IsSeatFor (record new { ready = record new.ready { counted = events } }) seat
begun_knows before old new task book worker events seat ch begins known seen all =
    let counted = chose_counted book.log before old ch.picks.given ch.picks.levels ch.picks.higher in
    let same = ap (λ (s : ExecStateView). s.ready.levels) begins.turn.2.same in
    counted_knows new seat book.log events known seen all (subst (HaveCounted book.log) (sym same) counted)

-- a seat that was taken and given back as it was is the same
pub same_seat : (b : BookLockView) (s : BookSeatView) → IsSeatOf b s → seat_of b s.knows ≡ s
same_seat b s is = ap (λ (id : TableId). record { lock = id; here = true; knows = s.knows }) (sym is.0) ∙ ap (λ (h : Bool). record s { here = h }) (sym is.1)

-- the seat of an executor of this book
pub seat_of_book : (b : BookLockView) (r : TakenView) → IsOfBook b r → IsSeatFor r.state r.seat → IsSeatOf b r.seat
seat_of_book b r of known = (of.0, known.here, known.account.script_is ∙ ap (λ (p : ScriptView). Some p) (sym of.1))

-- what a seat knows of the book says what its accounts have seen of the log
pub seen_of : (v : BookKnown) (facts : BookFacts) → Knows v facts → HaveSeen facts.log v
seen_of v facts knows k d lt = (knows.1.orders k d lt).1

-- the book that was taken by a seat is as it was then
pub has_opened : (b : BookLockView) (s : ExecStateView) (seat : BookSeatView) (o : OpenSeatView) (v v' : BookView) → IsSeatOf b seat → b.script ≡ s.script → IsSeatFor s seat → v' ≡ v
    → v.script ≡ b.script → o ≡ record { lock = b.id; knows = seat.knows; taken = Some (facts_of v) } → Knows seat.knows (facts_of v) → HasOpened b s o v'
has_opened b s seat o v v' of script known same script_is is knows =
    let back : seat_of b o.knows ≡ seat = ap (λ (x : OpenSeatView). seat_of b x.knows) is ∙ same_seat b seat of in
    record {
      untouched = (ap (λ (x : OpenSeatView). x.lock) is, ap (λ (x : BookView). x.script) same ∙ script_is, ap (λ (x : OpenSeatView). x.taken) is ∙ ap (λ (x : BookView). Some (facts_of x)) (sym same));
      seat_is = subst (IsSeatOf b) (sym back) of;
      script_is = script;
      known = subst (IsSeatFor s) (sym back) known;
      front = subst (λ (x : BookView). HaveSeen x.log o.knows) (sym same) (subst (HaveSeen v.log) (sym (ap (λ (x : OpenSeatView). x.knows) is)) (seen_of seat.knows (facts_of v) knows));
    }

-- What lies beside a state goes together with it after a step: the executor is the same, none of its jobs is lost, the seat is its own, and
-- the turns have begun in order as far as is known.
pub together_after : (t : TakerView) (seat seat' : BookSeatView) (s s' : ExecStateView) (is_orderly : Bool) (o : TurnOrder) → IsOf t seat s → seat'.lock ≡ seat.lock → (site_of seat.lock s' ≡ site_of seat.lock s)
    → HasTaken t.taken s' → IsSeatFor s' seat' → order_of s'.chosen ≡ o → KeepsOrder is_orderly o seat' → GoesTogether (taken_of s' t seat' is_orderly)
together_after t seat seat' s s' is_orderly o is lock site taken known order keeps = record {
  is_of = (is.0 ∙ ap (λ (x : SiteView). Some x) (sym site) ∙ ap (λ (l : TableId). Some (site_of l s')) (sym lock), taken, known);
  order = subst (λ (x : TurnOrder). KeepsOrder is_orderly x seat') (sym order) keeps;
}

-- its name is then as it was
pub name_stays : (old new : TakenView) → new.taker ≡ old.taker → new.seat.lock ≡ old.seat.lock → site_of old.seat.lock new.state ≡ site_of old.seat.lock old.state → name_of new ≡ name_of old
name_stays old new taker lock site =
    ap (λ (t : TakerView). state_name (site_of new.seat.lock new.state) t.inbox) taker ∙ ap (λ (l : TableId). state_name (site_of l new.state) old.taker.inbox) lock ∙ ap (λ (x : SiteView). state_name x old.taker.inbox) site

-- where no job is chosen, no turn is under way
pub at_rest_of : (r : TakenView) → GoesTogether r → r.state.chosen ≡ None → KeepsOrder r.is_orderly at_rest r.seat
at_rest_of r is free = subst (λ (o : Option ChosenView). KeepsOrder r.is_orderly (order_of o) r.seat) free is.order

-- a state that may lie in a word, of this name, lies in that of this executor
pub free_at : (i : InboxView) (r : TakenView) → IsStateAt i r → IsResting r → IsFree i r
free_at i r name rests = record {
  none = rests.none;
  at = (ap (λ (n : StateName). n.inbox.inbox) name, ap (λ (n : StateName). n.site) name, rests.together.is_of);
  keeps = rests.keeps;
  order = at_rest_of r rests.together rests.none;
}

-- a state of this executor, by its parts
pub state_at : (i : InboxView) (r : TakenView) → IsAt i r.taker r.seat r.state → IsStateAt i r
state_at i r at = ap (λ (x : TableId). state_name (site_of r.seat.lock r.state) x) at.0 ∙ ap (λ (x : SiteView). state_name x i.id) at.1

pub of_book_at : (i : InboxView) (b : BookLockView) (r : TakenView) → i.site.book ≡ Some b.id → b.script ≡ i.site.script → IsStateAt i r → IsOfBook b r
of_book_at i b r book script is =
    let site = ap (λ (n : StateName). n.site) is in
    (same_Some r.seat.lock b.id (ap (λ (x : SiteView). x.book) site ∙ book), script ∙ sym (ap (λ (x : SiteView). x.script) site))

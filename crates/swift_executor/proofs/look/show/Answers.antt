use Rattle.swift_executor.proofs.Prelude.{ap, sym, subst, ◌∙◌, facts_of, BookSeatView, OpenSeatView, seat_of, GoesTogether, IsOfBook, IsResting, IsSeen, TakenView, taken_of}
use Rattle.swift_executor.proofs.SeatKept.{free_seen}
use Rattle.swift_executor.proofs.Visits.{same_seat, seat_of_book}
use Rattle.swift_executor.proofs.look.show.Goals as goal

pub see-requires : goal.see-requires
see-requires g c =
    let x = c.held.inside in
    let rests = subst IsResting (sym c.held.view_is) c.requires.rests in
    free_seen x.state x.seat (facts_of c.lock-taken.result.book.value) rests.none rests.keeps rests.together.is_of.2 c.lock-taken.ensures.knows

pub returns-clause-seen : goal.returns-clause-seen
returns-clause-seen g c =
    let x = c.held.inside in
    let rests = subst IsResting (sym c.held.view_is) c.requires.rests in
    subst (λ (v : TakenView). IsSeen v.state) c.held.view_is (free_seen x.state x.seat (facts_of c.lock-taken.result.book.value) rests.none rests.keeps rests.together.is_of.2 c.lock-taken.ensures.knows)

pub invariant_of-held : goal.invariant_of-held
invariant_of-held g c =
    let x = c.held.inside in
    let b = c.args.book.now in
    let of = seat_of_book b (taken_of x.state x.taker x.seat x.is_orderly) (subst (IsOfBook b) (sym c.held.view_is) c.requires.book) c.held.invariant.is_of.2 in
    let same = c.leave.ensures ∙ ap (λ (o : OpenSeatView). seat_of b o.knows) c.lock-taken.ensures.seat ∙ same_seat b x.seat of in
    subst (λ (s : BookSeatView). GoesTogether (taken_of x.state x.taker s x.is_orderly)) (sym same) c.held.invariant

use Rattle.swift_executor.proofs.Prelude.{◌≡◌, ap, sym, subst, inr, ◌∙◌, err_from_is_err_and, BookView, IsOfBook, IsRefusal, HaveSeen, Chooses, ExecStateView, HasNone, LacksTask, refusal_to_begin, TakenView, taken_of, BeginsIn, IsNotBegun}
use Rattle.swift_executor.proofs.SeatKept.{chose_knows}
use Rattle.swift_executor.proofs.Visits.{has_opened, seat_of_book, seen_of}
use Rattle.swift_executor.proofs.VisitSteps.{begins_one, cannot_begin, cannot_choose, finds_none}
use Rattle.swift_executor.proofs.run.begin_one.Goals as goal

pub choose_one-requires-clause-seat : goal.choose_one-requires-clause-seat
choose_one-requires-clause-seat g c =
    let x = c.held.inside in
    (x.seat, c.held.invariant.is_of.2, subst (λ (b : BookView). HaveSeen b.log x.seat.knows) (sym c.deref_mut.ensures.value) (seen_of x.seat.knows _ c.lock-taken.ensures.knows))

pub start_one-begun-requires-clause-opened : goal.start_one-begun-requires-clause-opened
start_one-begun-requires-clause-opened g c =
    let x = c.held.inside in
    let r = taken_of x.state x.taker x.seat x.is_orderly in
    let b = c.args.book.now in
    let s = c.choose_one.new.state in
    let of = subst (IsOfBook b) (sym c.held.view_is) c.requires.book in
    let free = ap (λ (v : TakenView). v.state.chosen) c.held.view_is ∙ c.requires.free in
    let ch : Chooses c.deref_mut.result.now.log x.state s c.in-Ok-Some.task = rw c.in-Ok-Some.field-0-is at c.in-Ok-Some.ensures.some in
    has_opened b s x.seat c.lock-taken.result.seat c.lock-taken.result.book.value c.choose_one.new.book (seat_of_book b r of c.held.invariant.is_of.2) (of.1 ∙ sym (ap (λ (v : ExecStateView). v.script) ch.same))
    (chose_knows c.deref_mut.result.now.log c.in-Ok-Some.task x.state s x.seat c.held.invariant.is_of.2 free ch) (c.choose_one.ensures.book ∙ c.deref_mut.ensures.value) c.lock-taken.ensures.script c.lock-taken.ensures.seat c.lock-taken.ensures.knows

pub invariant_of-held : goal.invariant_of-held
invariant_of-held g c =
    let x = c.held.inside in
    let r = taken_of x.state x.taker x.seat x.is_orderly in
    let b = c.args.book.now in
    let s = c.choose_one.new.state in
    let v = c.lock-taken.result.book.value in
    let n = c.start_one-begun.new in
    let e = c.start_one-begun.ensures in
    let of = subst (IsOfBook b) (sym c.held.view_is) c.requires.book in
    let free = ap (λ (v : TakenView). v.state.chosen) c.held.view_is ∙ c.requires.free in
    let same : c.choose_one.new.book ≡ v = c.choose_one.ensures.book ∙ c.deref_mut.ensures.value in
    let ch : Chooses v.log x.state s c.in-Ok-Some.task = subst (λ (b : BookView). Chooses b.log x.state s c.in-Ok-Some.task) c.deref_mut.ensures.value (rw c.in-Ok-Some.field-0-is at c.in-Ok-Some.ensures.some) in
    let cause = subst (λ (b : BookView). IsRefusal (refusal_to_begin b s.chosen) c.in_err-begun-in-Ok-Some.field-0.0) same c.in_err-begun-in-Ok-Some.ensures.refused in
    (cannot_begin b r c.held.invariant free of c.lock-taken.result.seat v c.lock-taken.ensures.seat c.lock-taken.ensures.run c.in-Ok-Some.task s n.state n.seat n.is_orderly _ ch c.in_err-begun-in-Ok-Some.ensures.back e.seat.0 e.seat.1 e.known c.in_err-begun-in-Ok-Some.ensures.rest cause).together

pub returns-in_err-begun-in-Ok-Some-clause-refused : goal.returns-in_err-begun-in-Ok-Some-clause-refused
returns-in_err-begun-in-Ok-Some-clause-refused g c =
    let x = c.held.inside in
    let r = taken_of x.state x.taker x.seat x.is_orderly in
    let b = c.args.book.now in
    let s = c.choose_one.new.state in
    let v = c.lock-taken.result.book.value in
    let n = c.start_one-begun.new in
    let e = c.start_one-begun.ensures in
    let of = subst (IsOfBook b) (sym c.held.view_is) c.requires.book in
    let free = ap (λ (v : TakenView). v.state.chosen) c.held.view_is ∙ c.requires.free in
    let same : c.choose_one.new.book ≡ v = c.choose_one.ensures.book ∙ c.deref_mut.ensures.value in
    let ch : Chooses v.log x.state s c.in-Ok-Some.task = subst (λ (b : BookView). Chooses b.log x.state s c.in-Ok-Some.task) c.deref_mut.ensures.value (rw c.in-Ok-Some.field-0-is at c.in-Ok-Some.ensures.some) in
    let cause = subst (λ (b : BookView). IsRefusal (refusal_to_begin b s.chosen) c.in_err-begun-in-Ok-Some.field-0.0) same c.in_err-begun-in-Ok-Some.ensures.refused in
    let p = err_from_is_err_and c.from_residual.result c.from_residual.ensures.1 in
    rw (p.1, p.2) (subst (λ (w : TakenView). IsNotBegun w c.in_err-begun-in-Ok-Some.field-0.0 (taken_of n.state x.taker n.seat n.is_orderly)) c.held.view_is
    (inr (cannot_begin b r c.held.invariant free of c.lock-taken.result.seat v c.lock-taken.ensures.seat c.lock-taken.ensures.run c.in-Ok-Some.task s n.state n.seat n.is_orderly _ ch c.in_err-begun-in-Ok-Some.ensures.back e.seat.0 e.seat.1 e.known c.in_err-begun-in-Ok-Some.ensures.rest cause).does.why))

pub invariant_of-held-in-Ok-Some : goal.invariant_of-held-in-Ok-Some
invariant_of-held-in-Ok-Some g c =
    let x = c.held.inside in
    let r = taken_of x.state x.taker x.seat x.is_orderly in
    let b = c.args.book.now in
    let s = c.choose_one.new.state in
    let v = c.lock-taken.result.book.value in
    let n = c.start_one-begun.new in
    let e = c.start_one-begun.ensures in
    let of = subst (IsOfBook b) (sym c.held.view_is) c.requires.book in
    let free = ap (λ (v : TakenView). v.state.chosen) c.held.view_is ∙ c.requires.free in
    let same : c.choose_one.new.book ≡ v = c.choose_one.ensures.book ∙ c.deref_mut.ensures.value in
    let ch : Chooses v.log x.state s c.in-Ok-Some.task = subst (λ (b : BookView). Chooses b.log x.state s c.in-Ok-Some.task) c.deref_mut.ensures.value (rw c.in-Ok-Some.field-0-is at c.in-Ok-Some.ensures.some) in
    let begins = subst (λ (b : BookView). BeginsIn b c.args.worker s n.state) same c.in_ok-begun-in-Ok-Some.ensures.begins in
    (begins_one b r c.held.invariant free of c.lock-taken.result.seat v c.lock-taken.ensures.seat c.lock-taken.ensures.run c.args.worker c.in-Ok-Some.task s n.state n.seat n.is_orderly ch begins e.seat.0 e.seat.1 e.known c.in_ok-begun-in-Ok-Some.ensures.begun).together

pub invariant_of-held-in-Ok-None : goal.invariant_of-held-in-Ok-None
invariant_of-held-in-Ok-None g c =
    let x = c.held.inside in
    let r = taken_of x.state x.taker x.seat x.is_orderly in
    let b = c.args.book.now in
    let s = c.choose_one.new.state in
    let v = c.lock-taken.result.book.value in
    let of = subst (IsOfBook b) (sym c.held.view_is) c.requires.book in
    let free = ap (λ (v : TakenView). v.state.chosen) c.held.view_is ∙ c.requires.free in
    let none : HasNone v.log x.state s = subst (λ (b : BookView). HasNone b.log x.state s) c.deref_mut.ensures.value (rw c.in-Ok-None.field-0-is at c.in-Ok-None.ensures.none) in
    (finds_none b r c.held.invariant free of c.lock-taken.result.seat v c.lock-taken.ensures.seat c.lock-taken.ensures.run s c.leave.new.seat none c.leave.ensures).together

pub invariant_of-held-in-Err : goal.invariant_of-held-in-Err
invariant_of-held-in-Err g c =
    let x = c.held.inside in
    let r = taken_of x.state x.taker x.seat x.is_orderly in
    let b = c.args.book.now in
    let s = c.choose_one.new.state in
    let v = c.lock-taken.result.book.value in
    let of = subst (IsOfBook b) (sym c.held.view_is) c.requires.book in
    let free = ap (λ (v : TakenView). v.state.chosen) c.held.view_is ∙ c.requires.free in
    let lacks : LacksTask v.log x.state s = subst (λ (b : BookView). LacksTask b.log x.state s) c.deref_mut.ensures.value c.in-Err.ensures.err.1 in
    (cannot_choose b r c.held.invariant free of c.lock-taken.result.seat v c.lock-taken.ensures.seat c.lock-taken.ensures.run s c.leave-in-Err.new.seat c.in-Err.fault lacks c.in-Err.ensures.err.0 c.leave-in-Err.ensures).together

use Rattle.swift_executor.proofs.Prelude.{◌≡◌, length, ap, subst, sym, ◌∙◌, rules, err_from_is_err_and, at_rest, BookView, has_last_root, IsSeatFor, KeepsOrder, orders_of, ExecStateView}
use Rattle.swift_executor.proofs.Visits.{begun_in_order, begun_knows, is_picked}
use Rattle.swift_executor.proofs.run.start_one.Goals as goal

pub start-requires-clause-picked : goal.start-requires-clause-picked
start-requires-clause-picked c = is_picked _ c.requires.chosen.0 c.args.state.now c.requires.chosen.1 c.requires.chosen.2

pub returns-clause-known : goal.returns-clause-known
returns-clause-known c =
    let h = c.requires.chosen in
    let all : c.len-events.result ≡ length c.args.taken.book.value.log = search rules in
    subst (λ (s : ExecStateView). IsSeatFor s c.start.new.seat) (sym c.counts_from.ensures)
    (begun_knows h.0 c.args.state.now c.start.new.self h.1 c.args.taken.book.value c.args.worker c.len-events.result c.start.new.seat h.2 c.in_ok-start.ensures.ok c.start.ensures.known c.in_ok-start.ensures.seen all)

pub returns-clause-begins : goal.returns-clause-begins
returns-clause-begins c =
    let e = c.counts_from.ensures in
    let s = c.start.new.self in
    record { begun = s; begins = c.in_ok-start.ensures.ok; given = e ∙ ap (λ (x : ExecStateView). record s { ready = record s.ready { counted = x.ready.counted } }) (sym e) }

pub returns-clause-begun : goal.returns-clause-begun
returns-clause-begun c = λ r.
    let same : c.deref.result.now ≡ c.args.taken.book.value = c.deref.ensures in
    c.in_ok-start.ensures.order ∙ begun_in_order _ _ (ap (λ (b : BookView). has_last_root b.script b.log) (sym same) ∙ c.stays_orderly.ensures.there r) (c.requires.order (c.stays_orderly.ensures.before r))

pub returns-in_err-start-clause-rest : goal.returns-in_err-start-clause-rest
returns-in_err-start-clause-rest c =
    let p = err_from_is_err_and c.from_residual.result c.from_residual.ensures.1 in
    let rest : KeepsOrder c.stays_orderly.result at_rest c.start.new.seat = λ r. ap (λ s. orders_of s.knows) c.in_err-start.ensures.same ∙ c.requires.order (c.stays_orderly.ensures.before r) in
    rw p.1 rest

use Rattle.swift_workers.proofs.Prelude.{rules, ◌≡◌, ◌<◌, ℕ, List, [], ◌∷◌, ◌++◌, Some, length, refl, sym, subst, ap, ◌∙◌, arith, arc_value, TableId, ScriptView, executor_count, SiteView, ExecView, DeskView, IsDeskOf, AreAtSites, AreDesksOf}
use Rattle.swift_workers.proofs.Desks.{desk_push, place_of, site_push}
use Rattle.swift_workers.proofs.Left.{one_longer}
use Rattle.swift_workers.proofs.Opening.{opened_account, opened_first, opened_maker, opened_next, opened_seat}
use Rattle.swift_workers.proofs.crew.open_all.Goals as goal

pub open_account-own-requires-clause-seat : goal.open_account-own-requires-clause-seat
open_account-own-requires-clause-seat c = opened_seat c.args.book.now c.args.seat.now c.loop-place.seat c.loop-place.place c.requires.seat c.loop-place.invariant.seat

pub open_account-own-requires-clause-next : goal.open_account-own-requires-clause-next
open_account-own-requires-clause-next c =
    let few : c.loop-place.place < executor_count c.args.book.now.script =
    subst (λ (p : ScriptView). c.loop-place.place < executor_count p) (sym c.requires.book) (omega (arith, c.loop-place-test.true, c.loop-place.invariant.end)) in
    (record { executors = c.loop-place.place; roots = 0 }, opened_maker c.args.seat.now c.loop-place.seat c.loop-place.place c.loop-place.invariant.seat, few)

pub new-requires-clause-seat : goal.new-requires-clause-seat
new-requires-clause-seat c =
    opened_account c.args.book.now c.args.seat.now c.loop-place.seat c.open_account-own.result c.loop-place.place (arc_value c.in_ok-script.script) c.requires.seat (c.requires.book ∙ sym c.in_ok-script.ensures.cases) c.loop-place.invariant.seat c.open_account-own.ensures.new

pub loop-place-init : goal.loop-place-init
loop-place-init c = record {
  sites = search rules;
  seat = opened_first c.args.seat.now c.requires.maker;
  desks = search rules;
  many = search rules;
  end = search rules;
}

pub loop-place-preserved : goal.loop-place-preserved
loop-place-preserved c =
    let b = c.args.book.now in
    let p = arc_value c.args.script.now in
    let execs = c.loop-place.execs.items in
    let desks = c.loop-place.desks.items in
    let e = c.in_ok-exec.exec in
    let d = c.in_ok-exec.desk in
    let at : ℕ → ScriptView → TableId → SiteView = λ n x l. record { script = x; executor = n; book = Some l } in
    let lock : c.open_account-own.result.lock ≡ b.id = ap (λ s. s.lock) c.open_account-own.ensures.new in
    let script : arc_value c.in_ok-script.script ≡ b.script = c.in_ok-script.ensures.cases ∙ sym c.requires.book in
    let site : e.inbox.site ≡ place_of b (length execs) = c.in_ok-exec.ensures.site ∙ ap (λ x. at c.loop-place.place x c.open_account-own.result.lock) script ∙ ap (at c.loop-place.place b.script) lock ∙ ap (λ n. at n b.script b.id) (sym c.loop-place.invariant.many) in
    let desk : IsDeskOf e d = subst (λ (x : DeskView). IsDeskOf e x) (sym c.in_ok-exec.ensures.desk) (refl, refl, refl) in
    let both = desk_push execs desks e d c.loop-place.invariant.desks desk in
    record {
      sites = subst (λ (xs : List ExecView). AreAtSites b xs) (sym c.in_ok-push.ensures.items) (site_push b execs e c.loop-place.invariant.sites site);
      seat = opened_next c.args.seat.now c.loop-place.seat c.open_account-own.new.seat c.loop-place.place c.loop-place.invariant.seat c.open_account-own.ensures.maker;
      desks = subst (λ (xs : List ExecView). AreDesksOf xs c.push-in-loop-place.new.self.items) (sym c.in_ok-push.ensures.items) (subst (λ (xs : List DeskView). AreDesksOf (execs ++ e ∷ []) xs) (sym c.in_ok-push-2.ensures.items) both);
      many = ap length c.in_ok-push.ensures.items ∙ one_longer execs e c.loop-place.place c.loop-place.invariant.many;
      end = c.loop-place.invariant.end;
    }

use Rattle.swift_tasks.proofs.Prelude.{◌≡◌, ◌<◌, ◌∙◌, ℕ, true, false, ap, sym, arith, nat_lt, is_closed, is_open_group, opened_by, BookView}
use Rattle.swift_tasks.proofs.Tests.{closed_next, open_unclosed}
use Rattle.swift_tasks.proofs.book.Book.has_closed_all.Goals as goal

pub loop-group-preserved : goal.loop-group-preserved
loop-group-preserved c =
    let log = c.args.self.now.log in
    let task = c.args.task.0 in
    let k = c.loop-group.group in
    let of = ap (λ (b : BookView). b.log) c.self.view_is in
    let opened : c.opened-group-end.result ≡ opened_by task log = c.opened-group-end.ensures ∙ ap (opened_by task) of in
    let lt : k < opened_by task log = omega (arith, opened, c.loop-group-test.true) in
    let shut : is_open_group task k log ≡ false = ap (is_open_group task k) (sym of) ∙ ap (λ (n : ℕ). is_open_group task n c.self.inside.ledger.log) (sym c.in-Ok.ensures.1) ∙ sym c.is_open_group.ensures ∙ c.if-is_open_group.false in
    closed_next task k log c.loop-group.invariant lt shut

pub returns-clause-closed : goal.returns-clause-closed
returns-clause-closed c = λ _ g lt.
    (let opened : c.opened-group-end.result ≡ opened_by c.args.task.0 c.args.self.now.log = c.opened-group-end.ensures ∙ ap (λ (b : BookView). opened_by c.args.task.0 b.log) c.self.view_is in
    c.loop-group.invariant g (omega (arith, lt, opened, c.loop-group-test.false)))

pub returns-then-is_open_group-clause-all : goal.returns-then-is_open_group-clause-all
returns-then-is_open_group-clause-all c = λ few all.
    let log = c.args.self.now.log in
    let task = c.args.task.0 in
    let k = c.loop-group.group in
    let of = ap (λ (b : BookView). b.log) c.self.view_is in
    let opened : c.opened-group-end.result ≡ opened_by task log = c.opened-group-end.ensures ∙ ap (opened_by task) of in
    let lt : k < opened_by task log = omega (arith, opened, c.loop-group-test.true) in
    let is : is_open_group task k log ≡ true = ap (is_open_group task k) (sym of) ∙ ap (λ (n : ℕ). is_open_group task n c.self.inside.ledger.log) (sym c.in-Ok.ensures.1) ∙ sym c.is_open_group.ensures ∙ c.if-is_open_group.true in
    absurd (open_unclosed (nat_lt k (opened_by task log)) (is_closed task k log) is (all k lt))

use Rattle.swift_tasks.proofs.Prelude.{arith, ◌≡◌, ◌∙◌, ap, replicate, length, None, Option, arc_value, length-replicate, root_count, LedgerView, WaitingTask}
use Rattle.swift_tasks.proofs.EmptyBook.{empty_kept, new_is_empty}
use Rattle.swift_tasks.proofs.book.Book.new.Goals as goal

pub invariant_of-result : goal.invariant_of-result
invariant_of-result c =
    let roots = c.root_count-roots.result in
    let count : roots ≡ root_count (arc_value c.args.script) = c.root_count-roots.ensures ∙ ap root_count c.deref-2.ensures in
    let rest : c.in_ok-held.held.items ≡ replicate roots None = c.in_ok-held.ensures.ok in (
      empty_kept (arc_value c.args.script) c.in_ok-ledger.ledger c.in_ok-held.held.items count c.in_ok-ledger.ensures rest,
      c.in_ok-spare.ensures.items,
      omega (arith, c.in_ok-spare.ensures.capacity, c.in_ok-held.held.ok.0, ap length rest, length-replicate {A = Option WaitingTask} roots None),
    )

pub returns-clause-ok : goal.returns-clause-ok
returns-clause-ok c =
    let roots = c.root_count-roots.result in
    let count : roots ≡ root_count (arc_value c.args.script) = c.root_count-roots.ensures ∙ ap root_count c.deref-2.ensures in
    let rest : c.in_ok-held.held.items ≡ replicate roots None = c.in_ok-held.ensures.ok in
    new_is_empty (arc_value c.args.script) c.in_ok-ledger.ledger.log c.in_ok-held.held.items roots count (ap (λ (l : LedgerView). l.log) c.in_ok-ledger.ensures) rest

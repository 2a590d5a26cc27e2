use Rattle.swift_ledger.proofs.Prelude.{List, subst, sym, ap, ◌∙◌, IsKnown, links_of, LedgerView}
use Rattle.swift_escalation.specs.declared.waits.PriorityEvent.{PriorityEvent as Link}
use Rattle.swift_ledger.proofs.LinkLemmas.{known_made, made_known}
use Rattle.swift_ledger.proofs.ledger.Ledger.priority.Goals as goal

pub returns-clause-known : goal.returns-clause-known
returns-clause-known c =
    let links = c.self.invariant.indexes.links ∙ ap (λ (b : LedgerView). links_of b.log) c.self.view_is in (
      λ some. known_made c.args.self.now.log c.args.task (subst (λ (es : List Link). IsKnown es c.args.task) links (c.priority.ensures.known.0 some)),
      λ made. c.priority.ensures.known.1 (subst (λ (es : List Link). IsKnown es c.args.task) (sym links) (made_known c.args.self.now.log c.args.task made)),
    )

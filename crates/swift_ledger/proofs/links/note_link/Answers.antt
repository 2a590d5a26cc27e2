use Rattle.swift_ledger.proofs.Prelude.{List, [], ◌∷◌, ◌++◌, ap, sym, subst, ◌∙◌, links_of-push_some, links_of-push_none, CanLink}
use Rattle.swift_escalation.specs.declared.waits.PriorityEvent.{PriorityEvent as Link}
use Rattle.swift_ledger.proofs.LinkLemmas.{link_fits}
use Rattle.swift_ledger.proofs.links.note_link.Goals as goal

pub add_link-requires-clause-fits : goal.add_link-requires-clause-fits
add_link-requires-clause-fits c =
    let r = c.requires in
    subst (λ (es : List Link). CanLink es c.in-Some.link) (sym r.links) (link_fits c.args.roots c.args.log.now.events c.args.event c.in-Some.link r.log r.fits (sym c.link_of.ensures ∙ c.in-Some.is))

pub returns-in-Some-clause-links : goal.returns-in-Some-clause-links
returns-in-Some-clause-links c =
    c.add_link.ensures.links ∙ ap (λ (es : List Link). es ++ c.in-Some.link ∷ []) c.requires.links
    ∙ sym (links_of-push_some c.args.log.now.events c.args.event c.in-Some.link (sym c.link_of.ensures ∙ c.in-Some.is))

pub returns-in_default-clause-links : goal.returns-in_default-clause-links
returns-in_default-clause-links c = c.requires.links ∙ sym (links_of-push_none c.args.log.now.events c.args.event (sym c.link_of.ensures ∙ c.in_default.is))

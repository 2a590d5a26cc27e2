use Rattle.swift_tasks.proofs.Prelude.{subst, List, filter_map-append, link_in, links_of}
use Rattle.swift_escalation.specs.Waits.{IsPriority}
use Rattle.swift_escalation.specs.declared.waits.PriorityEvent.{PriorityEvent as Link}
use Rattle.swift_tasks.proofs.laws.priorities_never_fall.Goals as goal

pub returns : goal.returns
returns c log more t p q old new = c.priorities_never_fall.ensures (links_of log) (links_of more) t p q old (subst (λ (links : List Link). IsPriority links t q) (filter_map-append link_in log more) new)

use Rattle.swift_escalation.proofs.Prelude.{subst, IsSome, place_in, IsKnown, WaitsView}
use Rattle.swift_escalation.proofs.Record.{place_known}
use Rattle.swift_escalation.proofs.waits.Waits.place.Goals as goal

pub returns-clause-known : goal.returns-clause-known
returns-clause-known c =
    subst (λ (w : WaitsView). (IsSome c.get.result → IsKnown w.events c.args.task) × (IsKnown w.events c.args.task → IsSome c.get.result)) c.self.view_is
    (place_known c.self.inside.events.items (λ t. place_in c.self.inside.places t.0) c.self.inside.graph.levels c.self.inside.graph.edges c.args.task c.self.invariant.are_of c.get.result c.get.ensures)

use Rattle.swift_escalation.proofs.Prelude.{◌≡◌, Some, arith, subst, sym, refl, place_in, slice_get_within, tasks_of, IsKnown, IsPriority, WaitsView}
use Rattle.swift_escalation.proofs.Record.{known_from_stands, is_priority}
use Rattle.swift_escalation.proofs.waits.Waits.priority.Goals as goal

pub level-requires : goal.level-requires
level-requires c =
    let k = c.self.invariant.are_of in
    let h : place_in c.self.inside.places c.args.task.0 ≡ Some c.in_ok-place.place = sym c.in_ok-place.ensures in
    let w = slice_get_within (tasks_of c.self.inside.events.items) c.in_ok-place.place c.args.task (k.found c.args.task c.in_ok-place.place h) in
    omega (arith, w, k.count)

pub returns-clause-known : goal.returns-clause-known
returns-clause-known c =
    let k = c.self.invariant.are_of in
    let h : place_in c.self.inside.places c.args.task.0 ≡ Some c.in_ok-place.place = sym c.in_ok-place.ensures in
    (λ _. subst (λ (w : WaitsView). IsKnown w.events c.args.task) c.self.view_is (known_from_stands c.self.inside.events.items c.args.task c.in_ok-place.place (k.found c.args.task c.in_ok-place.place h)), λ _. refl)

pub returns-clause-priority : goal.returns-clause-priority
returns-clause-priority c =
    let k = c.self.invariant.are_of in
    let h : place_in c.self.inside.places c.args.task.0 ≡ Some c.in_ok-place.place = sym c.in_ok-place.ensures in
    subst (λ (w : WaitsView). IsPriority w.events c.args.task c.level.result) c.self.view_is
    (is_priority c.self.inside.events.items (λ t. place_in c.self.inside.places t.0) c.self.inside.graph.levels c.self.inside.graph.edges k c.level.ensures.settled c.args.task c.in_ok-place.place c.level.result h c.level.ensures.level)

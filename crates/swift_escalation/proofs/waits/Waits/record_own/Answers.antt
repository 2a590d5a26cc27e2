use Rattle.swift_escalation.proofs.Prelude.{TaskId, ℕ, ◌+◌, List, Some, [], ◌∷◌, ◌++◌, arith, subst, sym, ap, ◌∙◌, nat_eq, cond, Option, place_in, GraphView, IsKnown, WaitsView, AreOf, PriorityEvent}
use Rattle.swift_escalation.proofs.PlaceLemmas.{room_for_fewer}
use Rattle.swift_escalation.proofs.Record.{none_here, are_of_own}
use Rattle.swift_escalation.proofs.waits.Waits.record_own.Goals as goal

pub invariant_of-self : goal.invariant_of-self
invariant_of-self c =
    let k = c.self.invariant.are_of in
    let es : List PriorityEvent = c.self.inside.events.items in
    let g : GraphView = c.self.inside.graph in
    let events = ap (λ (w : WaitsView). w.events) c.self.view_is in
    let room = ap (λ (w : WaitsView). w.reserved) c.self.view_is in
    let place' : TaskId → Option ℕ = λ t. place_in c.insert.new.self t.0 in
    let fresh : IsKnown es c.args.task → ⊥ = subst (λ (s : List PriorityEvent). IsKnown s c.args.task → ⊥) (sym events) c.requires.fresh in
    let none = none_here es (λ t. place_in c.self.inside.places t.0) g.levels g.edges c.args.task k fresh in
    let more : AreOf (es ++ c.args.event ∷ []) place' (g.levels ++ c.args.priority ∷ []) g.edges = are_of_own es (λ t. place_in c.self.inside.places t.0) place' g.levels g.edges c.args.event c.args.task c.args.priority k c.requires.own none
    (λ q. c.insert.ensures.updates q.0 ∙ ap (λ (n : ℕ). cond (nat_eq c.args.task.0 q.0) (Some n) (place_in c.self.inside.places q.0)) c.len-place.ensures) in
    let left = ap (λ (w : GraphView). w.room) c.add.ensures in
    let len = c.in-Ok.ensures.len in let cap = c.in-Ok.ensures.capacity in
    let er = c.self.invariant.events_room in let pr = c.self.invariant.places_room in let rq = c.requires.room in
    record {
      are_of = subst (λ (w : GraphView). AreOf c.push.new.self.items place' w.levels w.edges) (sym c.add.ensures)
          (subst (λ (s : List PriorityEvent). AreOf s place' (g.levels ++ c.args.priority ∷ []) g.edges) (sym c.in-Ok.ensures.items) more);
      events_room = omega (arith, left, len, cap, er, rq, room);
      places_room = c.insert.ensures.room c.add.new.self.room (room_for_fewer c.self.inside.places g.room (c.add.new.self.room + 1) (omega (arith, left, rq, room)) pr);
    }

pub insert-requires : goal.insert-requires
insert-requires c =
    let room = ap (λ (w : WaitsView). w.reserved) c.self.view_is in let some = c.requires.room in
    room_for_fewer c.self.inside.places c.self.inside.graph.room 1 (omega (arith, room, some)) c.self.invariant.places_room

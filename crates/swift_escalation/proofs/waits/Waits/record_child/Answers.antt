use Rattle.swift_escalation.proofs.Prelude.{TaskId, ℕ, ◌+◌, ◌<◌, List, Some, [], ◌∷◌, ◌++◌, length, get_or, arith, subst, sym, ap, ◌∙◌, nat_eq, cond, Option, slice_get_within, place_in, GraphView, higher, IsKnown, WaitsView, tasks_of, with_event, StandsAt, AreOf, Background, Priority, TaskEdge, PriorityEvent, Child}
use Rattle.swift_escalation.proofs.PlaceLemmas.{room_for_fewer}
use Rattle.swift_escalation.proofs.Record.{none_here, are_of_child}
use Rattle.swift_escalation.proofs.waits.Waits.record_child.Goals as goal

pub invariant_of-self : goal.invariant_of-self
invariant_of-self c =
    let k = c.self.invariant.are_of in
    let es : List PriorityEvent = c.self.inside.events.items in
    let g : GraphView = c.self.inside.graph in
    let events = ap (λ (w : WaitsView). w.events) c.self.view_is in
    let room = ap (λ (w : WaitsView). w.reserved) c.self.view_is in
    let place' : TaskId → Option ℕ = λ t. place_in c.insert.new.self t.0 in
    let fresh : IsKnown es c.args.task → ⊥ = subst (λ (s : List PriorityEvent). IsKnown s c.args.task → ⊥) (sym events) c.requires.fresh in
    let above : StandsAt es c.args.parent c.args.above = subst (λ (s : List PriorityEvent). StandsAt s c.args.parent c.args.above) (sym events) c.requires.above in
    let none = none_here es (λ t. place_in c.self.inside.places t.0) g.levels g.edges c.args.task k fresh in
    let levels' : List Priority = g.levels ++ higher (get_or g.levels c.args.above Background) c.args.own ∷ [] in
    let edges' : List TaskEdge = g.edges ++ (record { from = c.args.above; to = length g.levels }) ∷ [] in
    let more : AreOf (es ++ Child c.args.task c.args.parent c.args.own ∷ []) place' levels' edges' = are_of_child es (λ t. place_in c.self.inside.places t.0) place' g.levels g.edges c.args.task c.args.parent c.args.own c.args.above k above none
    (λ q. c.insert.ensures.updates q.0 ∙ ap (λ (n : ℕ). cond (nat_eq c.args.task.0 q.0) (Some n) (place_in c.self.inside.places q.0)) c.len-place.ensures) in
    let left = ap (λ (w : GraphView). w.room) c.add_under.ensures in
    let len = c.in-Ok.ensures.len in let cap = c.in-Ok.ensures.capacity in
    let er = c.self.invariant.events_room in let pr = c.self.invariant.places_room in let rq = c.requires.room in
    record {
      are_of = subst (λ (w : GraphView). AreOf c.push.new.self.items place' w.levels w.edges) (sym c.add_under.ensures)
          (subst (λ (s : List PriorityEvent). AreOf s place' levels' edges') (sym c.in-Ok.ensures.items) more);
      events_room = omega (arith, left, len, cap, er, rq, room);
      places_room = c.insert.ensures.room c.add_under.new.self.room (room_for_fewer c.self.inside.places g.room (c.add_under.new.self.room + 1) (omega (arith, left, rq, room)) pr);
    }

pub unreachable-requires : goal.unreachable-requires
unreachable-requires c =
    let room = ap (λ (w : WaitsView). w.reserved) c.self.view_is in let some = c.requires.room in
    let r = c.self.invariant.events_room in let full = c.in_default.ensures.full in omega (arith, r, room, some, full)

pub add_under-requires-clause-room : goal.add_under-requires-clause-room
add_under-requires-clause-room c = let room = ap (λ (w : WaitsView). w.reserved) c.self.view_is in let some = c.requires.room in omega (arith, room, some)

pub add_under-requires-clause-parent : goal.add_under-requires-clause-parent
add_under-requires-clause-parent c =
    let es : List PriorityEvent = c.self.inside.events.items in
    let above : StandsAt es c.args.parent c.args.above = subst (λ (s : List PriorityEvent). StandsAt s c.args.parent c.args.above) (sym (ap (λ (w : WaitsView). w.events) c.self.view_is)) c.requires.above in
    subst (λ (n : ℕ). c.args.above < n) (sym c.self.invariant.are_of.count) (slice_get_within (tasks_of es) c.args.above c.args.parent above)

pub returns : goal.returns
returns c =
    let event : PriorityEvent = Child c.args.task c.args.parent c.args.own in
    let with_events : List PriorityEvent → WaitsView = λ events. record { events = events; reserved = c.add_under.new.self.room } in
    let with_room : GraphView → WaitsView = λ graph. record { events = c.self.inside.events.items ++ event ∷ []; reserved = graph.room } in
    ap with_events c.in-Ok.ensures.items ∙ ap with_room c.add_under.ensures ∙ ap (λ (w : WaitsView). with_event w event) c.self.view_is

pub insert-requires : goal.insert-requires
insert-requires c =
    let room = ap (λ (w : WaitsView). w.reserved) c.self.view_is in let some = c.requires.room in
    room_for_fewer c.self.inside.places c.self.inside.graph.room 1 (omega (arith, room, some)) c.self.invariant.places_room

use Rattle.swift_escalation.proofs.Prelude.{List, arith, subst, sym, ap, place_in, GraphView, AreOf, PriorityEvent}
use Rattle.swift_escalation.proofs.PlaceLemmas.{room_for_fewer}
use Rattle.swift_escalation.proofs.Record.{are_of_same}
use Rattle.swift_escalation.proofs.waits.Waits.reserve.Goals as goal

pub invariant_of-self : goal.invariant_of-self
invariant_of-self c =
    let er = c.self.invariant.events_room in let l = c.reserve.ensures.len in let cp = c.reserve.ensures.capacity in
    record {
      are_of = subst (λ (s : List PriorityEvent). AreOf s (λ t. place_in c.self.inside.places t.0) c.self.inside.graph.levels c.self.inside.graph.edges) (sym c.reserve.ensures.items) c.self.invariant.are_of;
      events_room = omega (arith, er, l, cp);
      places_room = c.self.invariant.places_room;
    }

pub invariant_of-self-in_err-reserve-2 : goal.invariant_of-self-in_err-reserve-2
invariant_of-self-in_err-reserve-2 c =
    let p = c.self.invariant.places_room in let er = c.self.invariant.events_room in let l = c.reserve.ensures.len in let cp = c.reserve.ensures.capacity in
    record {
      are_of = subst (λ (s : List PriorityEvent). AreOf s (λ t. place_in c.reserve-2.new.self t.0) c.self.inside.graph.levels c.self.inside.graph.edges) (sym c.reserve.ensures.items)
          (are_of_same c.self.inside.events.items (λ t. place_in c.self.inside.places t.0) (λ t. place_in c.reserve-2.new.self t.0) c.self.inside.graph.levels c.self.inside.graph.edges (λ t. c.reserve-2.ensures.same t.0) c.self.invariant.are_of);
      events_room = omega (arith, er, l, cp);
      places_room = c.reserve-2.ensures.room c.self.inside.graph.room p;
    }

pub invariant_of-self-in_err-reserve-3 : goal.invariant_of-self-in_err-reserve-3
invariant_of-self-in_err-reserve-3 c =
    let p = c.self.invariant.places_room in let er = c.self.invariant.events_room in let l = c.reserve.ensures.len in let cp = c.reserve.ensures.capacity in
    let old : AreOf c.reserve.new.self.items (λ t. place_in c.reserve-2.new.self t.0) c.self.inside.graph.levels c.self.inside.graph.edges = subst (λ (s : List PriorityEvent). AreOf s (λ t. place_in c.reserve-2.new.self t.0) c.self.inside.graph.levels c.self.inside.graph.edges) (sym c.reserve.ensures.items)
    (are_of_same c.self.inside.events.items (λ t. place_in c.self.inside.places t.0) (λ t. place_in c.reserve-2.new.self t.0) c.self.inside.graph.levels c.self.inside.graph.edges (λ t. c.reserve-2.ensures.same t.0) c.self.invariant.are_of) in
    let same = c.in_err-reserve-3.ensures.err in
    let room = ap (λ (w : GraphView). w.room) same in
    record {
      are_of = subst (λ (w : GraphView). AreOf c.reserve.new.self.items (λ t. place_in c.reserve-2.new.self t.0) w.levels w.edges) (sym same) old;
      events_room = omega (arith, er, l, cp, room);
      places_room = room_for_fewer c.reserve-2.new.self c.self.inside.graph.room c.reserve-3.new.self.room (omega (arith, room)) (c.reserve-2.ensures.room c.self.inside.graph.room p);
    }

pub invariant_of-self-2 : goal.invariant_of-self-2
invariant_of-self-2 c =
    let p = c.self.invariant.places_room in let er = c.self.invariant.events_room in let l = c.reserve.ensures.len in let cp = c.reserve.ensures.capacity in
    let old : AreOf c.reserve.new.self.items (λ t. place_in c.reserve-2.new.self t.0) c.self.inside.graph.levels c.self.inside.graph.edges = subst (λ (s : List PriorityEvent). AreOf s (λ t. place_in c.reserve-2.new.self t.0) c.self.inside.graph.levels c.self.inside.graph.edges) (sym c.reserve.ensures.items)
    (are_of_same c.self.inside.events.items (λ t. place_in c.self.inside.places t.0) (λ t. place_in c.reserve-2.new.self t.0) c.self.inside.graph.levels c.self.inside.graph.edges (λ t. c.reserve-2.ensures.same t.0) c.self.invariant.are_of) in
    let same = c.in_ok-reserve-3.ensures.ok in
    let room = ap (λ (w : GraphView). w.room) same in
    let a = c.in_ok-reserve.ensures.ok in let b = c.in_ok-reserve-2.ensures.ok in let n = c.if-calls-room.false in let q = c.room.ensures in
    record {
      are_of = subst (λ (w : GraphView). AreOf c.reserve.new.self.items (λ t. place_in c.reserve-2.new.self t.0) w.levels w.edges) (sym same) old;
      events_room = omega (arith, er, l, cp, room, a, n, q);
      places_room = room_for_fewer c.reserve-2.new.self c.args.calls c.reserve-3.new.self.room (omega (arith, room, n, q)) b;
    }

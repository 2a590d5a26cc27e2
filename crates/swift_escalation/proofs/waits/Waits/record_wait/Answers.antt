use Rattle.swift_escalation.proofs.Prelude.{TaskId, ℕ, ◌<◌, List, [], ◌∷◌, ◌++◌, arith, subst, sym, ap, Option, ◌∙◌, slice_get_within, place_in, GraphView, Settling, level_of, WaitsView, tasks_of, with_event, StandsAt, AreOf, TaskEdge, PriorityEvent, Wait}
use Rattle.swift_escalation.proofs.PlaceLemmas.{room_for_fewer}
use Rattle.swift_escalation.proofs.Record.{are_of_wait}
use Rattle.swift_escalation.proofs.waits.Waits.record_wait.Goals as goal

pub invariant_of-self : goal.invariant_of-self
invariant_of-self c =
    let k = c.self.invariant.are_of in
    let es : List PriorityEvent = c.self.inside.events.items in
    let g : GraphView = c.self.inside.graph in
    let events = ap (λ (w : WaitsView). w.events) c.self.view_is in
    let room = ap (λ (w : WaitsView). w.reserved) c.self.view_is in
    let from : StandsAt es c.args.waiter c.args.from = subst (λ (s : List PriorityEvent). StandsAt s c.args.waiter c.args.from) (sym events) c.requires.from in
    let to : StandsAt es c.args.task c.args.to = subst (λ (s : List PriorityEvent). StandsAt s c.args.task c.args.to) (sym events) c.requires.to in
    let place : TaskId → Option ℕ = λ t. place_in c.self.inside.places t.0 in
    let edges' : List TaskEdge = g.edges ++ (record { from = c.args.from; to = c.args.to }) ∷ [] in
    let up : Settling edges' c.args.to (level_of g.levels c.args.from) g.levels c.join.new.self.levels = subst (λ (s : List TaskEdge). Settling s c.args.to (level_of g.levels c.args.from) g.levels c.join.new.self.levels) c.join.ensures.edges c.join.ensures.settling in
    let more : AreOf (es ++ Wait c.args.waiter c.args.task ∷ []) place c.join.new.self.levels edges' = are_of_wait es place g.levels c.join.new.self.levels g.edges c.args.waiter c.args.task c.args.from c.args.to k from to c.join.ensures.len up in
    let left = c.join.ensures.room in
    let len = c.in-Ok.ensures.len in let cap = c.in-Ok.ensures.capacity in
    let er = c.self.invariant.events_room in let pr = c.self.invariant.places_room in let rq = c.requires.room in
    record {
      are_of = subst (λ (s : List TaskEdge). AreOf c.push.new.self.items place c.join.new.self.levels s) (sym c.join.ensures.edges)
          (subst (λ (s : List PriorityEvent). AreOf s place c.join.new.self.levels edges') (sym c.in-Ok.ensures.items) more);
      events_room = omega (arith, left, len, cap, er, rq, room);
      places_room = room_for_fewer c.self.inside.places g.room c.join.new.self.room (omega (arith, left, rq, room)) pr;
    }

pub unreachable-requires : goal.unreachable-requires
unreachable-requires c =
    let room = ap (λ (w : WaitsView). w.reserved) c.self.view_is in let some = c.requires.room in
    let r = c.self.invariant.events_room in let full = c.in_default.ensures.full in omega (arith, r, room, some, full)

pub join-requires-clause-room : goal.join-requires-clause-room
join-requires-clause-room c = let room = ap (λ (w : WaitsView). w.reserved) c.self.view_is in let some = c.requires.room in omega (arith, room, some)

pub join-requires-clause-from : goal.join-requires-clause-from
join-requires-clause-from c =
    let es : List PriorityEvent = c.self.inside.events.items in
    let from : StandsAt es c.args.waiter c.args.from = subst (λ (s : List PriorityEvent). StandsAt s c.args.waiter c.args.from) (sym (ap (λ (w : WaitsView). w.events) c.self.view_is)) c.requires.from in
    subst (λ (n : ℕ). c.args.from < n) (sym c.self.invariant.are_of.count) (slice_get_within (tasks_of es) c.args.from c.args.waiter from)

pub join-requires-clause-to : goal.join-requires-clause-to
join-requires-clause-to c =
    let es : List PriorityEvent = c.self.inside.events.items in
    let to : StandsAt es c.args.task c.args.to = subst (λ (s : List PriorityEvent). StandsAt s c.args.task c.args.to) (sym (ap (λ (w : WaitsView). w.events) c.self.view_is)) c.requires.to in
    subst (λ (n : ℕ). c.args.to < n) (sym c.self.invariant.are_of.count) (slice_get_within (tasks_of es) c.args.to c.args.task to)

pub returns : goal.returns
returns c =
    let event : PriorityEvent = Wait c.args.waiter c.args.task in
    let with_events : List PriorityEvent → WaitsView = λ events. record { events = events; reserved = c.join.new.self.room } in
    let with_room : ℕ → WaitsView = λ room. record { events = c.self.inside.events.items ++ event ∷ []; reserved = room } in
    ap with_events c.in-Ok.ensures.items ∙ ap with_room c.join.ensures.room ∙ ap (λ (w : WaitsView). with_event w event) c.self.view_is

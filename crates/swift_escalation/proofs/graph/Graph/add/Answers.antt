use Rattle.swift_escalation.proofs.Prelude.{ℕ, List, Option, ap, subst, sym, arith, Priority, AreChained, IsSettled, GraphView}
use Rattle.swift_escalation.proofs.Push.{chained_push, settled_push}
use Rattle.swift_escalation.proofs.graph.Graph.add.Goals as goal

pub invariant_of-self : goal.invariant_of-self
invariant_of-self c =
    let g = c.self.inside in
    let inv = c.self.invariant in
    let same = inv.same in
    let room = ap (λ (w : GraphView). w.room) c.self.view_is in
    record {
      chained = subst (λ (s : List (Option ℕ)). AreChained g.edges.items g.before.items s) (sym c.in-Ok-push.ensures.items) (chained_push g.edges.items g.before.items g.newest.items inv.chained);
      same = omega (arith, c.in-Ok.ensures.len, c.in-Ok-push.ensures.len, same);
      settled = subst (λ (s : List Priority). IsSettled g.edges.items s) (sym c.in-Ok.ensures.items) (settled_push g.edges.items g.levels.items c.args.level inv.settled
          (λ k h. let w = inv.chained.from k h in omega (arith, w, same)) (λ k h. let w = inv.chained.to k h in omega (arith, w, same)));
      empty = inv.empty;
      levels_room = omega (arith, c.in-Ok.ensures.len, c.in-Ok.ensures.capacity, room);
      newest_room = omega (arith, c.in-Ok-push.ensures.len, c.in-Ok-push.ensures.capacity, room);
      edges_room = omega arith;
      before_room = omega arith;
      raised_room = omega (arith, c.in-Ok.ensures.len, room);
    }

use Rattle.swift_escalation.proofs.Prelude.{Background, get_or_read, ◌<◌, get_or, ◌≡◌, ℕ, List, Option, length, arith, subst, sym, ap, ◌∙◌, [], ◌∷◌, ◌++◌, TaskEdge, with_items_is, with_items, AreChained, IsSettled, GraphView, higher, Priority}
use Rattle.swift_escalation.proofs.Push.{settled_under, higher_first, chained_push}
use Rattle.swift_escalation.proofs.graph.Graph.add_under.Goals as goal

pub link-requires-clause-chained : goal.link-requires-clause-chained
link-requires-clause-chained c =
    subst (λ (s : List (Option ℕ)). AreChained c.self.inside.edges.items c.self.inside.before.items s) (sym (c.deref_mut.ensures.value ∙ c.in-Ok-push.ensures.items))
    (chained_push c.self.inside.edges.items c.self.inside.before.items c.self.inside.newest.items c.self.invariant.chained)

pub invariant_of-self : goal.invariant_of-self
invariant_of-self c =
    let n : (with_items c.push-2.new.self c.link.new.newest).items ≡ c.link.new.newest = with_items_is c.push-2.new.self c.link.new.newest (omega arith) in
    let levels = ap (λ (g : GraphView). g.levels) c.self.view_is in
    let parent : c.args.parent < length c.self.inside.levels.items = subst (λ (s : List Priority). c.args.parent < length s) (sym levels) c.requires.parent in
    let above : Priority = get_or c.self.inside.levels.items c.args.parent Background in
    let read : c.index.result.now ≡ above = get_or_read c.self.inside.levels.items c.args.parent c.index.result.now parent c.index.ensures Background in
    let level : c.more_urgent-level.result ≡ higher above c.args.own = c.more_urgent-level.ensures ∙ ap (λ (q : Priority). higher q c.args.own) read in
    let place : c.len-place.result ≡ length c.self.inside.levels.items = omega (arith, c.len-place.ensures) in
    let same = c.self.invariant.same in
    record {
      chained = subst (λ (s : List (Option ℕ)). AreChained c.link.new.edges.items c.link.new.before.items s) (sym n) c.link.ensures.chained;
      same = ap length n ∙ omega (arith, c.in-Ok.ensures.len, c.in-Ok-push.ensures.len);
      settled = subst (λ (s : List TaskEdge). IsSettled s c.push.new.self.items) (sym c.link.ensures.edges)
          (subst (λ (s : List Priority). IsSettled (c.self.inside.edges.items ++ (record { from = c.args.parent; to = c.len-place.result }) ∷ []) s) (sym c.in-Ok.ensures.items)
          (subst (λ (q : Priority). IsSettled (c.self.inside.edges.items ++ (record { from = c.args.parent; to = c.len-place.result }) ∷ []) (c.self.inside.levels.items ++ q ∷ [])) (sym level)
          (subst (λ (n : ℕ). IsSettled (c.self.inside.edges.items ++ (record { from = c.args.parent; to = n }) ∷ []) (c.self.inside.levels.items ++ higher above c.args.own ∷ [])) (sym place)
          (settled_under c.self.inside.edges.items c.self.inside.levels.items c.args.parent (higher above c.args.own) (higher_first above c.args.own) c.self.invariant.settled
          (λ k h. let w = c.self.invariant.chained.from k h in omega (arith, w, same)) (λ k h. let w = c.self.invariant.chained.to k h in omega (arith, w, same)) parent))));
      empty = omega arith;
      levels_room = omega arith;
      newest_room = omega arith;
      edges_room = omega arith;
      before_room = omega arith;
      raised_room = omega (arith, c.in-Ok.ensures.len, ap (λ (g : GraphView). g.room) c.self.view_is);
    }

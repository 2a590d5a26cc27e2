use Rattle.swift_escalation.proofs.Prelude.{ℕ, List, Option, length, arith, subst, sym, ap, ◌∙◌, Priority, TaskEdge, AreChained, IsSettled}
use Rattle.swift_escalation.proofs.graph.Graph.reserve.Goals as goal

pub invariant_of-self : goal.invariant_of-self
invariant_of-self c =
    let k = c.self.invariant in
    let levels = c.reserve.ensures in
    record {
      chained = k.chained;
      same = k.same ∙ sym (ap length levels.items);
      settled = subst (λ (s : List Priority). IsSettled c.self.inside.edges.items s) (sym levels.items) k.settled;
      empty = k.empty;
      levels_room = let r = k.levels_room in omega (arith, r, levels.len, levels.capacity);
      newest_room = k.newest_room;
      edges_room = k.edges_room;
      before_room = k.before_room;
      raised_room = let r = k.raised_room in omega (arith, r, levels.len);
    }

pub invariant_of-self-in_err-reserve-2 : goal.invariant_of-self-in_err-reserve-2
invariant_of-self-in_err-reserve-2 c =
    let k = c.self.invariant in
    let levels = c.reserve.ensures in
    let newest = c.reserve-2.ensures in
    record {
      chained = subst (λ (s : List (Option ℕ)). AreChained c.self.inside.edges.items c.self.inside.before.items s) (sym newest.items) k.chained;
      same = ap length newest.items ∙ k.same ∙ sym (ap length levels.items);
      settled = subst (λ (s : List Priority). IsSettled c.self.inside.edges.items s) (sym levels.items) k.settled;
      empty = k.empty;
      levels_room = let r = k.levels_room in omega (arith, r, levels.len, levels.capacity);
      newest_room = let r = k.newest_room in omega (arith, r, newest.len, newest.capacity);
      edges_room = k.edges_room;
      before_room = k.before_room;
      raised_room = let r = k.raised_room in omega (arith, r, levels.len);
    }

pub invariant_of-self-in_err-reserve-3 : goal.invariant_of-self-in_err-reserve-3
invariant_of-self-in_err-reserve-3 c =
    let k = c.self.invariant in
    let levels = c.reserve.ensures in
    let newest = c.reserve-2.ensures in
    let edges = c.reserve-3.ensures in
    record {
      chained = subst (λ (s : List (Option ℕ)). AreChained c.reserve-3.new.self.items c.self.inside.before.items s) (sym newest.items) (subst (λ (s : List TaskEdge). AreChained s c.self.inside.before.items c.self.inside.newest.items) (sym edges.items) k.chained);
      same = ap length newest.items ∙ k.same ∙ sym (ap length levels.items);
      settled = subst (λ (s : List Priority). IsSettled c.reserve-3.new.self.items s) (sym levels.items) (subst (λ (s : List TaskEdge). IsSettled s c.self.inside.levels.items) (sym edges.items) k.settled);
      empty = k.empty;
      levels_room = let r = k.levels_room in omega (arith, r, levels.len, levels.capacity);
      newest_room = let r = k.newest_room in omega (arith, r, newest.len, newest.capacity);
      edges_room = let r = k.edges_room in omega (arith, r, edges.len, edges.capacity);
      before_room = k.before_room;
      raised_room = let r = k.raised_room in omega (arith, r, levels.len);
    }

pub invariant_of-self-in_err-reserve-4 : goal.invariant_of-self-in_err-reserve-4
invariant_of-self-in_err-reserve-4 c =
    let k = c.self.invariant in
    let levels = c.reserve.ensures in
    let newest = c.reserve-2.ensures in
    let edges = c.reserve-3.ensures in
    let before = c.reserve-4.ensures in
    record {
      chained = subst (λ (s : List (Option ℕ)). AreChained c.reserve-3.new.self.items c.reserve-4.new.self.items s) (sym newest.items) (subst (λ (s : List (Option ℕ)). AreChained c.reserve-3.new.self.items s c.self.inside.newest.items) (sym before.items) (subst (λ (s : List TaskEdge). AreChained s c.self.inside.before.items c.self.inside.newest.items) (sym edges.items) k.chained));
      same = ap length newest.items ∙ k.same ∙ sym (ap length levels.items);
      settled = subst (λ (s : List Priority). IsSettled c.reserve-3.new.self.items s) (sym levels.items) (subst (λ (s : List TaskEdge). IsSettled s c.self.inside.levels.items) (sym edges.items) k.settled);
      empty = k.empty;
      levels_room = let r = k.levels_room in omega (arith, r, levels.len, levels.capacity);
      newest_room = let r = k.newest_room in omega (arith, r, newest.len, newest.capacity);
      edges_room = let r = k.edges_room in omega (arith, r, edges.len, edges.capacity);
      before_room = let r = k.before_room in omega (arith, r, before.len, before.capacity);
      raised_room = let r = k.raised_room in omega (arith, r, levels.len);
    }

pub invariant_of-self-in_err-reserve-5 : goal.invariant_of-self-in_err-reserve-5
invariant_of-self-in_err-reserve-5 c =
    let k = c.self.invariant in
    let levels = c.reserve.ensures in
    let newest = c.reserve-2.ensures in
    let edges = c.reserve-3.ensures in
    let before = c.reserve-4.ensures in
    let raised = c.reserve-5.ensures in
    record {
      chained = subst (λ (s : List (Option ℕ)). AreChained c.reserve-3.new.self.items c.reserve-4.new.self.items s) (sym newest.items) (subst (λ (s : List (Option ℕ)). AreChained c.reserve-3.new.self.items s c.self.inside.newest.items) (sym before.items) (subst (λ (s : List TaskEdge). AreChained s c.self.inside.before.items c.self.inside.newest.items) (sym edges.items) k.chained));
      same = ap length newest.items ∙ k.same ∙ sym (ap length levels.items);
      settled = subst (λ (s : List Priority). IsSettled c.reserve-3.new.self.items s) (sym levels.items) (subst (λ (s : List TaskEdge). IsSettled s c.self.inside.levels.items) (sym edges.items) k.settled);
      empty = raised.len ∙ k.empty;
      levels_room = let r = k.levels_room in omega (arith, r, levels.len, levels.capacity);
      newest_room = let r = k.newest_room in omega (arith, r, newest.len, newest.capacity);
      edges_room = let r = k.edges_room in omega (arith, r, edges.len, edges.capacity);
      before_room = let r = k.before_room in omega (arith, r, before.len, before.capacity);
      raised_room = let r = k.raised_room in omega (arith, r, levels.len, raised.capacity);
    }

pub invariant_of-self-2 : goal.invariant_of-self-2
invariant_of-self-2 c =
    let k = c.self.invariant in
    let levels = c.in_ok-reserve.ensures in
    let newest = c.in_ok-reserve-2.ensures in
    let edges = c.in_ok-reserve-3.ensures in
    let before = c.in_ok-reserve-4.ensures in
    let raised = c.in_ok-reserve-5.ensures in
    record {
      chained = subst (λ (s : List (Option ℕ)). AreChained c.reserve-3.new.self.items c.reserve-4.new.self.items s) (sym newest.items) (subst (λ (s : List (Option ℕ)). AreChained c.reserve-3.new.self.items s c.self.inside.newest.items) (sym before.items) (subst (λ (s : List TaskEdge). AreChained s c.self.inside.before.items c.self.inside.newest.items) (sym edges.items) k.chained));
      same = ap length newest.items ∙ k.same ∙ sym (ap length levels.items);
      settled = subst (λ (s : List Priority). IsSettled c.reserve-3.new.self.items s) (sym levels.items) (subst (λ (s : List TaskEdge). IsSettled s c.self.inside.levels.items) (sym edges.items) k.settled);
      empty = raised.len ∙ k.empty;
      levels_room = levels.ok;
      newest_room = newest.ok;
      edges_room = edges.ok;
      before_room = before.ok;
      raised_room = let ok = raised.ok in let len = c.len.ensures in let none = k.empty in omega (arith, ok, len, none, raised.len);
    }

use Rattle.swift_escalation.proofs.Prelude.{◌≡◌, ℕ, ◌-◌, ◌<◌, [], ◌∷◌, ◌++◌, List, Option, length, arith, subst, sym, ap, ◌∙◌, TaskEdge, with_items_is, with_items, AreChained, IsSettled, IsSettledBut, Settling, GraphView, level_of, Priority, get_or_read, Background, rank}
use Rattle.swift_escalation.proofs.Push.{open_push}
use Rattle.swift_escalation.proofs.graph.Graph.join.Goals as goal

pub settle-requires-clause-open : goal.settle-requires-clause-open
settle-requires-clause-open c =
    let xs : List Priority = c.self.inside.levels.items in
    let levels = ap (λ (g : GraphView). g.levels) c.self.view_is in
    let from : c.args.from < length xs = subst (λ (s : List Priority). c.args.from < length s) (sym levels) c.requires.from in
    let level : level_of xs c.args.from ≡ rank c.index-level.result.now = sym (ap rank (get_or_read xs c.args.from c.index-level.result.now from c.index-level.ensures Background)) in
    let edges = c.deref.ensures.value ∙ c.link.ensures.edges in
    subst (λ (s : List TaskEdge). IsSettledBut s c.deref_mut-2.result.now c.args.to (rank c.index-level.result.now)) (sym edges)
    (subst (λ (s : List Priority). IsSettledBut (c.self.inside.edges.items ++ (record { from = c.args.from; to = c.args.to }) ∷ []) s c.args.to (rank c.index-level.result.now)) (sym c.deref_mut-2.ensures.value)
    (open_push c.self.inside.edges.items xs c.args.from c.args.to (rank c.index-level.result.now) c.self.invariant.settled level))

pub returns-clause-settling : goal.returns-clause-settling
returns-clause-settling c =
    let xs : List Priority = c.self.inside.levels.items in
    let levels = ap (λ (g : GraphView). g.levels) c.self.view_is in
    let from : c.args.from < length xs = subst (λ (s : List Priority). c.args.from < length s) (sym levels) c.requires.from in
    let level : level_of xs c.args.from ≡ rank c.index-level.result.now = sym (ap rank (get_or_read xs c.args.from c.index-level.result.now from c.index-level.ensures Background)) in
    let l : (with_items c.self.inside.levels c.settle.new.levels).items ≡ c.settle.new.levels = with_items_is c.self.inside.levels c.settle.new.levels (omega arith) in
    let es : List TaskEdge = c.link.new.edges.items in
    subst (λ (s : List Priority). Settling es c.args.to (level_of s c.args.from) s (with_items c.self.inside.levels c.settle.new.levels).items) levels
    (subst (λ (s : List Priority). Settling es c.args.to (level_of xs c.args.from) xs s) (sym l)
    (subst (λ (n : ℕ). Settling es c.args.to n xs c.settle.new.levels) (sym level)
    (subst (λ (s : List Priority). Settling es c.args.to (rank c.index-level.result.now) s c.settle.new.levels) c.deref_mut-2.ensures.value
    (subst (λ (s : List TaskEdge). Settling s c.args.to (rank c.index-level.result.now) c.deref_mut-2.result.now c.settle.new.levels) c.deref.ensures.value c.settle.ensures.settling))))

pub invariant_of-self : goal.invariant_of-self
invariant_of-self c =
    let n : (with_items c.self.inside.newest c.link.new.newest).items ≡ c.link.new.newest = with_items_is c.self.inside.newest c.link.new.newest (omega arith) in
    let l : (with_items c.self.inside.levels c.settle.new.levels).items ≡ c.settle.new.levels = with_items_is c.self.inside.levels c.settle.new.levels (omega arith) in
    let same : length c.link.new.newest ≡ length c.settle.new.levels = omega arith in
    let settled : IsSettled c.link.new.edges.items c.settle.new.levels = subst (λ (s : List TaskEdge). IsSettled s c.settle.new.levels) c.deref.ensures.value c.settle.ensures.settled in
    record {
      chained = subst (λ (s : List (Option ℕ)). AreChained c.link.new.edges.items c.link.new.before.items s) (sym n) c.link.ensures.chained;
      same = ap length n ∙ same ∙ sym (ap length l);
      settled = subst (λ (s : List Priority). IsSettled c.link.new.edges.items s) (sym l) settled;
      empty = omega arith;
      levels_room = omega arith;
      newest_room = omega arith;
      edges_room = omega arith;
      before_room = omega arith;
      raised_room = omega arith;
    }

pub returns-clause-settled : goal.returns-clause-settled
returns-clause-settled c =
    let l : (with_items c.self.inside.levels c.settle.new.levels).items ≡ c.settle.new.levels = with_items_is c.self.inside.levels c.settle.new.levels (omega arith) in
    subst (λ (s : List Priority). IsSettled c.link.new.edges.items s) (sym l) (subst (λ (s : List TaskEdge). IsSettled s c.settle.new.levels) c.deref.ensures.value c.settle.ensures.settled)

pub link-requires-clause-chained : goal.link-requires-clause-chained
link-requires-clause-chained c =
    subst (λ (s : List (Option ℕ)). AreChained c.self.inside.edges.items c.self.inside.before.items s) (sym c.deref_mut.ensures.value) c.self.invariant.chained

pub link-requires-clause-from : goal.link-requires-clause-from
link-requires-clause-from c =
    let levels = ap (λ (g : GraphView). length g.levels) c.self.view_is in
    subst (λ (n : ℕ). c.args.from < n) (sym (ap length c.deref_mut.ensures.value ∙ c.self.invariant.same ∙ levels)) c.requires.from

pub link-requires-clause-to : goal.link-requires-clause-to
link-requires-clause-to c =
    let levels = ap (λ (g : GraphView). length g.levels) c.self.view_is in
    subst (λ (n : ℕ). c.args.to < n) (sym (ap length c.deref_mut.ensures.value ∙ c.self.invariant.same ∙ levels)) c.requires.to

pub link-requires-clause-edges : goal.link-requires-clause-edges
link-requires-clause-edges c = let r = c.self.invariant.edges_room in let room = ap (λ (g : GraphView). g.room) c.self.view_is in let some = c.requires.room in omega (arith, r, room, some)

pub link-requires-clause-before : goal.link-requires-clause-before
link-requires-clause-before c = let r = c.self.invariant.before_room in let room = ap (λ (g : GraphView). g.room) c.self.view_is in let some = c.requires.room in omega (arith, r, room, some)

pub settle-requires-clause-chained : goal.settle-requires-clause-chained
settle-requires-clause-chained c =
    let n : (with_items c.self.inside.newest c.link.new.newest).items ≡ c.link.new.newest = with_items_is c.self.inside.newest c.link.new.newest (omega arith) in
    subst (λ (s : List TaskEdge). AreChained s c.deref-2.result.now c.deref-3.result.now) (sym c.deref.ensures.value)
    (subst (λ (s : List (Option ℕ)). AreChained c.link.new.edges.items s c.deref-3.result.now) (sym c.deref-2.ensures.value)
    (subst (λ (s : List (Option ℕ)). AreChained c.link.new.edges.items c.link.new.before.items s) (sym (c.deref-3.ensures.value ∙ n)) c.link.ensures.chained))

pub settle-requires-clause-start : goal.settle-requires-clause-start
settle-requires-clause-start c =
    let levels = ap (λ (g : GraphView). length g.levels) c.self.view_is in
    subst (λ (n : ℕ). c.args.to < n) (sym (ap length c.deref_mut-2.ensures.value ∙ levels)) c.requires.to

pub settle-requires-clause-empty : goal.settle-requires-clause-empty
settle-requires-clause-empty c = c.self.invariant.empty

pub overflow_sub-self : goal.overflow_sub-self
overflow_sub-self c = let room = ap (λ (g : GraphView). g.room) c.self.view_is in let some = c.requires.room in omega (arith, room, some)

pub returns-clause-edges : goal.returns-clause-edges
returns-clause-edges c = c.link.ensures.edges ∙ ap (λ (g : GraphView). g.edges ++ (record { from = c.args.from; to = c.args.to }) ∷ []) c.self.view_is

pub returns-clause-room : goal.returns-clause-room
returns-clause-room c = ap (λ (g : GraphView). g.room - 1) c.self.view_is

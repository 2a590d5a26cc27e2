use Rattle.swift_escalation.proofs.Prelude.{count_by-le-length, Contains-push, Priority, List, nat_lt, ◌≡◌, ℕ, ◌<◌, ◌++◌, ◌∷◌, [], arith, ap, ◌∙◌, nil_from_length, rank, level_of}
use Rattle.swift_escalation.proofs.Raise.{below-set}
use Rattle.swift_escalation.proofs.Settle.{settling_start, todo_start, settling_more, todo_more}
use Rattle.swift_escalation.proofs.graph.settle.Goals as goal

pub loop-task-init : goal.loop-task-init
loop-task-init c =
    let low : level_of c.args.levels.now c.args.start < rank c.args.level = c.is_below.ensures.0 c.if-not-is_below.false in
    let empty : c.args.raised.now.items ≡ [] = nil_from_length c.args.raised.now.items (omega arith) in
    let is : c.push.new.self.items ≡ [] ++ c.args.start ∷ [] = c.in-Ok.ensures.items ∙ ap (λ (s : List ℕ). s ++ c.args.start ∷ []) empty in
    record {
      settling = settling_start c.args.edges.now c.args.start c.args.level c.args.levels.now c.requires.start low;
      todo = todo_start c.args.edges.now c.args.start c.args.level c.args.levels.now c.push.new.self.items c.requires.start low is c.requires.«open»;
      room =
          let w = below-set c.args.levels.now c.args.start c.args.level c.requires.start low in
          let r = c.requires.room in let n = c.in-Ok.ensures.len in let e = c.requires.empty in let k = c.in-Ok.ensures.capacity in
          omega (arith, w, count_by-le-length (λ (q : Priority). nat_lt (rank q) (rank c.args.level)) c.args.levels.now, r, n, e, k);
      capacity = omega arith;
    }

pub loop-task-preserved : goal.loop-task-preserved
loop-task-preserved c =
    let inv = c.loop-task.invariant in
    let todo = rw c.in-Some.ensures.items at inv.todo in
    let raising = c.raise_followers.ensures.raising in
    record {
      settling = settling_more c.args.edges.now c.args.start c.in-Some.task (rank c.args.level) c.args.levels.now c.loop-task.levels c.raise_followers.new.levels _ _ inv.settling (todo.reached c.in-Some.task (Contains-push c.pop.new.self.items c.in-Some.task)) raising;
      todo = todo_more c.args.edges.now c.args.start c.in-Some.task (rank c.args.level) c.loop-task.levels c.raise_followers.new.levels c.pop.new.self.items c.raise_followers.new.raised.items todo raising (omega arith) c.raise_followers.ensures.followers;
      room =
          let n = raising.count in let p = c.in-Some.ensures.len in let k = c.in-Some.ensures.capacity in let m = c.raise_followers.ensures.capacity in let r = inv.room in
          omega (arith, n, p, k, m, r);
      capacity = let k = c.in-Some.ensures.capacity in let m = c.raise_followers.ensures.capacity in let q = inv.capacity in omega (arith, k, m, q);
    }

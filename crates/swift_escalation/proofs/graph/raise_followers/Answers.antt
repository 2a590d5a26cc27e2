use Rattle.swift_escalation.proofs.Prelude.{ℕ, suc, inl, inr, ◌≤◌, ◌<◌, length, arith, ◌≡◌, ◌∙◌, refl, rank, level_of, edge_at, cases_lt}
use Rattle.swift_escalation.proofs.Raise.{raise_more, up_by_set, done_more, level_of-set_same}
use Rattle.swift_escalation.proofs.graph.raise_followers.Goals as goal
use Rattle.swift_escalation.proofs.graph.raise_followers.Goals.{then-is_below+in-Ok, else-is_below}

pub loop-next-preserved : goal.loop-next-preserved
loop-next-preserved c =
    let inv = c.loop-next.invariant in
    let edges = c.args.edges.now in
    let k = c.in-Some.k in
    let within : k < length edges = rw c.in-Some.is at inv.inside in
    let mine : (edge_at edges k).from ≡ c.args.task = inv.chain k c.in-Some.is in
    let to = c.requires.chained.to k within in
    let same = c.requires.same in
    let target : (edge_at edges k).to < length c.loop-next.levels = omega arith in
    let older = c.requires.chained.older k within in
    let later : (j : ℕ) → j < length edges → (edge_at edges j).from ≡ c.args.task → suc k ≤ j → rank c.args.level ≤ level_of c.loop-next.levels (edge_at edges j).to = rw c.in-Some.is at inv.done in
    elim c.if-is_below.branch [
      | then-is_below+in-Ok w ↦
          let low : level_of c.loop-next.levels (edge_at edges k).to < rank c.args.level = c.is_below.ensures.0 w.if-is_below.true in
          rw (w.levels-is, w.raised-is, w.in-Ok.ensures.items) (record {
            raising = raise_more edges c.args.task c.args.level c.args.levels.now c.loop-next.levels _ _ (edge_at edges k).to inv.raising (omega arith) target low (k, within, mine, refl);
            chain = λ b e. c.requires.chained.same_task k b within e ∙ mine;
            inside = omega arith;
            done = done_more edges c.args.before.now c.args.newest.now c.args.task (rank c.args.level) k c.loop-next.levels _ c.requires.chained within mine
                (up_by_set c.loop-next.levels (edge_at edges k).to c.args.level target low)
                (let e = level_of-set_same c.loop-next.levels (edge_at edges k).to c.args.level target in omega (arith, e)) later;
            capacity = let p = w.in-Ok.ensures.capacity in omega arith;
          })
      | else-is_below w ↦
          let high : rank c.args.level ≤ level_of c.loop-next.levels (edge_at edges k).to = elim (cases_lt (level_of c.loop-next.levels (edge_at edges k).to) (rank c.args.level)) [ inl lt ↦ absurd (cc (c.is_below.ensures.1 lt, w.if-is_below.false)) | inr ge ↦ ge ] in
          rw (w.levels-is, w.raised-is) (record {
            raising = inv.raising;
            chain = λ b e. c.requires.chained.same_task k b within e ∙ mine;
            inside = omega arith;
            done = done_more edges c.args.before.now c.args.newest.now c.args.task (rank c.args.level) k c.loop-next.levels _ c.requires.chained within mine
                (λ i. omega arith) high later;
            capacity = omega arith;
          })
    ]

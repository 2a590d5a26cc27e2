use Rattle.run_page.proofs.Prelude.{◌≡◌, ℕ, ◌-◌, ◌+◌, ◌<◌, Bool, if◌then◌else◌, ap, ◌∙◌, arith, drop, length, applied_turns, EXPLAINED}
use Rattle.run_page.proofs.Applied.{counted_from, last_of}
use Rattle.run_page.proofs.explanations.first_explained.Goals as goal
use Rattle.run_page.proofs.explanations.first_explained.Goals.{then-is_some+else-many-eq-EXPLAINED, else-is_some}

pub returns-then-many-eq-EXPLAINED : goal.returns-then-many-eq-EXPLAINED
returns-then-many-eq-EXPLAINED c =
    let es = c.args.log.now.events in
    let k = length es - c.loop-back.back in
    let at : c.len.result - 1 - c.loop-back.back + 1 ≡ k = omega (arith, c.len.ensures.len, c.loop-back-test.true, c.loop-back.invariant.end) in
    let many : length (applied_turns (drop k es)) ≡ EXPLAINED = omega (arith, c.loop-back.invariant.many, c.if-many-eq-EXPLAINED.true) in
    ap (λ n. applied_turns (drop n es)) at ∙ last_of k es many

pub loop-back-preserved : goal.loop-back-preserved
loop-back-preserved c =
    let es = c.args.log.now.events in
    let b = c.loop-back.back in
    let k = c.len.result - 1 - b in
    let many : ℕ → ℕ = λ n. length (applied_turns (drop n es)) in
    let lt : k < length es = omega (arith, c.len.ensures.len, c.loop-back-test.true, c.loop-back.invariant.end) in
    let here : many (length es - (b + 1)) ≡ many k = ap many (omega (arith, c.len.ensures.len, c.loop-back-test.true, c.loop-back.invariant.end)) in
    let next : many (k + 1) ≡ many (length es - b) = ap many (omega (arith, c.len.ensures.len, c.loop-back-test.true, c.loop-back.invariant.end)) in
    let step = counted_from k es c.event.result c.applied_turn.result c.is_some.result lt c.event.ensures c.applied_turn.ensures c.is_some.ensures in
    elim c.if-is_some.branch [
      | then-is_some+else-many-eq-EXPLAINED w ↦
          let one : many k ≡ many (k + 1) + 1 = step ∙ ap (λ (x : Bool). if x then many (k + 1) + 1 else many (k + 1)) w.if-is_some.true in
          record {
            many = omega (arith, here, next, one, w.many-is, c.loop-back.invariant.many);
            few = omega (arith, w.many-is, c.loop-back.invariant.few, w.if-many-eq-EXPLAINED.false);
            end = c.loop-back.invariant.end;
          }
      | else-is_some w ↦
          let same : many k ≡ many (k + 1) = step ∙ ap (λ (x : Bool). if x then many (k + 1) + 1 else many (k + 1)) w.if-is_some.false in
          record {
            many = omega (arith, here, next, same, w.many-is, c.loop-back.invariant.many);
            few = omega (arith, w.many-is, c.loop-back.invariant.few);
            end = c.loop-back.invariant.end;
          }
    ]

use Rattle.swift_script.proofs.Prelude.{sym, ◌∙◌, arith}
use Rattle.swift_script.proofs.Counting.{counted, passed_over}
use Rattle.swift_script.proofs.start.invariants_before.Goals as goal
use Rattle.swift_script.proofs.start.invariants_before.Goals.{then-is_some, else-is_some}

pub loop-k-preserved : goal.loop-k-preserved
loop-k-preserved c = record {
  counted = elim c.if-is_some.branch [
    | then-is_some w ↦
        let more = counted c.args.actors.now c.loop-k.k c.index-actors-k.result c.loop-k-test.true c.index-actors-k.is (sym c.is_some.ensures ∙ w.if-is_some.true) in
        let before = c.loop-k.invariant.counted in omega (arith, more, before, w.count-is)
    | else-is_some w ↦
        let more = passed_over c.args.actors.now c.loop-k.k c.index-actors-k.result c.loop-k-test.true c.index-actors-k.is (sym c.is_some.ensures ∙ w.if-is_some.false) in
        let before = c.loop-k.invariant.counted in omega (arith, more, before, w.count-is)
  ];
  within = omega (arith, c.loop-k.invariant.within, c.if-k-place.false);
}

use Rattle.std.proofs.Common.{arith, refl}
use Rattle.swift_lowering.specs.Files.{BeginsMain}
use Rattle.swift_lowering.proofs.Filed.{none_ordered, one_ordered}
use Rattle.swift_lowering.proofs.file.begin_main.Goals as goal

pub loop-main-preserved : goal.loop-main-preserved
loop-main-preserved c = record {
  refused = λ n. c.loop-main.invariant.refused (c.unit.ensures.refused n);
  goes_on = λ t n rest place. c.loop-main.invariant.goes_on t (c.unit.ensures.refused n) (λ p. one_ordered BeginsMain c.args.mains.now c.loop-main.main-index _ c.loop-main-test.true refl (c.unit.ensures.begun n) (rest _)) place;
}

pub returns-clause-begins : goal.returns-clause-begins
returns-clause-begins c = λ n. c.loop-main.invariant.goes_on _ n (λ place. none_ordered BeginsMain place c.loop-main.main-index c.args.mains.now _ (omega (arith, c.loop-main-test.false))) 0

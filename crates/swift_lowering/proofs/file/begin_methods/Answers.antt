use Rattle.std.proofs.Common.{arith, rules}
use Rattle.swift_lowering.specs.Files.{BeginsMethod}
use Rattle.swift_lowering.proofs.Filed.{none_ordered, one_ordered}
use Rattle.swift_lowering.proofs.file.begin_methods.Goals as goal

pub loop-method-preserved : goal.loop-method-preserved
loop-method-preserved c = record {
  refused = λ n. c.loop-method.invariant.refused (c.unit.ensures.refused n);
  goes_on = λ t n rest. c.loop-method.invariant.goes_on t (c.unit.ensures.refused n) (one_ordered BeginsMethod c.args.methods.now c.loop-method.method-index _ c.loop-method-test.true (search rules) (c.unit.ensures.begun n) rest);
}

pub returns-clause-begins : goal.returns-clause-begins
returns-clause-begins c = λ n. c.loop-method.invariant.goes_on _ n (none_ordered BeginsMethod c.loop-method.place c.loop-method.method-index c.args.methods.now _ (omega (arith, c.loop-method-test.false)))

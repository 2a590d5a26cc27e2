use Rattle.std.proofs.Common.{arith, rules}
use Rattle.swift_lowering.specs.Files.{LowersMethod}
use Rattle.swift_lowering.proofs.Filed.{none_ordered, one_ordered}
use Rattle.swift_lowering.proofs.file.lower_each.Goals as goal

pub loop-method-preserved : goal.loop-method-preserved
loop-method-preserved c = record {
  refused = λ n. c.loop-method.invariant.refused (c.lower_method.ensures.refused n);
  goes_on = λ t n rest. c.loop-method.invariant.goes_on t (c.lower_method.ensures.refused n) (one_ordered LowersMethod c.args.methods.now c.loop-method.method-index _ c.loop-method-test.true (search rules) (c.lower_method.ensures.lowers n) rest);
}

pub returns-clause-lowers : goal.returns-clause-lowers
returns-clause-lowers c = λ n. c.loop-method.invariant.goes_on _ n (none_ordered LowersMethod c.loop-method.unit c.loop-method.method-index c.args.methods.now _ (omega (arith, c.loop-method-test.false)))

use Rattle.std.proofs.Common.{length, arith, ap}
use Rattle.std.proofs.lemmas.List.{length-drop}
use Rattle.swift_locals.proofs.Chain.{drop_one_more}
use Rattle.swift_locals.proofs.bindings.Bindings.cut.Goals as goal

pub loop-self-preserved : goal.loop-self-preserved
loop-self-preserved c =
    let one = c.unbind.ensures in let len = length-drop 1 c.loop-self.self in let less = ap length one in
    record {
      deep = omega (arith, len, less);
      kept = drop_one_more _ _ _ c.loop-self.invariant.kept one (omega arith);
    }

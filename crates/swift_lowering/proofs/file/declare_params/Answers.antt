use Rattle.std.proofs.Common.{◌≡◌, List, arith, refl, subst}
use Rattle.swift_syntax.specs.declared.tree.ParamDecl.{ParamDecl}
use Rattle.swift_expressions.specs.States.{state_of}
use Rattle.swift_lowering.specs.Files.{InOrder, TakesParam}
use Rattle.swift_lowering.proofs.Filed.{none_ordered, one_ordered}
use Rattle.swift_lowering.proofs.file.declare_params.Goals as goal

pub loop-param-preserved : goal.loop-param-preserved
loop-param-preserved c = record {
  refused = λ n. c.loop-param.invariant.refused (c.declare_param.ensures.refused n);
  goes_on = λ t n rest place. c.loop-param.invariant.goes_on t (c.declare_param.ensures.refused n) (λ p. one_ordered TakesParam c.params_of-params.result.now c.loop-param.param-index _ c.loop-param-test.true refl (c.declare_param.ensures.takes p n) (rest _)) place;
}

pub returns-clause-takes : goal.returns-clause-takes
returns-clause-takes c = λ n.
    let params = c.params_of-params.result.now in
    let all = c.loop-param.invariant.goes_on _ n (λ place. none_ordered TakesParam place c.loop-param.param-index params _ (omega (arith, c.loop-param-test.false))) 0 in
    subst (λ (ps : List ParamDecl). InOrder ParamDecl TakesParam 0 ps (state_of c.args.lowering.now) (state_of c.loop-param.lowering)) c.params_of-params.ensures all

use Rattle.std.proofs.Common.{Option, ℕ, ◌+◌, Some, arith, sym, subst}
use Rattle.swift_expressions.specs.States.{state_of}
use Rattle.swift_expressions.proofs.Scoped.{FoundBelow, found_here, innermost_found, none_found, not_here, not_true}
use Rattle.swift_expressions.proofs.scope.find.Goals.{then-is_named_at, else-is_named_at}
use Rattle.swift_expressions.proofs.scope.find.Goals as goal

pub loop-place-preserved : goal.loop-place-preserved
loop-place-preserved c =
    let s = state_of c.args.lowering.now in
    let n = c.loop-place.place in
    elim c.if-is_named_at.branch [
      | then-is_named_at w ↦ subst (λ (o : Option ℕ). FoundBelow s c.args.token (n + 1) o) (sym w.found-is) (found_here s c.args.token n (c.is_named_at.ensures.0 w.if-is_named_at.true))
      | else-is_named_at w ↦ subst (λ (o : Option ℕ). FoundBelow s c.args.token (n + 1) o) (sym w.found-is) (not_here s c.args.token n c.loop-place.found (λ x. not_true w.if-is_named_at.false (c.is_named_at.ensures.1 x)) c.loop-place.invariant)
    ]

pub returns-clause-found : goal.returns-clause-found
returns-clause-found c = innermost_found (state_of c.args.lowering.now) c.args.token c.loop-place.place c.loop-place.found (omega (arith, c.loop-place-test.false, c.len-place-end.ensures, c.args.lowering.now.scope.ok.0)) c.loop-place.invariant

pub returns-clause-none : goal.returns-clause-none
returns-clause-none c = none_found (state_of c.args.lowering.now) c.args.token c.loop-place.place c.loop-place.found (omega (arith, c.loop-place-test.false, c.len-place-end.ensures, c.args.lowering.now.scope.ok.0)) c.loop-place.invariant

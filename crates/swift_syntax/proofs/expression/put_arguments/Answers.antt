use Rattle.std.proofs.Common.{◌≡◌, ◌<◌, ◌∷◌, ◌-◌, ◌∙◌, suc, length, get_or, refl, ap, arith}
use Rattle.std.proofs.Math.Seq.{drop-cons, drop-length}
use Rattle.std.specs.Prelude.{drop}
use Rattle.swift_syntax.specs.declared.tree.Argument.{Argument}
use Rattle.swift_syntax.proofs.Arguments.{none_are, one_are}
use Rattle.swift_syntax.proofs.Grown.{grows_on, grows_same}
use Rattle.swift_syntax.proofs.expression.put_arguments.Goals as goal

pub put-init : goal.put-init
put-init c = record { within = omega arith; grows = grows_same c.args.reader.now; at = λ n. refl; put = λ n. none_are (drop-length c.args.given.now) }

pub put-preserved : goal.put-preserved
put-preserved c =
    let none : Argument = record { label = 0; value = 0; next = 0 } in
    let made = get_or c.args.given.now (c.put.left - 1) none in
    let within : c.put.left - 1 < length c.args.given.now = omega (arith, c.put-test.true, c.put.invariant.within) in
    let back : suc (c.put.left - 1) ≡ c.put.left = omega (arith, c.put-test.true) in
    let next : drop (c.put.left - 1) c.args.given.now ≡ made ∷ drop c.put.left c.args.given.now = drop-cons c.args.given.now (c.put.left - 1) none within ∙ ap (λ k. made ∷ drop k c.args.given.now) back in
    record {
      within = omega (arith, c.put.invariant.within);
      grows = grows_on c.put.invariant.grows c.argument-next.ensures.grows;
      at = λ n. (c.argument-next.ensures.put n).at ∙ c.put.invariant.at (c.argument-next.ensures.grows.refused n);
      put = λ n. one_are c.put.reader c.argument-next.new.self made next (c.argument-next.ensures.put n) (c.put.invariant.put (c.argument-next.ensures.grows.refused n));
    }

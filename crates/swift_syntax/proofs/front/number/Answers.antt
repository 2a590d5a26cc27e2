use Rattle.std.proofs.Common.{sym, ap, ◌∙◌, arith, pos, w64}
use Rattle.std.proofs.lemmas.Bool.Decides.{nat_tests}
use Rattle.std.proofs.lemmas.Int.{to_z_pos}
use Rattle.swift_syntax.specs.declared.token.TokenKind.TheVariants as kind
use Rattle.swift_syntax.proofs.Numbers.{number_huge, number_fits, number_too_large, all_read}
use Rattle.swift_syntax.proofs.front.number.Goals as goal

pub returns-then-value-gt922337203685477580 : goal.returns-then-value-gt922337203685477580
returns-then-value-gt922337203685477580 c = sym (number_too_large c.loop-d.value c.loop-d.d-index c.args.digits.now c.loop-d-test.true (grind (arith, nat_tests)) c.loop-d.invariant (omega arith))

pub returns-then-value-gt9223372036854775807 : goal.returns-then-value-gt9223372036854775807
returns-then-value-gt9223372036854775807 c =
    let is = all_read c.loop-d.value c.loop-d.d-index c.args.digits.now c.loop-d-test.false c.loop-d.invariant in
    sym (number_huge c.args.digits.now (omega (arith, is)))

pub returns-else-value-gt9223372036854775807 : goal.returns-else-value-gt9223372036854775807
returns-else-value-gt9223372036854775807 c =
    let is = all_read c.loop-d.value c.loop-d.d-index c.args.digits.now c.loop-d-test.false c.loop-d.invariant in
    ap (λ z. kind.Number z) (to_z_pos w64 c.loop-d.value (omega arith)) ∙ ap (λ n. kind.Number (pos n)) is ∙ sym (number_fits c.args.digits.now (omega (arith, is)))

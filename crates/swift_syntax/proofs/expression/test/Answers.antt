use Rattle.std.proofs.Common.{◌≢◌, refl}
use Rattle.std.proofs.lemmas.Bool.{false≢true}
use Rattle.swift_syntax.specs.Expressions.{kind_at}
use Rattle.swift_syntax.specs.Statements.{SpellsTests, a_sign}
use Rattle.swift_syntax.specs.Statements as swift
use Rattle.swift_syntax.specs.declared.sign.Sign.TheVariants as sign
use Rattle.swift_syntax.specs.declared.token.TokenKind.TheVariants as kind
use Rattle.swift_syntax.proofs.Grown.{grows_on}
use Rattle.swift_syntax.proofs.Refused.{clash}
use Rattle.swift_syntax.proofs.Statements.{expr_stays, tests_stay}
use Rattle.swift_syntax.proofs.Steps.{adds_of, row_then, takes_one, tests_on, then, took_as, took_expr, took_put}
use Rattle.swift_syntax.proofs.expression.test.Goals as goal

pub loop-init : goal.loop-init
loop-init c = took_as (λ a x. swift.one_test x) (took_expr c.args.reader.now c.expression-left.new.reader c.expression-left.result c.expression-left.ensures.spelled c.expression-left.ensures.grows)

pub loop-preserved : goal.loop-preserved
loop-preserved c =
    let comma = takes_one c.loop.reader c.take-place.new.self (a_sign sign.Comma) (c.if-not-is_sign.ensures.0 refl) c.take-place.ensures.taken in
    let value = took_expr c.take-place.new.self c.expression-right.new.reader c.expression-right.result c.expression-right.ensures.spelled c.expression-right.ensures.grows in
    let put = took_put c.expression-right.new.reader c.expr-left.new.self c.expr-left.ensures.put c.expr-left.ensures.grows in
    let all = then _ _ _ (λ s t m. tests_stay s t m) c.loop.invariant (row_then _ _ _ comma (then _ _ _ (expr_stays c.take-place.new.self.at c.expression-right.new.reader.at c.expression-right.result) value put)) in
    took_as (λ a x. tests_on a x.0 x.1.0 x.1.1.0 x.1.1.1 c.take-place.ensures.place) all

pub returns-then-not-is_sign : goal.returns-then-not-is_sign
returns-then-not-is_sign c =
    let k : kind_at c.loop.reader.tokens.now c.loop.reader.at ≢ kind.Sign sign.Comma = λ e. false≢true (c.if-not-is_sign.ensures.1 e) in
    record {
      spelled = λ n. adds_of _ _ (record { grows = c.loop.invariant.grows; holds = λ m xs. (c.loop.invariant.holds m xs, k) }) n;
      grows = c.loop.invariant.grows;
    }

pub returns : goal.returns
returns c = record { spelled = λ n. clash _ n c.missing.ensures.noted; grows = grows_on c.loop.invariant.grows c.missing.ensures.grows }

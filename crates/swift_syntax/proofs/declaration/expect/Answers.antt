use Rattle.std.proofs.Common.{◌∷◌, [], ◌++◌, ◌≡◌, subst, sym}
use Rattle.swift_syntax.specs.Declarations.{Rows, SpellsDeclaration, rows_of}
use Rattle.swift_syntax.specs.Declarations as swift
use Rattle.swift_syntax.specs.Expressions.{after, kind_at}
use Rattle.swift_syntax.specs.Statements.{IsExpr}
use Rattle.swift_syntax.specs.declared.token.TokenKind.TheVariants as kind
use Rattle.swift_syntax.specs.declared.tree.ExpectDecl.{ExpectDecl}
use Rattle.swift_syntax.proofs.DeclaredRows.{both_stay, put_behind, takes_kind}
use Rattle.swift_syntax.proofs.Statements.{expr_stays, lexed_stays}
use Rattle.swift_syntax.proofs.Steps.{then, took_expr}
use Rattle.swift_syntax.proofs.declaration.expect.Goals as goal

pub returns : goal.returns
returns c = λ is.
    let token = takes_kind c.args.reader.now c.take-token.new.self kind.Expect is c.take-token.ensures.taken in
    let value = took_expr c.take-token.new.self c.expression-test.new.reader c.expression-test.result c.expression-test.ensures.spelled c.expression-test.ensures.grows in
    let stays = lexed_stays (λ l. (kind_at l.tokens c.args.reader.now.at ≡ kind.Expect) × (after c.args.reader.now.at ≡ c.take-token.new.self.at)) in
    let all = then _ _ _ stays token value in
    let before : Rows = rows_of c.args.reader.now.tree.value in
    let made : ExpectDecl = record { token = c.take-token.result; test = c.expression-test.result } in
    put_behind c.args.reader.now c.expression-test.new.reader c.put_expectation.new.reader SpellsDeclaration (λ r. record r { expectations = r.expectations ++ made ∷ [] }) (both_stay stays (expr_stays c.take-token.new.self.at c.expression-test.new.reader.at c.expression-test.result)) all c.put_expectation.ensures.put c.put_expectation.ensures.continues (λ n a x.
    subst (λ p. SpellsDeclaration a c.args.reader.now.at c.expression-test.new.reader.at before (record before { expectations = before.expectations ++ record { token = p; test = c.expression-test.result } ∷ [] })) (sym c.take-token.ensures.place) (swift.decl_expectation x.0.0 (subst (λ j. IsExpr a j c.expression-test.new.reader.at c.expression-test.result) (sym x.0.1) x.1)))

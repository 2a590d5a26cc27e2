use Rattle.std.proofs.Common.{◌≡◌, ℕ}
use Rattle.swift_syntax.specs.Declarations.{Rows, SpellsMember}
use Rattle.swift_syntax.specs.DeclaringInside.{with_invariant}
use Rattle.swift_syntax.specs.Expressions.{after, kind_at}
use Rattle.swift_syntax.specs.Statements.{Source}
use Rattle.swift_syntax.specs.declared.token.TokenKind.TheVariants as kind
use Rattle.swift_syntax.proofs.DeclaredRows.{both_stay, takes_kind, took_then}
use Rattle.swift_syntax.proofs.Members.{invariant_of}
use Rattle.swift_syntax.proofs.Statements.{expr_stays, lexed_stays}
use Rattle.swift_syntax.proofs.Steps.{then, took_expr}
use Rattle.swift_syntax.proofs.actor.invariant_comment.Goals as goal

pub returns : goal.returns
returns c = λ is.
    let token = takes_kind c.args.reader.now c.take.new.self kind.Invariant is c.take.ensures.taken in
    let value = took_expr c.take.new.self c.expression-test.new.reader c.expression-test.result c.expression-test.ensures.spelled c.expression-test.ensures.grows in
    let stays = lexed_stays (λ l. (kind_at l.tokens c.args.reader.now.at ≡ kind.Invariant) × (after c.args.reader.now.at ≡ c.take.new.self.at)) in
    let Put : Source → ℕ → ℕ → Rows → Rows → Type 0 = λ s i j r t. (i ≡ j) × (t ≡ with_invariant c.args.actor c.expression-test.result r) in
    took_then c.args.reader.now c.expression-test.new.reader c.invariant.new.reader Put (λ s. SpellsMember s c.args.actor) (both_stay stays (expr_stays c.take.new.self.at c.expression-test.new.reader.at c.expression-test.result)) (then _ _ _ stays token value) c.invariant.ensures (λ n a u v x d. invariant_of a x.0 x.1 d.0 d.1)

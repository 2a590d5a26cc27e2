use Rattle.std.proofs.Common.{◌∷◌, [], ◌≡◌, ℕ, refl, subst, sym, ◌∙◌}
use Rattle.swift_syntax.specs.Declarations.{Rows, SpellsDeclaration, SpellsDeclarations, nobody}
use Rattle.swift_syntax.specs.Declarations as swift
use Rattle.swift_syntax.specs.Statements.{Row, Separates, Source, a_sign}
use Rattle.swift_syntax.specs.declared.sign.Sign.TheVariants as sign
use Rattle.swift_syntax.specs.Expressions.{kind_at}
use Rattle.swift_syntax.specs.declared.token.TokenKind.TheVariants as kind
use Rattle.swift_syntax.specs.declared.tree.Access.TheVariants.{Open}
use Rattle.swift_syntax.proofs.Bodies.{actor_stays, method_stays}
use Rattle.swift_syntax.proofs.DeclaredRows.{both_stay, declaration_stays, goes_begins, goes_declared, goes_ends, goes_on, goes_took, then_took, took_declares, took_then}
use Rattle.swift_syntax.proofs.Grown.{grows_same}
use Rattle.swift_syntax.proofs.Statements.{Stays, lexed_stays, row_stays}
use Rattle.swift_syntax.proofs.Steps.{Took, no_row, takes_one, took_call, took_same}
use Rattle.swift_syntax.proofs.reading.declarations.Goals as goal

pub loop-init : goal.loop-init
loop-init c = goes_begins (λ s i j r t. SpellsDeclarations s i r t) c.args.reader.now

pub loop-preserved-then-takes : goal.loop-preserved-then-takes
loop-preserved-then-takes c =
    let Q : Source → ℕ → ℕ → Rows → Rows → Type 0 = λ s i j r t. SpellsDeclarations s i r t in
    let semicolon = takes_one c.loop.reader c.takes.new.self (a_sign sign.Semicolon) (c.if-takes.ensures.found.0 refl) c.if-takes.ensures.taken in
    goes_on Q _ _ _ c.loop.invariant (goes_took Q _ _ (row_stays (a_sign sign.Semicolon ∷ []) c.loop.reader.at c.takes.new.self.at) semicolon (λ b k u v x d. swift.decls_blank x d))

pub loop-preserved : goal.loop-preserved
loop-preserved c =
    let Q : Source → ℕ → ℕ → Rows → Rows → Type 0 = λ s i j r t. SpellsDeclarations s i r t in
    let Line : Source → ℕ → ℕ → Rows → Rows → Type 0 = λ s i j u v. Row s.lexed [] i c.takes.new.self.at × SpellsDeclaration s c.takes.new.self.at j u v in
    let Both : Source → ℕ → ℕ → Rows → Rows → Type 0 = λ s i j u v. Line s i c.declaration.new.reader.at u v × Separates s.lexed c.declaration.new.reader.at j in
    let none = took_same c.loop.reader c.takes.new.self (λ m. c.if-takes.ensures.taken) (rw c.if-takes.ensures.taken (grows_same c.loop.reader)) in
    let line = took_then c.loop.reader c.takes.new.self c.declaration.new.reader SpellsDeclaration Line (row_stays [] c.loop.reader.at c.takes.new.self.at) none c.declaration.ensures (λ n a u v x d. (x, d)) in
    let end = took_call c.declaration.new.reader c.separator.new.self Separates c.separator.ensures.spelled c.separator.ensures.grows in
    let line_stays : (i j : ℕ) (u v : Rows) → Stays (λ a. Line a i j u v) = λ i j u v. both_stay (row_stays [] i c.takes.new.self.at) (declaration_stays actor_stays (method_stays nobody Open) c.takes.new.self.at j u v) in
    let turn = then_took c.loop.reader c.declaration.new.reader c.separator.new.self Line Both line_stays line end (λ a u v q p. (q, p)) in
    goes_on Q _ _ _ c.loop.invariant (goes_declared Q Both _ _ (λ i j u v. both_stay (line_stays i c.declaration.new.reader.at u v) (lexed_stays (λ l. Separates l c.declaration.new.reader.at j))) turn (λ b k u v w x d. rw (no_row b.lexed x.0.0) (swift.decls_more x.0.1 x.1 d)))

pub returns-in-End : goal.returns-in-End
returns-in-End c =
    let Q : Source → ℕ → ℕ → Rows → Rows → Type 0 = λ s i j r t. SpellsDeclarations s i r t in
    let is : kind_at c.takes.new.self.tokens.now c.takes.new.self.at ≡ kind.End = sym c.here.ensures.kind ∙ c.in-End.is in
    let end : Took c.loop.reader c.takes.new.self (λ a. kind_at a.lexed.tokens c.loop.reader.at ≡ kind.End) =
    record { grows = rw c.if-takes.ensures.taken (grows_same c.loop.reader); holds = λ n xs. subst (λ y. kind_at c.takes.new.self.tokens.now y.at ≡ kind.End) c.if-takes.ensures.taken is } in
    goes_ends Q _ _ _ c.loop.invariant (took_declares _ _ Q end (λ a u x. swift.decls_end x))

pub returns : goal.returns
returns c =
    let Q : Source → ℕ → ℕ → Rows → Rows → Type 0 = λ s i j r t. SpellsDeclarations s i r t in
    let end : Took c.loop.reader c.want_end.new.reader (λ a. kind_at a.lexed.tokens c.loop.reader.at ≡ kind.End) =
    record { grows = c.want_end.ensures.grows; holds = λ n xs. subst (λ y. kind_at y.tokens.now c.loop.reader.at ≡ kind.End) (sym (c.want_end.ensures.end n).1) (c.want_end.ensures.end n).0 } in
    goes_ends Q _ _ _ c.loop.invariant (took_declares _ _ Q end (λ a u x. swift.decls_end x))

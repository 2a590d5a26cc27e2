use Rattle.std.proofs.Common.{[], ◌∷◌, ℕ, refl, subst}
use Rattle.std.proofs.lemmas.Bool.{false≢true}
use Rattle.swift_syntax.specs.Declarations.{Rows, SpellsCase, SpellsSomeCases}
use Rattle.swift_syntax.specs.Declarations as swift
use Rattle.swift_syntax.specs.Statements.{Row, Source, a_sign}
use Rattle.swift_syntax.specs.declared.sign.Sign.TheVariants as sign
use Rattle.swift_syntax.proofs.DeclaredRows.{both_stay, goes_begins, goes_declared, goes_ends, goes_on, not_taken, puts_refused, then_took}
use Rattle.swift_syntax.proofs.Declaring.{continues_of, continues_on}
use Rattle.swift_syntax.proofs.Grown.{extends_of}
use Rattle.swift_syntax.proofs.Statements.{lexed_stays, row_stays}
use Rattle.swift_syntax.proofs.Steps.{no_row, takes_one}
use Rattle.swift_syntax.proofs.declaration.cases.Goals as goal

pub loop-init : goal.loop-init
loop-init c = goes_begins (λ s. SpellsSomeCases s.lexed c.args.of c.args.first) c.args.reader.now

pub loop-preserved : goal.loop-preserved
loop-preserved c =
    let Q : Source → ℕ → ℕ → Rows → Rows → Type 0 = λ s. SpellsSomeCases s.lexed c.args.of c.args.first in
    let One : Source → ℕ → ℕ → Rows → Rows → Type 0 = λ s. SpellsCase s.lexed c.args.of c.args.first in
    let Both : Source → ℕ → ℕ → Rows → Rows → Type 0 = λ s i j u v. One s i c.case.new.reader.at u v × Row s.lexed (a_sign sign.Comma ∷ []) c.case.new.reader.at j in
    let comma = takes_one c.case.new.reader c.takes.new.self (a_sign sign.Comma) (c.if-not-takes.ensures.found.0 refl) c.if-not-takes.ensures.taken in
    let turn = then_took c.loop.reader c.case.new.reader c.takes.new.self One Both (λ i j u v. lexed_stays (λ l. SpellsCase l c.args.of c.args.first i j u v)) c.case.ensures comma (λ a u v q p. (q, p)) in
    goes_on Q _ _ _ c.loop.invariant (goes_declared Q Both _ _ (λ i j u v. both_stay (lexed_stays (λ l. SpellsCase l c.args.of c.args.first i c.case.new.reader.at u v)) (row_stays (a_sign sign.Comma ∷ []) c.case.new.reader.at j)) turn (λ b k u v w x d. swift.one_more_case x.0 x.1 d))

pub returns-then-not-takes : goal.returns-then-not-takes
returns-then-not-takes c =
    let Q : Source → ℕ → ℕ → Rows → Rows → Type 0 = λ s. SpellsSomeCases s.lexed c.args.of c.args.first in
    let One : Source → ℕ → ℕ → Rows → Rows → Type 0 = λ s. SpellsCase s.lexed c.args.of c.args.first in
    let other = not_taken c.case.new.reader c.takes.new.self sign.Comma (λ k. false≢true (c.if-not-takes.ensures.found.1 k)) c.if-not-takes.ensures.taken in
    let last = then_took c.loop.reader c.case.new.reader c.takes.new.self One Q (λ i j u v. lexed_stays (λ l. SpellsCase l c.args.of c.args.first i j u v)) c.case.ensures other (λ a u v q p. swift.last_case (subst (λ j. SpellsCase a.lexed c.args.of c.args.first c.loop.reader.at j u v) (no_row a.lexed p.1) q) p.0) in
    goes_ends Q _ _ _ c.loop.invariant last

pub returns : goal.returns
returns c = puts_refused _ _ (continues_on c.loop.invariant.continues (continues_of (extends_of c.unexpected.ensures.grows))) c.unexpected.ensures.noted

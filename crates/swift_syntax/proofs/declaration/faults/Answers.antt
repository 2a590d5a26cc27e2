use Rattle.std.proofs.Common.{[], ◌∷◌, ◌≡◌, ℕ, length, refl, rules, subst}
use Rattle.swift_syntax.specs.Declarations.{Rows, SpellsCases, SpellsSomeCases}
use Rattle.swift_syntax.specs.Declarations as swift
use Rattle.swift_syntax.specs.Statements.{Row, Separates, Source, a_key, a_sign}
use Rattle.swift_syntax.specs.declared.sign.Sign.TheVariants as sign
use Rattle.swift_syntax.specs.declared.word.Word.TheVariants as word
use Rattle.swift_syntax.proofs.DeclaredRows.{goes_begins, goes_declared, goes_ends, goes_on, goes_took, then_took, took_declares, took_then}
use Rattle.swift_syntax.proofs.Grown.{grows_same}
use Rattle.swift_syntax.proofs.Statements.{lexed_stays, row_stays}
use Rattle.swift_syntax.proofs.Steps.{rows, takes_one, took_call, took_key, took_same, took_sign}
use Rattle.swift_syntax.proofs.declaration.faults.Goals as goal

pub loop-init : goal.loop-init
loop-init c = goes_begins (λ s. SpellsCases s.lexed c.args.of (length c.args.reader.now.tree.value.cases.items)) c.args.reader.now

pub loop-preserved-then-takes-2 : goal.loop-preserved-then-takes-2
loop-preserved-then-takes-2 c =
    let Q : Source → ℕ → ℕ → Rows → Rows → Type 0 = λ s. SpellsCases s.lexed c.args.of (length c.args.reader.now.tree.value.cases.items) in
    let none = took_same c.loop.reader c.takes.new.self (λ m. c.if-takes.ensures.taken) (rw c.if-takes.ensures.taken (grows_same c.loop.reader)) in
    let semicolon = takes_one c.takes.new.self c.takes-in-loop.new.self (a_sign sign.Semicolon) (c.if-takes-2.ensures.found.0 refl) c.if-takes-2.ensures.taken in
    goes_on Q _ _ _ c.loop.invariant (goes_took Q _ _ (row_stays (a_sign sign.Semicolon ∷ []) c.loop.reader.at c.takes-in-loop.new.self.at) (rows _ _ _ none semicolon) (λ b k u v x d. swift.cases_blank x d))

pub loop-preserved : goal.loop-preserved
loop-preserved c =
    let Q : Source → ℕ → ℕ → Rows → Rows → Type 0 = λ s. SpellsCases s.lexed c.args.of (length c.args.reader.now.tree.value.cases.items) in
    let first : c.len-first.result ≡ length c.args.reader.now.tree.value.cases.items = search rules in
    let Some : Source → ℕ → ℕ → Rows → Rows → Type 0 = λ s. SpellsSomeCases s.lexed c.args.of c.len-first.result in
    let Line : Source → ℕ → ℕ → Rows → Rows → Type 0 = λ s i j u v. Row s.lexed (a_key word.Case ∷ []) i c.key.new.self.at × Some s c.key.new.self.at j u v in
    let Both : Source → ℕ → ℕ → Rows → Rows → Type 0 = λ s i j u v. Line s i c.cases.new.reader.at u v × Separates s.lexed c.cases.new.reader.at j in
    let none = took_same c.loop.reader c.takes.new.self (λ m. c.if-takes.ensures.taken) (rw c.if-takes.ensures.taken (grows_same c.loop.reader)) in
    let other = took_same c.takes.new.self c.takes-in-loop.new.self (λ m. c.if-takes-2.ensures.taken) (rw c.if-takes-2.ensures.taken (grows_same c.takes.new.self)) in
    let key = took_key c.takes-in-loop.new.self c.key.new.self word.Case c.key.ensures.taken c.key.ensures.grows in
    let begun = rows _ _ _ none (rows _ _ _ other key) in
    let line = took_then c.loop.reader c.key.new.self c.cases.new.reader Some Line (row_stays (a_key word.Case ∷ []) c.loop.reader.at c.key.new.self.at) begun c.cases.ensures (λ n a u v x d. (x, d)) in
    let end = took_call c.cases.new.reader c.separator.new.self Separates c.separator.ensures.spelled c.separator.ensures.grows in
    let turn = then_took c.loop.reader c.cases.new.reader c.separator.new.self Line Both (λ i j u v. lexed_stays (λ l. Row l (a_key word.Case ∷ []) i c.key.new.self.at × SpellsSomeCases l c.args.of c.len-first.result c.key.new.self.at j u v)) line end (λ a u v q p. (q, p)) in
    goes_on Q _ _ _ c.loop.invariant (goes_declared Q Both _ _ (λ i j u v. lexed_stays (λ l. (Row l (a_key word.Case ∷ []) i c.key.new.self.at × SpellsSomeCases l c.args.of c.len-first.result c.key.new.self.at c.cases.new.reader.at u v) × Separates l c.cases.new.reader.at j)) turn (λ b k u v w x d. swift.cases_line x.0.0 (subst (λ f. SpellsSomeCases b.lexed c.args.of f c.key.new.self.at c.cases.new.reader.at u v) first x.0.1) x.1 d))

pub returns-then-takes : goal.returns-then-takes
returns-then-takes c =
    let Q : Source → ℕ → ℕ → Rows → Rows → Type 0 = λ s. SpellsCases s.lexed c.args.of (length c.args.reader.now.tree.value.cases.items) in
    let brace = takes_one c.loop.reader c.takes.new.self (a_sign sign.CloseBrace) (c.if-takes.ensures.found.0 refl) c.if-takes.ensures.taken in
    goes_ends Q _ _ _ c.loop.invariant (took_declares _ _ Q brace (λ a u x. swift.cases_end x))

pub returns : goal.returns
returns c =
    let Q : Source → ℕ → ℕ → Rows → Rows → Type 0 = λ s. SpellsCases s.lexed c.args.of (length c.args.reader.now.tree.value.cases.items) in
    let brace = took_sign c.loop.reader c.sign.new.self sign.CloseBrace c.sign.ensures.taken c.sign.ensures.grows in
    goes_ends Q _ _ _ c.loop.invariant (took_declares _ _ Q brace (λ a u x. swift.cases_end x))

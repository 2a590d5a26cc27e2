use Rattle.std.proofs.Common.{[], ◌∷◌, ℕ, refl}
use Rattle.swift_syntax.specs.Declarations.{Rows}
use Rattle.swift_syntax.specs.DeclaringInside.{GivesAll, GivesOne}
use Rattle.swift_syntax.specs.Statements.{Row, Source, a_sign}
use Rattle.swift_syntax.specs.declared.sign.Sign.TheVariants as sign
use Rattle.swift_syntax.proofs.DeclaredRows.{both_stay, goes_begins, goes_declared, goes_ends, goes_on, goes_took, took_declares, took_then}
use Rattle.swift_syntax.proofs.Giving.{given_blank, given_end, given_more, one_stays}
use Rattle.swift_syntax.proofs.Grown.{grows_same}
use Rattle.swift_syntax.proofs.Statements.{row_stays}
use Rattle.swift_syntax.proofs.Steps.{no_row, rows, takes_one, took_same, took_sign}
use Rattle.swift_syntax.proofs.actor.init_steps.Goals as goal

pub loop-init : goal.loop-init
loop-init c = goes_begins (λ s. GivesAll s c.args.actor) c.args.reader.now

pub loop-preserved-then-takes-2 : goal.loop-preserved-then-takes-2
loop-preserved-then-takes-2 c =
    let Q : Source → ℕ → ℕ → Rows → Rows → Type 0 = λ s. GivesAll s c.args.actor in
    let none = took_same c.loop.reader c.takes.new.self (λ m. c.if-takes.ensures.taken) (rw c.if-takes.ensures.taken (grows_same c.loop.reader)) in
    let semicolon = takes_one c.takes.new.self c.takes-in-loop.new.self (a_sign sign.Semicolon) (c.if-takes-2.ensures.found.0 refl) c.if-takes-2.ensures.taken in
    goes_on Q _ _ _ c.loop.invariant (goes_took Q _ _ (row_stays (a_sign sign.Semicolon ∷ []) c.loop.reader.at c.takes-in-loop.new.self.at) (rows _ _ _ none semicolon) (λ b k u v x d. given_blank b x d))

pub loop-preserved : goal.loop-preserved
loop-preserved c =
    let Q : Source → ℕ → ℕ → Rows → Rows → Type 0 = λ s. GivesAll s c.args.actor in
    let One : Source → ℕ → ℕ → Rows → Rows → Type 0 = λ s. GivesOne s c.args.actor in
    let Turn : Source → ℕ → ℕ → Rows → Rows → Type 0 = λ s i j u v. Row s.lexed [] i c.takes-in-loop.new.self.at × One s c.takes-in-loop.new.self.at j u v in
    let none = took_same c.loop.reader c.takes.new.self (λ m. c.if-takes.ensures.taken) (rw c.if-takes.ensures.taken (grows_same c.loop.reader)) in
    let other = took_same c.takes.new.self c.takes-in-loop.new.self (λ m. c.if-takes-2.ensures.taken) (rw c.if-takes-2.ensures.taken (grows_same c.takes.new.self)) in
    let turn = took_then c.loop.reader c.takes-in-loop.new.self c.init_step.new.reader One Turn (row_stays [] c.loop.reader.at c.takes-in-loop.new.self.at) (rows _ _ _ none other) c.init_step.ensures (λ n a u v x d. (x, d)) in
    goes_on Q _ _ _ c.loop.invariant (goes_declared Q Turn _ _ (λ i j u v. both_stay (row_stays [] i c.takes-in-loop.new.self.at) (one_stays c.args.actor c.takes-in-loop.new.self.at j u v)) turn (λ b k u v w x d. rw (no_row b.lexed x.0) (given_more b x.1 d)))

pub returns-then-takes : goal.returns-then-takes
returns-then-takes c =
    let Q : Source → ℕ → ℕ → Rows → Rows → Type 0 = λ s. GivesAll s c.args.actor in
    let brace = takes_one c.loop.reader c.takes.new.self (a_sign sign.CloseBrace) (c.if-takes.ensures.found.0 refl) c.if-takes.ensures.taken in
    goes_ends Q _ _ _ c.loop.invariant (took_declares _ _ Q brace (λ a u x. given_end a u x))

pub returns : goal.returns
returns c =
    let Q : Source → ℕ → ℕ → Rows → Rows → Type 0 = λ s. GivesAll s c.args.actor in
    let brace = took_sign c.loop.reader c.sign.new.self sign.CloseBrace c.sign.ensures.taken c.sign.ensures.grows in
    goes_ends Q _ _ _ c.loop.invariant (took_declares _ _ Q brace (λ a u x. given_end a u x))

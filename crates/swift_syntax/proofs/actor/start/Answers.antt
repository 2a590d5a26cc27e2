use Rattle.std.proofs.Common.{[], ◌∷◌, refl, subst, sym}
use Rattle.std.proofs.lemmas.Bool.{false≢true}
use Rattle.swift_syntax.specs.Declarations.{not_started, started}
use Rattle.swift_syntax.specs.Statements.{Row, a_sign}
use Rattle.swift_syntax.specs.declared.sign.Sign.TheVariants as sign
use Rattle.swift_syntax.proofs.Grown.{extends_of}
use Rattle.swift_syntax.proofs.Steps.{lexed_on, takes_one}
use Rattle.swift_syntax.proofs.actor.start.Goals as goal

pub returns-then-takes-clause-spelled : goal.returns-then-takes-clause-spelled
returns-then-takes-clause-spelled c = λ n xs.
    let assign = takes_one c.args.reader.now c.takes.new.self (a_sign sign.Assign) (c.if-takes.ensures.found.0 refl) c.if-takes.ensures.taken in
    let row = subst (λ l. Row l (a_sign sign.Assign ∷ []) c.args.reader.now.at c.takes.new.self.at) (sym (lexed_on _ _ (extends_of c.literal.ensures.grows))) (assign.holds (c.literal.ensures.grows.refused n) []) in
    started row (c.literal.ensures.spelled n xs)

pub returns-else-takes-clause-spelled : goal.returns-else-takes-clause-spelled
returns-else-takes-clause-spelled c = λ n xs. rw c.if-takes.ensures.taken (not_started (λ k. false≢true (c.if-takes.ensures.found.1 k)) refl)

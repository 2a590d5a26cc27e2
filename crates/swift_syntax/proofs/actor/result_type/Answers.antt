use Rattle.std.proofs.Common.{[], ◌∷◌, refl, subst, sym}
use Rattle.std.proofs.lemmas.Bool.{false≢true}
use Rattle.swift_syntax.specs.Declarations.{has_none, has_type}
use Rattle.swift_syntax.specs.Statements.{Row, a_sign}
use Rattle.swift_syntax.specs.declared.sign.Sign.TheVariants as sign
use Rattle.swift_syntax.proofs.Grown.{extends_of}
use Rattle.swift_syntax.proofs.Steps.{lexed_on, takes_one}
use Rattle.swift_syntax.proofs.actor.result_type.Goals as goal

pub returns-then-takes-clause-spelled : goal.returns-then-takes-clause-spelled
returns-then-takes-clause-spelled c = λ n.
    let arrow = takes_one c.args.reader.now c.takes.new.self (a_sign sign.Arrow) (c.if-takes.ensures.found.0 refl) c.if-takes.ensures.taken in
    let row = subst (λ l. Row l (a_sign sign.Arrow ∷ []) c.args.reader.now.at c.takes.new.self.at) (sym (lexed_on _ _ (extends_of c.value_type.ensures.grows))) (arrow.holds (c.value_type.ensures.grows.refused n) []) in
    has_type row (c.value_type.ensures.spelled n)

pub returns-clause-spelled : goal.returns-clause-spelled
returns-clause-spelled c = λ n. rw c.if-takes.ensures.taken (has_none (λ k. false≢true (c.if-takes.ensures.found.1 k)) refl)

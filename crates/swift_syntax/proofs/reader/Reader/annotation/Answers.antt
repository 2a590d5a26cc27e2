use Rattle.std.proofs.Common.{refl, []}
use Rattle.std.proofs.lemmas.Bool.{false≢true}
use Rattle.swift_syntax.specs.Statements.{SpellsType, a_sign}
use Rattle.swift_syntax.specs.Statements as swift
use Rattle.swift_syntax.specs.declared.sign.Sign.TheVariants as sign
use Rattle.swift_syntax.proofs.Steps.{row_then, takes_one, took_lexed}
use Rattle.swift_syntax.proofs.reader.Reader.annotation.Goals as goal

pub returns-then-takes-clause-spelled : goal.returns-then-takes-clause-spelled
returns-then-takes-clause-spelled c = λ n.
    let colon = takes_one c.args.self.now c.takes.new.self (a_sign sign.Colon) (c.if-takes.ensures.found.0 refl) c.if-takes.ensures.taken in
    let type = took_lexed c.takes.new.self c.value_type.new.self (λ l. SpellsType l c.takes.new.self.at c.value_type.new.self.at c.value_type.result) c.value_type.ensures.spelled c.value_type.ensures.grows in
    let both = (row_then _ _ _ colon type).holds n [] in
    swift.typed both.0 both.1

pub returns-else-takes-clause-spelled : goal.returns-else-takes-clause-spelled
returns-else-takes-clause-spelled c = λ n. rw c.if-takes.ensures.taken (swift.no_type (λ k. false≢true (c.if-takes.ensures.found.1 k)) refl)

use Rattle.std.proofs.Common.{[], refl}
use Rattle.swift_syntax.specs.Declarations.{by_constant, by_variable}
use Rattle.swift_syntax.specs.Statements.{a_key}
use Rattle.swift_syntax.specs.declared.word.Word.TheVariants as word
use Rattle.swift_syntax.proofs.Steps.{takes_one, took_key}
use Rattle.swift_syntax.proofs.actor.keeper.Goals as goal

pub returns-then-takes_key-clause-spelled : goal.returns-then-takes_key-clause-spelled
returns-then-takes_key-clause-spelled c = λ n. by_variable ((takes_one c.args.reader.now c.takes_key.new.self (a_key word.Var) (c.if-takes_key.ensures.found.0 refl) c.if-takes_key.ensures.taken).holds n [])

pub returns-clause-spelled : goal.returns-clause-spelled
returns-clause-spelled c = λ n. rw c.if-takes_key.ensures.taken at (by_constant ((took_key c.takes_key.new.self c.key.new.self word.Let c.key.ensures.taken c.key.ensures.grows).holds n []))

use Rattle.std.proofs.Common.{[], refl}
use Rattle.swift_syntax.specs.Declarations.{open_file, open_internal, unsaid_access}
use Rattle.swift_syntax.specs.Statements.{a_key}
use Rattle.swift_syntax.specs.declared.word.Word.TheVariants as word
use Rattle.swift_syntax.proofs.Steps.{takes_one}
use Rattle.swift_syntax.proofs.actor.open_access.Goals as goal

pub returns-then-takes_key-clause-spelled : goal.returns-then-takes_key-clause-spelled
returns-then-takes_key-clause-spelled c = λ n. open_file ((takes_one c.args.reader.now c.takes_key.new.self (a_key word.Fileprivate) (c.if-takes_key.ensures.found.0 refl) c.if-takes_key.ensures.taken).holds n [])

pub returns-then-takes_key-2-clause-spelled : goal.returns-then-takes_key-2-clause-spelled
returns-then-takes_key-2-clause-spelled c = λ n. rw c.if-takes_key.ensures.taken at (open_internal ((takes_one c.takes_key.new.self c.takes_key-2.new.self (a_key word.Internal) (c.if-takes_key-2.ensures.found.0 refl) c.if-takes_key-2.ensures.taken).holds n []))

pub returns-clause-spelled : goal.returns-clause-spelled
returns-clause-spelled c = λ n. rw c.if-takes_key-2.ensures.taken (rw c.if-takes_key.ensures.taken (unsaid_access refl))

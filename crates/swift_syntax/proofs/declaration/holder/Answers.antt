use Rattle.std.proofs.Common.{[], refl}
use Rattle.swift_syntax.specs.Declarations as swift
use Rattle.swift_syntax.specs.Statements.{a_key}
use Rattle.swift_syntax.specs.declared.word.Word.TheVariants as word
use Rattle.swift_syntax.proofs.Grown.{grows_same}
use Rattle.swift_syntax.proofs.Steps.{rows, takes_one, took_key, took_same}
use Rattle.swift_syntax.proofs.declaration.holder.Goals as goal

pub returns-then-takes_key-clause-spelled : goal.returns-then-takes_key-clause-spelled
returns-then-takes_key-clause-spelled c = λ n. swift.by_enum ((takes_one c.args.reader.now c.takes_key.new.self (a_key word.Enum) (c.if-takes_key.ensures.found.0 refl) c.if-takes_key.ensures.taken).holds n [])

pub returns-clause-spelled : goal.returns-clause-spelled
returns-clause-spelled c = λ n.
    let other = took_same c.args.reader.now c.takes_key.new.self (λ m. c.if-takes_key.ensures.taken) (rw c.if-takes_key.ensures.taken (grows_same c.args.reader.now)) in
    let key = took_key c.takes_key.new.self c.key.new.self word.Struct c.key.ensures.taken c.key.ensures.grows in
    swift.by_struct ((rows _ _ _ other key).holds n [])

use Rattle.std.proofs.Common.{[], refl}
use Rattle.swift_syntax.specs.Statements.{SpellsDeclared, a_key}
use Rattle.swift_syntax.specs.Statements as swift
use Rattle.swift_syntax.specs.declared.word.Word.TheVariants as word
use Rattle.swift_syntax.proofs.Grown.{grows_same}
use Rattle.swift_syntax.proofs.Steps.{row_then, rows, takes_one, took_call, took_key, took_same}
use Rattle.swift_syntax.proofs.statement.declared.Goals as goal

pub returns-then-takes_key-clause-spelled : goal.returns-then-takes_key-clause-spelled
returns-then-takes_key-clause-spelled c = λ n.
    let key = takes_one c.args.reader.now c.takes_key.new.self (a_key word.Var) (c.if-takes_key.ensures.found.0 refl) c.if-takes_key.ensures.taken in
    let name = took_call c.takes_key.new.self c.declared_name-name.new.reader (λ l i j. SpellsDeclared l i j c.declared_name-name.result.0 c.declared_name-name.result.1) c.declared_name-name.ensures.spelled c.declared_name-name.ensures.grows in
    let x = (row_then _ _ _ key name).holds n [] in
    swift.by_var x.0 x.1

pub returns-clause-spelled : goal.returns-clause-spelled
returns-clause-spelled c = λ n.
    let other = took_same c.args.reader.now c.takes_key.new.self (λ m. c.if-takes_key.ensures.taken) (rw c.if-takes_key.ensures.taken (grows_same c.args.reader.now)) in
    let key = took_key c.takes_key.new.self c.key.new.self word.Let c.key.ensures.taken c.key.ensures.grows in
    let name = took_call c.key.new.self c.declared_name-name-2.new.reader (λ l i j. SpellsDeclared l i j c.declared_name-name-2.result.0 c.declared_name-name-2.result.1) c.declared_name-name-2.ensures.spelled c.declared_name-name-2.ensures.grows in
    let x = (row_then _ _ _ (rows _ _ _ other key) name).holds n [] in
    swift.by_let x.0 x.1

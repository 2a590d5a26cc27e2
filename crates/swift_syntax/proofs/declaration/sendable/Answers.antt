use Rattle.std.proofs.Common.{[], codes, refl}
use Rattle.std.proofs.lemmas.Bool.{false≢true}
use Rattle.swift_syntax.specs.Declarations as swift
use Rattle.swift_syntax.specs.Statements.{a_sign}
use Rattle.swift_syntax.specs.declared.sign.Sign.TheVariants as sign
use Rattle.swift_syntax.proofs.Steps.{rows, takes_one, took_sign, took_word}
use Rattle.swift_syntax.proofs.declaration.sendable.Goals as goal

pub returns-then-takes-clause-spelled : goal.returns-then-takes-clause-spelled
returns-then-takes-clause-spelled c = λ n.
    let comma = takes_one c.args.reader.now c.takes.new.self (a_sign sign.Comma) (c.if-takes.ensures.found.0 refl) c.if-takes.ensures.taken in
    let at = took_sign c.takes.new.self c.sign.new.self sign.At c.sign.ensures.taken c.sign.ensures.grows in
    let word = took_word c.sign.new.self c.word.new.self (codes "unchecked") c.word.ensures.taken c.word.ensures.grows in
    let sent = took_word c.word.new.self c.word-then-takes.new.self (codes "Sendable") c.word-then-takes.ensures.taken c.word-then-takes.ensures.grows in
    swift.unchecked ((rows _ _ _ comma (rows _ _ _ at (rows _ _ _ word sent))).holds n [])

pub returns-else-takes-clause-spelled : goal.returns-else-takes-clause-spelled
returns-else-takes-clause-spelled c = λ n. rw c.if-takes.ensures.taken (swift.unsaid_sendable (λ k. false≢true (c.if-takes.ensures.found.1 k)) refl)

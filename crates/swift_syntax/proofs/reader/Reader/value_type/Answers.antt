use Rattle.std.proofs.Common.{refl, sym, codes, []}
use Rattle.swift_syntax.specs.Statements.{a_sign, the_word}
use Rattle.swift_syntax.specs.Statements as swift
use Rattle.swift_syntax.specs.declared.sign.Sign.TheVariants as sign
use Rattle.swift_syntax.proofs.Steps.{rows, takes_one, took_sign}
use Rattle.swift_syntax.proofs.reader.Reader.value_type.Goals as goal

pub returns-then-takes_word-clause-spelled : goal.returns-then-takes_word-clause-spelled
returns-then-takes_word-clause-spelled c = λ n. swift.int ((takes_one c.args.self.now c.takes_word.new.self (the_word (codes "Int")) (sym c.if-takes_word.ensures.found) c.if-takes_word.ensures.taken).holds n [])

pub returns-then-takes_word-2-clause-spelled : goal.returns-then-takes_word-2-clause-spelled
returns-then-takes_word-2-clause-spelled c = λ n. rw c.if-takes_word.ensures.taken at (swift.bool ((takes_one c.takes_word.new.self c.takes_word-2.new.self (the_word (codes "Bool")) (sym c.if-takes_word-2.ensures.found) c.if-takes_word-2.ensures.taken).holds n []))

pub returns-then-takes_word-3-clause-spelled : goal.returns-then-takes_word-3-clause-spelled
returns-then-takes_word-3-clause-spelled c = λ n. rw c.if-takes_word.ensures.taken at (rw c.if-takes_word-2.ensures.taken at (swift.void ((takes_one c.takes_word-2.new.self c.takes_word-3.new.self (the_word (codes "Void")) (sym c.if-takes_word-3.ensures.found) c.if-takes_word-3.ensures.taken).holds n [])))

pub returns-then-takes-clause-spelled : goal.returns-then-takes-clause-spelled
returns-then-takes-clause-spelled c = λ n.
    let opened = takes_one c.takes_word-3.new.self c.takes.new.self (a_sign sign.Open) (c.if-takes.ensures.found.0 refl) c.if-takes.ensures.taken in
    let closed = took_sign c.takes.new.self c.sign.new.self sign.Close c.sign.ensures.taken c.sign.ensures.grows in
    rw c.if-takes_word.ensures.taken at (rw c.if-takes_word-2.ensures.taken at (rw c.if-takes_word-3.ensures.taken at (swift.unit ((rows _ _ _ opened closed).holds n []))))

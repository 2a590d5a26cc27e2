use Rattle.std.proofs.Common.{refl, []}
use Rattle.swift_syntax.specs.Statements as swift
use Rattle.swift_syntax.specs.Statements.{a_sign}
use Rattle.swift_syntax.specs.declared.sign.Sign.TheVariants as sign
use Rattle.swift_syntax.proofs.Grown.{grows_same}
use Rattle.swift_syntax.proofs.Steps.{rows, takes_one, took_same, took_sign}
use Rattle.swift_syntax.proofs.statement.range.Goals as goal

pub returns-then-takes-clause-spelled : goal.returns-then-takes-clause-spelled
returns-then-takes-clause-spelled c = λ n.
    let even = took_same c.args.reader.now c.want_even.new.reader c.want_even.ensures.same c.want_even.ensures.grows in
    let through = takes_one c.want_even.new.reader c.takes.new.self (a_sign sign.Through) (c.if-takes.ensures.found.0 refl) c.if-takes.ensures.taken in
    swift.through ((rows _ _ _ even through).holds n [])

pub returns-clause-spelled : goal.returns-clause-spelled
returns-clause-spelled c = λ n.
    let even = took_same c.args.reader.now c.want_even.new.reader c.want_even.ensures.same c.want_even.ensures.grows in
    let other = took_same c.want_even.new.reader c.takes.new.self (λ m. c.if-takes.ensures.taken) (rw c.if-takes.ensures.taken (grows_same c.want_even.new.reader)) in
    let below = took_sign c.takes.new.self c.sign.new.self sign.Below c.sign.ensures.taken c.sign.ensures.grows in
    swift.below ((rows _ _ _ even (rows _ _ _ other below)).holds n [])

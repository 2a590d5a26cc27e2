use Rattle.std.proofs.Common.{[], codes, sym, ◌∙◌, ◌≡◌, rules, w64, to_z, of_z}
use Rattle.swift_syntax.specs.Declarations as swift
use Rattle.swift_syntax.specs.Statements.{the_word}
use Rattle.swift_syntax.proofs.Grown.{grows_same}
use Rattle.swift_syntax.proofs.Steps.{rows, takes_one, took_same, took_word}
use Rattle.swift_syntax.proofs.declaration.kind.Goals as goal

pub returns-then-takes_word-clause-spelled : goal.returns-then-takes_word-clause-spelled
returns-then-takes_word-clause-spelled c = λ n. swift.kind_fifo ((takes_one c.args.reader.now c.takes_word.new.self (the_word (codes "fifo")) (sym c.if-takes_word.ensures.found) c.if-takes_word.ensures.taken).holds n [])

pub returns-then-takes_word-2-clause-spelled : goal.returns-then-takes_word-2-clause-spelled
returns-then-takes_word-2-clause-spelled c = λ n.
    let other = took_same c.args.reader.now c.takes_word.new.self (λ m. c.if-takes_word.ensures.taken) (rw c.if-takes_word.ensures.taken (grows_same c.args.reader.now)) in
    let word = takes_one c.takes_word.new.self c.takes_word-2.new.self (the_word (codes "priority")) (sym c.if-takes_word-2.ensures.found) c.if-takes_word-2.ensures.taken in
    swift.kind_priority ((rows _ _ _ other word).holds n [])

pub returns-in-Number-clause-spelled : goal.returns-in-Number-clause-spelled
returns-in-Number-clause-spelled c = λ n.
    let other = took_same c.args.reader.now c.takes_word.new.self (λ m. c.if-takes_word.ensures.taken) (rw c.if-takes_word.ensures.taken (grows_same c.args.reader.now)) in
    let another = took_same c.takes_word.new.self c.takes_word-2.new.self (λ m. c.if-takes_word-2.ensures.taken) (rw c.if-takes_word-2.ensures.taken (grows_same c.takes_word.new.self)) in
    let word = took_word c.takes_word-2.new.self c.word.new.self (codes "pinned") c.word.ensures.taken c.word.ensures.grows in
    let fits : to_z w64 (of_z w64 c.in-Number.number) ≡ c.in-Number.number = search rules in
    rw (c.take.ensures.taken, fits) (swift.kind_pinned ((rows _ _ _ other (rows _ _ _ another word)).holds (rw c.take.ensures.taken at n) []) (sym c.here.ensures.kind ∙ c.in-Number.is))

use Rattle.std.proofs.Common.{codes, refl}
use Rattle.swift_syntax.specs.Statements.{SpellsPriority, a_sign}
use Rattle.swift_syntax.specs.Statements as swift
use Rattle.swift_syntax.specs.declared.sign.Sign.TheVariants as sign
use Rattle.swift_syntax.proofs.Grown.{grows_same}
use Rattle.swift_syntax.proofs.Steps.{adds_of, row_then, rows, takes_one, took_as, took_call, took_same, took_word}
use Rattle.swift_syntax.proofs.closure.task_head.Goals as goal

pub returns-then-takes-clause-spelled : goal.returns-then-takes-clause-spelled
returns-then-takes-clause-spelled c = λ n.
    let task = took_word c.args.reader.now c.word.new.self (codes "Task") c.word.ensures.taken c.word.ensures.grows in
    let dot = takes_one c.word.new.self c.takes.new.self (a_sign sign.Dot) (c.if-takes.ensures.found.0 refl) c.if-takes.ensures.taken in
    let word = took_word c.takes.new.self c.word-then-takes.new.self (codes "detached") c.word-then-takes.ensures.taken c.word-then-takes.ensures.grows in
    let urgent = took_call c.word-then-takes.new.self c.priority.new.reader (λ l i j. SpellsPriority l i j c.priority.result) c.priority.ensures.spelled c.priority.ensures.grows in
    adds_of _ _ (took_as (λ a x. swift.detached x.0 x.1) (row_then _ _ _ (rows _ _ _ task (rows _ _ _ dot word)) urgent)) n

pub returns-clause-spelled : goal.returns-clause-spelled
returns-clause-spelled c = λ n.
    let task = took_word c.args.reader.now c.word.new.self (codes "Task") c.word.ensures.taken c.word.ensures.grows in
    let none = took_same c.word.new.self c.takes.new.self (λ m. c.if-takes.ensures.taken) (rw c.if-takes.ensures.taken (grows_same c.word.new.self)) in
    let urgent = took_call c.takes.new.self c.priority-2.new.reader (λ l i j. SpellsPriority l i j c.priority-2.result) c.priority-2.ensures.spelled c.priority-2.ensures.grows in
    adds_of _ _ (took_as (λ a x. swift.task x.0 x.1) (row_then _ _ _ (rows _ _ _ task none) urgent)) n

use Rattle.std.proofs.Common.{codes}
use Rattle.swift_syntax.specs.Statements.{SpellsGroup}
use Rattle.swift_syntax.specs.Statements as swift
use Rattle.swift_syntax.proofs.Steps.{adds_of, row_then, took_as, took_call, took_word}
use Rattle.swift_syntax.proofs.closure.group_head.Goals as goal

pub returns-then-is_word-clause-spelled : goal.returns-then-is_word-clause-spelled
returns-then-is_word-clause-spelled c = λ n.
    let word = took_word c.args.reader.now c.word.new.self (codes "withThrowingTaskGroup") c.word.ensures.taken c.word.ensures.grows in
    let type = took_call c.word.new.self c.group_type.new.reader (λ l i j. SpellsGroup l i j c.group_type.result) c.group_type.ensures.spelled c.group_type.ensures.grows in
    adds_of _ _ (took_as (λ a x. swift.throwing_group x.0 x.1) (row_then _ _ _ word type)) n

pub returns-clause-spelled : goal.returns-clause-spelled
returns-clause-spelled c = λ n.
    let word = took_word c.args.reader.now c.word-2.new.self (codes "withTaskGroup") c.word-2.ensures.taken c.word-2.ensures.grows in
    let type = took_call c.word-2.new.self c.group_type-2.new.reader (λ l i j. SpellsGroup l i j c.group_type-2.result) c.group_type-2.ensures.spelled c.group_type-2.ensures.grows in
    adds_of _ _ (took_as (λ a x. swift.group x.0 x.1) (row_then _ _ _ word type)) n

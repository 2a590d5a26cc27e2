use Rattle.std.proofs.Common.{codes}
use Rattle.swift_syntax.specs.Statements.{SpellsPriority}
use Rattle.swift_syntax.specs.Statements as swift
use Rattle.swift_syntax.specs.declared.sign.Sign.TheVariants as sign
use Rattle.swift_syntax.proofs.Steps.{adds_of, row_then, rows, took_as, took_lexed, took_name, took_sign, took_word}
use Rattle.swift_syntax.proofs.closure.add_head.Goals as goal

pub returns-then-is_word-clause-spelled : goal.returns-then-is_word-clause-spelled
returns-then-is_word-clause-spelled c = λ n.
    let name = took_name c.args.reader.now c.name.new.self c.name.ensures.taken c.name.ensures.grows in
    let dot = took_sign c.name.new.self c.sign.new.self sign.Dot c.sign.ensures.taken c.sign.ensures.grows in
    let word = took_word c.sign.new.self c.word.new.self (codes "addTaskUnlessCancelled") c.word.ensures.taken c.word.ensures.grows in
    let urgent = took_lexed c.word.new.self c.priority.new.reader (λ l. SpellsPriority l c.word.new.self.at c.priority.new.reader.at c.priority.result) c.priority.ensures.spelled c.priority.ensures.grows in
    adds_of _ _ (took_as (λ a x. swift.add_only x.0 x.1.0 x.1.1) (row_then _ _ _ (rows _ _ _ name dot) (row_then _ _ _ word urgent))) n

pub returns-clause-spelled : goal.returns-clause-spelled
returns-clause-spelled c = λ n.
    let name = took_name c.args.reader.now c.name.new.self c.name.ensures.taken c.name.ensures.grows in
    let dot = took_sign c.name.new.self c.sign.new.self sign.Dot c.sign.ensures.taken c.sign.ensures.grows in
    let word = took_word c.sign.new.self c.word-2.new.self (codes "addTask") c.word-2.ensures.taken c.word-2.ensures.grows in
    let urgent = took_lexed c.word-2.new.self c.priority-2.new.reader (λ l. SpellsPriority l c.word-2.new.self.at c.priority-2.new.reader.at c.priority-2.result) c.priority-2.ensures.spelled c.priority-2.ensures.grows in
    adds_of _ _ (took_as (λ a x. swift.add x.0 x.1.0 x.1.1) (row_then _ _ _ (rows _ _ _ name dot) (row_then _ _ _ word urgent))) n

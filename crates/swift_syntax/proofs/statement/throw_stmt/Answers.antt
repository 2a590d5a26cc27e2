use Rattle.swift_syntax.specs.Statements as swift
use Rattle.swift_syntax.specs.declared.word.Word.TheVariants as word
use Rattle.swift_syntax.proofs.Grown.{extends_of, extends_on}
use Rattle.swift_syntax.proofs.Steps.{line_stays, row_on, row_then, stmt_read, then, took_expr, took_key, took_line, took_stmt}
use Rattle.swift_syntax.proofs.statement.throw_stmt.Goals as goal

pub returns : goal.returns
returns c =
    let key = took_key c.args.reader.now c.key.new.self word.Throw c.key.ensures.taken c.key.ensures.grows in
    let line = took_line c.key.new.self c.on_line.new.self c.on_line.ensures.same c.on_line.ensures.line c.on_line.ensures.grows in
    let value = took_expr c.on_line.new.self c.expression-value.new.reader c.expression-value.result c.expression-value.ensures.spelled c.expression-value.ensures.grows in
    let all = row_then _ _ _ key (then _ _ _ (line_stays c.key.new.self.at c.on_line.new.self.at) line value) in
    let read = took_stmt c.args.reader.now c.expression-value.new.reader (λ a x. swift.thrown (row_on a.lexed x.0 x.1.0.0) x.1.0.1 x.1.1) all in
    record { spelled = stmt_read _ _ _ read c.stmt.ensures.put c.stmt.ensures.extends; extends = extends_on (extends_of all.grows) c.stmt.ensures.extends }

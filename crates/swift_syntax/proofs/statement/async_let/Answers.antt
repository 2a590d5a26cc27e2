use Rattle.std.proofs.Common.{IsNone, false, subst}
use Rattle.swift_syntax.specs.ReadersInside.{IsStmtPut}
use Rattle.swift_syntax.specs.Statements.{SpellsAnnotation}
use Rattle.swift_syntax.specs.Statements as swift
use Rattle.swift_syntax.specs.declared.sign.Sign.TheVariants as sign
use Rattle.swift_syntax.specs.declared.tree.StmtForm.TheVariants as form
use Rattle.swift_syntax.specs.declared.word.Word.TheVariants as word
use Rattle.swift_syntax.proofs.Grown.{extends_of, extends_on}
use Rattle.swift_syntax.proofs.Statements.{lexed_stays}
use Rattle.swift_syntax.proofs.Steps.{row_then, rows, stmt_read, then, took_call, took_expr, took_key, took_name, took_same, took_sign, took_stmt}
use Rattle.swift_syntax.proofs.statement.async_let.Goals as goal

pub returns : goal.returns
returns c =
    let key = took_key c.args.reader.now c.key.new.self word.Async c.key.ensures.taken c.key.ensures.grows in
    let second = took_key c.key.new.self c.key-2.new.self word.Let c.key-2.ensures.taken c.key-2.ensures.grows in
    let name = took_name c.key-2.new.self c.name-name.new.self c.name-name.ensures.taken c.name-name.ensures.grows in
    let type = took_call c.name-name.new.self c.annotation-found.new.self (λ l i j. SpellsAnnotation l i j c.annotation-found.result) c.annotation-found.ensures.spelled c.annotation-found.ensures.grows in
    let even = took_same c.annotation-found.new.self c.want_even.new.reader c.want_even.ensures.same c.want_even.ensures.grows in
    let assign = took_sign c.want_even.new.reader c.sign.new.self sign.Assign c.sign.ensures.taken c.sign.ensures.grows in
    let value = took_expr c.sign.new.self c.expression-value.new.reader c.expression-value.result c.expression-value.ensures.spelled c.expression-value.ensures.grows in
    let behind = then _ _ _ (lexed_stays (λ l. SpellsAnnotation l c.name-name.new.self.at c.annotation-found.new.self.at c.annotation-found.result)) type (row_then _ _ _ (rows _ _ _ even assign) value) in
    let all = row_then _ _ _ (rows _ _ _ key second) (row_then _ _ _ name behind) in
    let read = took_stmt c.args.reader.now c.expression-value.new.reader (λ a x. swift.async_let x.0 (swift.declared x.1.0 x.1.1.0 x.1.1.1.0) x.1.1.1.1) all in
    record {
      spelled = λ n b.
          let place = c.name-name.ensures.taken (behind.grows.refused (c.stmt.ensures.extends.refused n)) in
          let put = λ (m : IsNone c.stmt.new.self.refused). subst (λ t. IsStmtPut c.expression-value.new.reader c.stmt.new.self (record { form = form.AsyncLet c.annotation-found.result c.expression-value.result; token = t; end = c.expression-value.new.reader.at; next = 0; is_awaited = false; is_tried = false }) c.stmt.result) place.1 (c.stmt.ensures.put m) in
          stmt_read _ _ _ read put c.stmt.ensures.extends n b;
      extends = extends_on (extends_of all.grows) c.stmt.ensures.extends;
    }

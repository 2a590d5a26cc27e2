use Rattle.std.proofs.Common.{◌≡◌, ◌∙◌, Some, codes, rules, subst, sym}
use Rattle.swift_syntax.specs.Expressions.{after, kind_at}
use Rattle.swift_syntax.specs.Statements.{SpellsTarget, assigning_in}
use Rattle.swift_syntax.specs.Statements as swift
use Rattle.swift_syntax.specs.declared.sign.Sign.TheVariants as sign
use Rattle.swift_syntax.proofs.Grown.{grows_same}
use Rattle.swift_syntax.proofs.Statements.{lexed_stays}
use Rattle.swift_syntax.proofs.Steps.{no_row, row_then, rows, stmt_read, then, told_by, took_assigning, took_expr, took_lexed, took_name, took_none, took_sign, took_stmt, took_word}
use Rattle.swift_syntax.proofs.statement.changed.Goals as goal

pub returns-in-Some-clause-spelled : goal.returns-in-Some-clause-spelled
returns-in-Some-clause-spelled c = λ n b i target.
    let next : after c.args.reader.now.at ≡ c.saturating_add-next.result = search rules in
    let how_is : assigning_in (kind_at c.args.reader.now.tokens.now (after c.args.reader.now.at)) ≡ Some c.in-Some.how = subst (λ p. assigning_in (kind_at c.args.reader.now.tokens.now p) ≡ Some c.in-Some.how) (sym next) (sym c.in-Some.ensures) in
    let before = took_lexed c.args.reader.now c.args.reader.now (λ l. SpellsTarget l i c.args.reader.now.at c.args.is_own) (λ m. target) (grows_same c.args.reader.now) in
    let name = took_name c.args.reader.now c.name-name.new.self c.name-name.ensures.taken c.name-name.ensures.grows in
    let how = took_assigning c.args.reader.now c.name-name.new.self c.want_even.new.reader c.take.new.self (λ m. (c.name-name.ensures.taken m).2) c.name-name.ensures.grows c.want_even.ensures.same c.want_even.ensures.grows c.take.ensures.taken how_is in
    let none = took_none c.take.new.self c.begins_closure.new.reader c.if-begins_closure.ensures.back c.if-begins_closure.ensures.grows in
    let value = took_expr c.begins_closure.new.reader c.expression-value.new.reader c.expression-value.result c.expression-value.ensures.spelled c.expression-value.ensures.grows in
    let assigned = then _ _ _ (lexed_stays (λ l. (assigning_in (kind_at l.tokens c.name-name.new.self.at) ≡ Some c.in-Some.how) × (after c.name-name.new.self.at ≡ c.take.new.self.at))) how (row_then _ _ _ none value) in
    let all = then _ _ _ (lexed_stays (λ l. SpellsTarget l i c.args.reader.now.at c.args.is_own)) before (row_then _ _ _ name assigned) in
    let read = took_stmt c.args.reader.now c.expression-value.new.reader (λ a x. swift.assigned x.0 x.1.0 x.1.1.0.0 (x.1.1.0.1 ∙ no_row a.lexed x.1.1.1.0) x.1.1.1.1) all in
    let own = c.name-name.ensures.taken (assigned.grows.refused (c.stmt.ensures.extends.refused n)) in
    stmt_read _ _ _ read (λ m. told_by _ _ own.1 (c.stmt.ensures.put m)) c.stmt.ensures.extends n b

pub returns-then-is_sign_ahead-clause-spelled : goal.returns-then-is_sign_ahead-clause-spelled
returns-then-is_sign_ahead-clause-spelled c = λ n b i target.
    let before = took_lexed c.args.reader.now c.args.reader.now (λ l. SpellsTarget l i c.args.reader.now.at c.args.is_own) (λ m. target) (grows_same c.args.reader.now) in
    let name = took_name c.args.reader.now c.name-name-then-is_sign_ahead.new.self c.name-name-then-is_sign_ahead.ensures.taken c.name-name-then-is_sign_ahead.ensures.grows in
    let dot = took_sign c.name-name-then-is_sign_ahead.new.self c.sign.new.self sign.Dot c.sign.ensures.taken c.sign.ensures.grows in
    let word = took_word c.sign.new.self c.word.new.self (codes "toggle") c.word.ensures.taken c.word.ensures.grows in
    let opened = took_sign c.word.new.self c.sign-then-is_sign_ahead.new.self sign.Open c.sign-then-is_sign_ahead.ensures.taken c.sign-then-is_sign_ahead.ensures.grows in
    let closed = took_sign c.sign-then-is_sign_ahead.new.self c.sign-then-is_sign_ahead-2.new.self sign.Close c.sign-then-is_sign_ahead-2.ensures.taken c.sign-then-is_sign_ahead-2.ensures.grows in
    let behind = rows _ _ _ dot (rows _ _ _ word (rows _ _ _ opened closed)) in
    let all = then _ _ _ (lexed_stays (λ l. SpellsTarget l i c.args.reader.now.at c.args.is_own)) before (rows _ _ _ name behind) in
    let read = took_stmt c.args.reader.now c.sign-then-is_sign_ahead-2.new.self (λ a x. swift.toggled x.0 x.1) all in
    let own = c.name-name-then-is_sign_ahead.ensures.taken (behind.grows.refused (c.stmt-then-is_sign_ahead.ensures.extends.refused n)) in
    stmt_read _ _ _ read (λ m. told_by _ _ own.1 (c.stmt-then-is_sign_ahead.ensures.put m)) c.stmt-then-is_sign_ahead.ensures.extends n b

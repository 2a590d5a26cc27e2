use Rattle.std.proofs.Common.{[], ◌≡◌, ◌∷◌, IsNone, ap, false, true, refl, subst, sym, ◌∙◌}
use Rattle.std.proofs.lemmas.Bool.{false≢true}
use Rattle.swift_syntax.specs.Expressions.{kind_at}
use Rattle.swift_syntax.specs.ReadersInside.{Extends, lexed_of}
use Rattle.swift_syntax.specs.Statements.{Row, SpellsElse, SpellsFront, SpellsInto, SpellsNext, SpellsPerhaps, SpellsRange, a_key, a_sign, ends_return}
use Rattle.swift_syntax.specs.Statements as swift
use Rattle.swift_syntax.specs.declared.sign.Sign.TheVariants as sign
use Rattle.swift_syntax.specs.declared.tree.StmtForm.TheVariants as form
use Rattle.swift_syntax.specs.declared.word.Word.TheVariants as word
use Rattle.swift_syntax.proofs.Chains.{Chain, chain_begins, chain_closes, chain_follows, chain_skips, else_read}
use Rattle.swift_syntax.proofs.Grown.{extends_of, extends_on, grows_same}
use Rattle.swift_syntax.proofs.Refused.{grows_taken}
use Rattle.swift_syntax.proofs.Statements.{front_stays, block_stays, covered_stays, lexed_stays, sum_stays, test_stays}
use Rattle.swift_syntax.proofs.Steps.{Took, adds_of, also, begun_behind, formed_by, no_row, read_behind, row_also, row_then, rows, step_as, step_call, step_of, stmt_of, stmt_read, takes_one, test_read, then, told_by, took_call, took_expr, took_key, took_lexed, took_name, took_perhaps, took_same, took_sign, took_stmt, took_sum}
use Rattle.swift_syntax.proofs.statement.+statement.Goals as goal

pub valued-returns-in_default-clause-spelled : goal.valued-returns-in_default-clause-spelled
valued-returns-in_default-clause-spelled t c = λ n b into.
    let before = took_lexed c.args.reader.now c.args.reader.now (λ l. SpellsInto l c.args.token c.args.reader.now.at c.args.into) (λ m. into) (grows_same c.args.reader.now) in
    let none = took_same c.args.reader.now c.head.new.reader (λ m. c.in_default.ensures.same) c.in_default.ensures.grows in
    let value = took_expr c.head.new.reader c.expression-value.new.reader c.expression-value.result c.expression-value.ensures.spelled c.expression-value.ensures.grows in
    let all = then _ _ _ (lexed_stays (λ l. SpellsInto l c.args.token c.args.reader.now.at c.args.into)) before (row_then _ _ _ none value) in
    let read = took_stmt c.args.reader.now c.expression-value.new.reader (λ a x. swift.valued (subst (λ j. SpellsInto a.lexed c.args.token j c.args.into) (no_row a.lexed x.1.0) x.0) x.1.1) all in
    stmt_read _ _ _ read (λ m. told_by _ _ c.token_of.ensures (c.stmt.ensures.put m)) c.stmt.ensures.extends n b

pub valued-returns-clause-spelled : goal.valued-returns-clause-spelled
valued-returns-clause-spelled t c = λ n b into.
    let before = took_lexed c.args.reader.now c.args.reader.now (λ l. SpellsInto l c.args.token c.args.reader.now.at c.args.into) (λ m. into) (grows_same c.args.reader.now) in
    let covered = step_call c.args.reader.now c.head.new.reader (λ m x. c.in-Some.ensures.spelled m) (extends_of c.in-Some.ensures.grows) in
    let closed = c.closure_front-closure.result in
    let front : Took c.head.new.reader c.closure_front-closure.new.reader (λ a. SpellsFront a c.head.new.reader.at c.closure_front-closure.new.reader.at closed.captures closed.parameter) = record { grows = c.closure_front-closure.ensures.grows; holds = c.closure_front-closure.ensures.spelled } in
    let rest = step_call c.closure_front-closure.new.reader c.statements.new.reader c.statements.ensures.spelled c.statements.ensures.extends in
    let all = also _ _ _ (lexed_stays (λ l. SpellsInto l c.args.token c.args.reader.now.at c.args.into)) (step_of _ _ before) (also _ _ _ (λ a z m. covered_stays a z m) covered (also _ _ _ (front_stays c.head.new.reader.at c.closure_front-closure.new.reader.at closed.captures closed.parameter) (step_of _ _ front) rest)) in
    stmt_read _ _ _ (stmt_of c.args.reader.now c.statements.new.reader (λ a x. swift.enclosed x.0 x.1.0 x.1.1.0 x.1.1.1) all) c.finish.ensures.put c.finish.ensures.extends n b

pub tested-returns-then-takes_key-clause-spelled : goal.tested-returns-then-takes_key-clause-spelled
tested-returns-then-takes_key-clause-spelled t c =
    let key = takes_one c.args.reader.now c.takes_key.new.self (a_key word.Guard) (c.if-takes_key.ensures.found.0 refl) c.if-takes_key.ensures.taken in
    let test = test_read c.takes_key.new.self c.test-test.new.reader c.test-test.ensures.spelled c.test-test.ensures.grows in
    let other = took_key c.test-test.new.reader c.key.new.self word.Else c.key.ensures.taken c.key.ensures.grows in
    let body = step_call c.key.new.self c.block-body.new.reader c.block-body.ensures.spelled c.block-body.ensures.extends in
    let all = row_also _ _ _ key (also _ _ _ (test_stays _ _ _) test (row_also _ _ _ other body)) in
    stmt_read _ _ _ (stmt_of _ _ (λ a x. swift.guard x.0 x.1.0 x.1.1.0 x.1.1.1) all) c.stmt.ensures.put c.stmt.ensures.extends

pub tested-returns-then-is_key-clause-spelled : goal.tested-returns-then-is_key-clause-spelled
tested-returns-then-is_key-clause-spelled t c =
    let other = took_same c.args.reader.now c.takes_key.new.self (λ m. c.if-takes_key.ensures.taken) (rw c.if-takes_key.ensures.taken (grows_same c.args.reader.now)) in
    let key = took_key c.takes_key.new.self c.key-2.new.self word.While c.key-2.ensures.taken c.key-2.ensures.grows in
    let next = took_call c.key-2.new.self c.next_of-name.new.reader (λ l i j. SpellsNext l i j c.next_of-name.result.0 c.next_of-name.result.1 c.next_of-name.result.2) c.next_of-name.ensures.spelled c.next_of-name.ensures.grows in
    let body = step_call c.next_of-name.new.reader c.block-body-then-is_key.new.reader c.block-body-then-is_key.ensures.spelled c.block-body-then-is_key.ensures.extends in
    let all = row_also _ _ _ (rows _ _ _ other key) (also _ _ _ (lexed_stays (λ l. SpellsNext l c.key-2.new.self.at c.next_of-name.new.reader.at c.next_of-name.result.0 c.next_of-name.result.1 c.next_of-name.result.2)) (step_of _ _ next) body) in
    stmt_read _ _ _ (stmt_of _ _ (λ a x. swift.while_next x.0 x.1.0 x.1.1) all) c.stmt-then-is_key.ensures.put c.stmt-then-is_key.ensures.extends

pub tested-returns-clause-spelled : goal.tested-returns-clause-spelled
tested-returns-clause-spelled t c =
    let other = took_same c.args.reader.now c.takes_key.new.self (λ m. c.if-takes_key.ensures.taken) (rw c.if-takes_key.ensures.taken (grows_same c.args.reader.now)) in
    let key = took_key c.takes_key.new.self c.key-2.new.self word.While c.key-2.ensures.taken c.key-2.ensures.grows in
    let test = test_read c.key-2.new.self c.test-test-2.new.reader c.test-test-2.ensures.spelled c.test-test-2.ensures.grows in
    let body = step_call c.test-test-2.new.reader c.block-body-2.new.reader c.block-body-2.ensures.spelled c.block-body-2.ensures.extends in
    let all = row_also _ _ _ (rows _ _ _ other key) (also _ _ _ (test_stays _ _ _) test body) in
    stmt_read _ _ _ (stmt_of _ _ (λ a x. swift.while_test x.0 x.1.0 x.1.1) all) c.stmt-2.ensures.put c.stmt-2.ensures.extends

pub returned-returns-then-goes_on-clause-spelled : goal.returned-returns-then-goes_on-clause-spelled
returned-returns-then-goes_on-clause-spelled t c = λ n b.
    let key = took_key c.args.reader.now c.key.new.self word.Return c.key.ensures.taken c.key.ensures.grows in
    let same = took_same c.key.new.self c.goes_on.new.reader c.goes_on.ensures.same c.goes_on.ensures.grows in
    let both = rows _ _ _ key same in
    let n_on = c.valued.ensures.extends.refused n in
    let line = subst (λ x. swift.begins_line (lexed_of x) x.at ≡ false) (sym (c.goes_on.ensures.same n_on)) (c.if-goes_on.ensures.line refl) in
    read_behind _ _ _ both.grows (c.valued.ensures.spelled n (begun_behind _ _ both.grows b) (swift.by_return (both.holds n_on []) line))

pub returned-returns-else-goes_on-clause-spelled : goal.returned-returns-else-goes_on-clause-spelled
returned-returns-else-goes_on-clause-spelled t c =
    let key = took_key c.args.reader.now c.key.new.self word.Return c.key.ensures.taken c.key.ensures.grows in
    let same = took_same c.key.new.self c.goes_on.new.reader c.goes_on.ensures.same c.goes_on.ensures.grows in
    let both = rows _ _ _ key same in
    let ends : Took c.args.reader.now c.goes_on.new.reader (λ a. Row a.lexed (a_key word.Return ∷ []) c.args.reader.now.at c.goes_on.new.reader.at × (ends_return (kind_at a.lexed.tokens c.goes_on.new.reader.at) ≡ true)) =
    record { grows = both.grows; holds = λ m xs. (both.holds m xs, subst (λ x. ends_return (kind_at x.tokens.now x.at) ≡ true) (sym (c.goes_on.ensures.same m)) (c.if-goes_on.ensures.ends m refl)) } in
    stmt_read _ _ _ (took_stmt c.args.reader.now c.goes_on.new.reader (λ a x. swift.returned x.0 x.1) ends) c.stmt.ensures.put c.stmt.ensures.extends

pub statements-loop-init : goal.statements-loop-init
statements-loop-init t c = record { extends = extends_of (grows_same c.args.reader.now); chain = λ n b. chain_begins c.args.reader.now }

pub statements-loop-preserved-then-takes : goal.statements-loop-preserved-then-takes
statements-loop-preserved-then-takes t c =
    let semicolon = takes_one c.loop.reader c.takes.new.self (a_sign sign.Semicolon) (c.if-takes.ensures.found.0 refl) c.if-takes.ensures.taken in
    record {
      extends = extends_on c.loop.invariant.extends (extends_of semicolon.grows);
      chain = λ n b. chain_skips (c.loop.invariant.chain (semicolon.grows.refused n) b) semicolon.grows (semicolon.holds n []);
    }

pub statements-loop-preserved : goal.statements-loop-preserved
statements-loop-preserved t c =
    let same : c.takes-in-loop.new.self ≡ c.loop.reader = c.if-takes-2.ensures.taken ∙ c.if-takes.ensures.taken in
    let read = subst (λ s. Extends s c.statement-place.new.reader) same c.statement-place.ensures.extends in
    let rest = extends_on (extends_of c.separator.ensures.grows) c.follow-first.ensures.extends in
    record {
      extends = extends_on c.loop.invariant.extends (extends_on read rest);
      chain = λ n b.
          let n_between = c.follow-first.ensures.extends.refused n in
          let n_read = c.separator.ensures.grows.refused n_between in
          let chain = subst (λ s. Chain c.args.reader.now s c.loop.first c.loop.last) (sym same) (c.loop.invariant.chain (read.refused n_read) b) in
          chain_follows chain b c.statement-place.ensures.extends (c.statement-place.ensures.spelled n_read) c.separator.ensures.grows (c.separator.ensures.spelled n_between) c.follow-first.ensures.begins c.follow-first.ensures.links c.follow-first.ensures.extends;
    }

pub statements-returns-then-takes-2-clause-spelled : goal.statements-returns-then-takes-2-clause-spelled
statements-returns-then-takes-2-clause-spelled t c = λ n b.
    let closed = takes_one c.takes.new.self c.takes-in-loop.new.self (a_sign sign.CloseBrace) (c.if-takes-2.ensures.found.0 refl) c.if-takes-2.ensures.taken in
    let n_loop = subst (λ s. IsNone s.refused) c.if-takes.ensures.taken (closed.grows.refused n) in
    let chain = subst (λ s. Chain c.args.reader.now s c.loop.first c.loop.last) (sym c.if-takes.ensures.taken) (c.loop.invariant.chain n_loop b) in
    chain_closes chain closed.grows (closed.holds n [])

pub statements-returns-then-takes-2-clause-extends : goal.statements-returns-then-takes-2-clause-extends
statements-returns-then-takes-2-clause-extends t c =
    let taken = subst (λ s. Extends s c.takes-in-loop.new.self) c.if-takes.ensures.taken (extends_of (grows_taken c.if-takes-2.ensures.taken)) in
    extends_on c.loop.invariant.extends taken

pub statements-returns-clause-spelled : goal.statements-returns-clause-spelled
statements-returns-clause-spelled t c = λ n b.
    let closed = took_sign c.loop.reader c.sign.new.self sign.CloseBrace c.sign.ensures.taken c.sign.ensures.grows in
    chain_closes (c.loop.invariant.chain (closed.grows.refused n) b) closed.grows (closed.holds n [])

pub statements-returns-clause-extends : goal.statements-returns-clause-extends
statements-returns-clause-extends t c = extends_on c.loop.invariant.extends (extends_of c.sign.ensures.grows)

pub block-returns-clause-spelled : goal.block-returns-clause-spelled
block-returns-clause-spelled t c =
    let opened = took_sign c.args.reader.now c.sign.new.self sign.OpenBrace c.sign.ensures.taken c.sign.ensures.grows in
    let rest = step_call c.sign.new.self c.statements.new.reader c.statements.ensures.spelled c.statements.ensures.extends in
    (step_as (λ a x. swift.opened x.0 x.1) (row_also _ _ _ opened rest)).adds

pub conditional-returns-clause-spelled : goal.conditional-returns-clause-spelled
conditional-returns-clause-spelled t c =
    let key = took_key c.args.reader.now c.key.new.self word.If c.key.ensures.taken c.key.ensures.grows in
    let test = test_read c.key.new.self c.test-test.new.reader c.test-test.ensures.spelled c.test-test.ensures.grows in
    let held = step_call c.test-test.new.reader c.block-held.new.reader c.block-held.ensures.spelled c.block-held.ensures.extends in
    let failed = step_call c.block-held.new.reader c.otherwise-failed.new.reader c.otherwise-failed.ensures.spelled c.otherwise-failed.ensures.extends in
    let all = row_also _ _ _ key (also _ _ _ (test_stays _ _ _) test (also _ _ _ (λ a z m. block_stays a z m) held failed)) in
    stmt_read _ _ _ (stmt_of _ _ (λ a x. swift.if_else x.0 x.1.0 x.1.1.0 x.1.1.1) all) c.stmt.ensures.put c.stmt.ensures.extends

pub do_catch-returns-clause-spelled : goal.do_catch-returns-clause-spelled
do_catch-returns-clause-spelled t c =
    let key = took_key c.args.reader.now c.key.new.self word.Do c.key.ensures.taken c.key.ensures.grows in
    let body = step_call c.key.new.self c.block-body.new.reader c.block-body.ensures.spelled c.block-body.ensures.extends in
    let other = took_key c.block-body.new.reader c.key-2.new.self word.Catch c.key-2.ensures.taken c.key-2.ensures.grows in
    let none = took_same c.key-2.new.self c.want_no_pattern.new.reader c.want_no_pattern.ensures.same c.want_no_pattern.ensures.grows in
    let caught = step_call c.want_no_pattern.new.reader c.block-caught.new.reader c.block-caught.ensures.spelled c.block-caught.ensures.extends in
    let all = row_also _ _ _ key (also _ _ _ (λ a z m. block_stays a z m) body (row_also _ _ _ (rows _ _ _ other none) caught)) in
    stmt_read _ _ _ (stmt_of _ _ (λ a x. swift.do_catch x.0 x.1.0 x.1.1.0 x.1.1.1) all) c.stmt.ensures.put c.stmt.ensures.extends

pub for_in-returns-then-is_key : goal.for_in-returns-then-is_key
for_in-returns-then-is_key t c =
    let key = took_key c.args.reader.now c.key.new.self word.For c.key.ensures.taken c.key.ensures.grows in
    let tries = took_perhaps c.key.new.self c.takes_key-is_tried.new.self word.Try c.takes_key-is_tried.result c.takes_key-is_tried.ensures.found c.takes_key-is_tried.ensures.taken in
    let awaits = took_key c.takes_key-is_tried.new.self c.key-then-is_key.new.self word.Await c.key-then-is_key.ensures.taken c.key-then-is_key.ensures.grows in
    let name = took_name c.key-then-is_key.new.self c.name-name.new.self c.name-name.ensures.taken c.name-name.ensures.grows in
    let within = took_key c.name-name.new.self c.key-then-is_key-2.new.self word.In c.key-then-is_key-2.ensures.taken c.key-then-is_key-2.ensures.grows in
    let group = took_name c.key-then-is_key-2.new.self c.name-group.new.self c.name-group.ensures.taken c.name-group.ensures.grows in
    let body = step_call c.name-group.new.self c.block-body.new.reader c.block-body.ensures.spelled c.block-body.ensures.extends in
    let behind = row_also _ _ _ group body in
    let named = row_also _ _ _ (rows _ _ _ name within) behind in
    let all = row_also _ _ _ key (also _ _ _ (lexed_stays (λ l. SpellsPerhaps l word.Try c.key.new.self.at c.takes_key-is_tried.new.self.at c.takes_key-is_tried.result)) (step_of _ _ tries) (row_also _ _ _ awaits named)) in
    record {
      spelled = λ n b.
          let n_body = c.stmt.ensures.extends.refused n in
          let its = c.name-group.ensures.taken (body.extends.refused n_body) in
          let own = c.name-name.ensures.taken (within.grows.refused (behind.extends.refused n_body)) in
          stmt_read _ _ _ (stmt_of _ _ (λ a x. swift.for_await x.0 x.1.0 x.1.1.0 x.1.1.1.0 x.1.1.1.1.0 x.1.1.1.1.1) all) (λ m. told_by _ _ own.1 (formed_by _ _ (ap (λ x. form.ForAwait x c.takes_key-is_tried.result c.block-body.result) its.1) (c.stmt.ensures.put m))) c.stmt.ensures.extends n b;
      extends = extends_on all.extends c.stmt.ensures.extends;
    }

pub for_in-returns-clause-spelled : goal.for_in-returns-clause-spelled
for_in-returns-clause-spelled t c = λ n b.
    let key = took_key c.args.reader.now c.key.new.self word.For c.key.ensures.taken c.key.ensures.grows in
    let name = took_name c.key.new.self c.name-name-2.new.self c.name-name-2.ensures.taken c.name-name-2.ensures.grows in
    let within = took_key c.name-name-2.new.self c.key-2.new.self word.In c.key-2.ensures.taken c.key-2.ensures.grows in
    let from = took_sum c.key-2.new.self c.bound-from.new.reader c.bound-from.result c.bound-from.ensures.spelled c.bound-from.ensures.grows in
    let between = took_call c.bound-from.new.reader c.range-is_closed.new.reader (λ l i j. SpellsRange l i j c.range-is_closed.result) c.range-is_closed.ensures.spelled c.range-is_closed.ensures.grows in
    let to = took_sum c.range-is_closed.new.reader c.bound-to.new.reader c.bound-to.result c.bound-to.ensures.spelled c.bound-to.ensures.grows in
    let body = step_call c.bound-to.new.reader c.block-body-2.new.reader c.block-body-2.ensures.spelled c.block-body-2.ensures.extends in
    let bounds = also _ _ _ (sum_stays _ _ _) (step_of _ _ from) (also _ _ _ (lexed_stays (λ l. SpellsRange l c.bound-from.new.reader.at c.range-is_closed.new.reader.at c.range-is_closed.result)) (step_of _ _ between) (also _ _ _ (sum_stays _ _ _) (step_of _ _ to) body)) in
    let behind = row_also _ _ _ within bounds in
    let all = row_also _ _ _ key (row_also _ _ _ (rows _ _ _ name within) bounds) in
    let own = c.name-name-2.ensures.taken (behind.extends.refused (c.stmt-2.ensures.extends.refused n)) in
    stmt_read _ _ _ (stmt_of _ _ (λ a x. swift.for_range x.0 x.1.0 x.1.1.0 x.1.1.1.0 x.1.1.1.1.0 x.1.1.1.1.1) all) (λ m. told_by _ _ own.1 (c.stmt-2.ensures.put m)) c.stmt-2.ensures.extends n b

pub otherwise-returns-then-not-takes_key-clause-spelled : goal.otherwise-returns-then-not-takes_key-clause-spelled
otherwise-returns-then-not-takes_key-clause-spelled t c = λ n b.
    let same = c.if-not-takes_key.ensures.taken in
    let none : Took c.args.reader.now c.takes_key.new.self (λ a. SpellsElse a c.args.reader.now.at c.takes_key.new.self.at 0) =
    record { grows = rw same (grows_same c.args.reader.now); holds = λ m xs. rw same (swift.no_else (λ k. false≢true (c.if-not-takes_key.ensures.found.1 k)) refl) } in
    adds_of _ _ none n

pub otherwise-returns-then-not-is_key-clause-spelled : goal.otherwise-returns-then-not-is_key-clause-spelled
otherwise-returns-then-not-is_key-clause-spelled t c =
    let key = takes_one c.args.reader.now c.takes_key.new.self (a_key word.Else) (c.if-not-takes_key.ensures.found.0 refl) c.if-not-takes_key.ensures.taken in
    let body = step_call c.takes_key.new.self c.block.new.reader c.block.ensures.spelled c.block.ensures.extends in
    (step_as (λ a x. swift.else_block x.0 x.1) (row_also _ _ _ key body)).adds

pub otherwise-returns-clause-spelled : goal.otherwise-returns-clause-spelled
otherwise-returns-clause-spelled t c = λ n b.
    let key = takes_one c.args.reader.now c.takes_key.new.self (a_key word.Else) (c.if-not-takes_key.ensures.found.0 refl) c.if-not-takes_key.ensures.taken in
    let begun = begun_behind _ _ key.grows b in
    else_read _ _ _ key (c.if-not-is_key.ensures.0 refl) c.conditional.ensures.extends (c.conditional.ensures.spelled n begun) n begun

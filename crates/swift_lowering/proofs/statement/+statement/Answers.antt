use Rattle.std.proofs.Common.{◌≡◌, ◌∙◌, length, ap, sym, refl, arith}
use Rattle.swift_expressions.specs.States.{left_to, state_of}
use Rattle.swift_lowering.specs.Blocks as blocks
use Rattle.swift_lowering.proofs.Blocked.{all_begun, all_in_child, all_on, all_spent, all_unless, conditional_does, count_on_by, guarded_does, loop_over_by, other_does, repeats_by, results_do, while_again_does, while_value_does}
use Rattle.swift_lowering.proofs.Enclosed.{attempts_begun, attempts_caught, attempts_on, attempts_spent, attempts_unless, binds_by, catches_one_by, catches_several_by, child_started, closed_by, enclosed, groups_by, more_than_one, says_all}
use Rattle.swift_lowering.proofs.statement.+statement.Goals as goal

pub block-returns-clause-block : goal.block-returns-clause-block
block-returns-clause-block t c = λ n2.
    let n1 = c.leave.ensures.refused n2 in
    let is : c.len-start.result ≡ length c.args.lowering.now.scope.items = omega (arith, c.len-start.ensures, c.args.lowering.now.scope.ok.0) in
    blocks.whole (c.statements.ensures.does n1) (c.leave.ensures.state n2 ∙ ap (λ x. left_to x (state_of c.statements.new.lowering)) is)

pub otherwise-returns-then-failed-ne0-clause-other : goal.otherwise-returns-then-failed-ne0-clause-other
otherwise-returns-then-failed-ne0-clause-other t c = λ n2. other_does (c.put.ensures.state (c.block.ensures.refused n2)) (c.block.ensures.block n2)

pub otherwise-returns-else-failed-ne0-clause-other : goal.otherwise-returns-else-failed-ne0-clause-other
otherwise-returns-else-failed-ne0-clause-other t c = λ n. blocks.no_block c.if-failed-ne0.false

pub conditional-returns-clause-does : goal.conditional-returns-clause-does
conditional-returns-clause-does t c = λ stmt e n5.
    let n4 = c.put-2.ensures.refused n5 in
    let n3 = c.otherwise.ensures.refused n4 in
    let n2 = c.block.ensures.refused n3 in
    let n1 = c.put.ensures.refused n2 in
    conditional_does e (c.test_of-test.ensures.tests n1) (c.put.ensures.state n2) (c.block.ensures.block n3) (c.otherwise.ensures.other n4) (c.put-2.ensures.state n5)

pub repeated-returns-clause-repeats : goal.repeated-returns-clause-repeats
repeated-returns-clause-repeats t c = λ n. repeats_by c.may_return-returns.ensures (c.done_where.ensures.state (c.block.ensures.refused n)) (c.block.ensures.block n)

pub loop_while-returns-then-here-before-clause-does : goal.loop_while-returns-then-here-before-clause-does
loop_while-returns-then-here-before-clause-does t c = λ stmt e n4.
    let n3 = c.put-then-here-before.ensures.refused n4 in
    let n2 = c.repeated.ensures.refused n3 in
    let n1 = c.put.ensures.refused n2 in
    while_value_does e (c.test_of-first.ensures.tests n1) (sym c.here.ensures ∙ c.if-here-before.true ∙ c.here-before.ensures) (c.put.ensures.state n2) (c.repeated.ensures.repeats n3) (c.put-then-here-before.ensures.state n4)

pub loop_while-returns-clause-does : goal.loop_while-returns-clause-does
loop_while-returns-clause-does t c = λ stmt e n6.
    let n5 = c.close_while.ensures.refused n6 in
    let n4 = c.test_of-again.ensures.refused n5 in
    let n3 = c.rest_where.ensures.refused n4 in
    let n2 = c.repeated-2.ensures.refused n3 in
    let n1 = c.open_while-variable.ensures.refused n2 in
    while_again_does e (c.test_of-first.ensures.tests n1) (c.open_while-variable.ensures.state n2) c.open_while-variable.ensures.variable (c.repeated-2.ensures.repeats n3) c.may_return-returns.ensures (c.rest_where.ensures.state n4) (c.test_of-again.ensures.tests n5) c.may_return-returns-2.ensures (c.close_while.ensures.state n6)

pub loop_for-returns-clause-counts : goal.loop_for-returns-clause-counts
loop_for-returns-clause-counts t c = λ n5.
    let n4 = c.leave.ensures.refused n5 in
    let n3 = c.put.ensures.refused n4 in
    let n2 = c.count_up.ensures.refused n3 in
    let n1 = c.repeated.ensures.refused n2 in
    let is : c.len-start.result ≡ length c.args.lowering.now.scope.items = omega (arith, c.len-start.ensures, c.args.lowering.now.scope.ok.0) in
    count_on_by (c.name_counter.ensures.names n1) (c.repeated.ensures.repeats n2) (c.count_up.ensures.state n3) (c.put.ensures.state n4) (c.leave.ensures.state n5) is

pub guarded-returns-clause-does : goal.guarded-returns-clause-does
guarded-returns-clause-does t c = λ stmt e n5.
    let n4 = c.put.ensures.refused n5 in
    let n3 = c.block.ensures.refused n4 in
    let n2 = c.open_guard.ensures.refused n3 in
    let n1 = c.test_of-held.ensures.refused n2 in
    guarded_does e (c.refuse_where.ensures.state n1) (c.test_of-held.ensures.tests n2) (c.open_guard.ensures.state n3) (c.block.ensures.block n4) (c.put.ensures.state n5)

pub loop_results-returns-clause-results : goal.loop_results-returns-clause-results
loop_results-returns-clause-results t c = λ n4.
    let n3 = c.leave.ensures.refused n4 in
    let n2 = c.put.ensures.refused n3 in
    let n1 = c.repeated.ensures.refused n2 in
    let is : c.len-start.result ≡ length c.args.lowering.now.scope.items = omega (arith, c.len-start.ensures, c.args.lowering.now.scope.ok.0) in
    loop_over_by (c.begin_results.ensures.takes n1) (c.repeated.ensures.repeats n2) (c.put.ensures.state n3) (c.leave.ensures.state n4) is

pub closure-returns-in-Some-clause-encloses : goal.closure-returns-in-Some-clause-encloses
closure-returns-in-Some-clause-encloses t c = λ n. blocks.hands_over (c.in-Some.ensures.direct n)

pub closure-returns-clause-encloses : goal.closure-returns-clause-encloses
closure-returns-clause-encloses t c = λ n3.
    let n2 = c.end_closure.ensures.refused n3 in
    let n1 = c.say.ensures.refused n2 in
    enclosed c.direct.new.lowering (c.in_default.ensures.other (c.begin_closure-begun.ensures.refused n1)) (c.begin_closure-begun.ensures.opens n1) (c.begin_closure-begun.ensures.unit n1) (c.begin_closure-begun.ensures.skip n1) c.begin_closure-begun.ensures.around (c.say.ensures.says n2) (c.end_closure.ensures.state n3) c.end_closure.ensures.callee

pub say-returns-then-body-eq0-clause-says : goal.say-returns-then-body-eq0-clause-says
say-returns-then-body-eq0-clause-says t c = λ n2. says_all c.if-body-eq0.true (c.statements.ensures.does (c.want_end.ensures.refused n2)) (c.want_end.ensures.state n2)

pub say-returns-else-body-eq0-clause-says : goal.say-returns-else-body-eq0-clause-says
say-returns-else-body-eq0-clause-says t c = λ n. blocks.value_alone c.if-body-eq0.false (c.give_lone.ensures.given n)

pub say_closed-returns-then-lone-eq0-clause-says : goal.say_closed-returns-then-lone-eq0-clause-says
say_closed-returns-then-lone-eq0-clause-says t c = λ n. blocks.as_block (more_than_one c.if-lone-eq0.true c.lone_value-lone.ensures) (c.block.ensures.block n)

pub say_closed-returns-clause-says : goal.say_closed-returns-clause-says
say_closed-returns-clause-says t c = λ n2. blocks.one_value c.lone_value-lone.ensures c.if-lone-eq0.false (c.expression-found.ensures.lowers (c.give_result.ensures.refused n2)) (c.give_result.ensures.state n2)

pub closure_block-returns-clause-closed : goal.closure_block-returns-clause-closed
closure_block-returns-clause-closed t c = λ n2. closed_by (c.enter_closure.ensures.enters.0, c.enter_closure.ensures.enters.1 (c.say_closed.ensures.refused n2)) (c.say_closed.ensures.says n2)

pub grouped-returns-clause-does : goal.grouped-returns-clause-does
grouped-returns-clause-does t c = λ e n6.
    let n5 = c.give_closed.ensures.refused n6 in
    let n4 = c.end_closed.ensures.refused n5 in
    let n3 = c.closure_block-kind.ensures.refused n4 in
    let n2 = c.begin_group.ensures.refused n3 in
    let n1 = c.begin_result-variable.ensures.refused n2 in
    let is : c.len-start.result ≡ length c.args.lowering.now.scope.items = omega (arith, c.len-start.ensures, c.args.lowering.now.scope.ok.0) in
    groups_by e (c.want_cover.ensures.state n1) (c.begin_result-variable.ensures.state n2) c.begin_result-variable.ensures.variable c.kind_of.ensures (c.begin_group.ensures.begins n3) (c.closure_block-kind.ensures.closed n4) (c.end_closed.ensures.state n5) is (c.give_closed.ensures.gives n6)

pub bound-returns-clause-does : goal.bound-returns-clause-does
bound-returns-clause-does t c = λ e n5.
    let n4 = c.give_closed.ensures.refused n5 in
    let n3 = c.end_closed.ensures.refused n4 in
    let n2 = c.closure_block-kind.ensures.refused n3 in
    let n1 = c.begin_bind.ensures.refused n2 in
    let is : c.len-start.result ≡ length c.args.lowering.now.scope.items = omega (arith, c.len-start.ensures, c.args.lowering.now.scope.ok.0) in
    binds_by e (c.begin_result-variable.ensures.state n1) c.begin_result-variable.ensures.variable (c.begin_bind.ensures.begins n2) (c.closure_block-kind.ensures.closed n3) (c.end_closed.ensures.state n4) is (c.give_closed.ensures.gives n5)

pub child-returns-clause-starts : goal.child-returns-clause-starts
child-returns-clause-starts t c = λ n4.
    let n3 = c.begin_child.ensures.refused n4 in
    let n2 = c.want_made.ensures.refused n3 in
    child_started (c.refuse_where.ensures.state (c.closure-made.ensures.refused n2)) c.child_body.ensures (c.closure-made.ensures.encloses n2) (c.want_made.ensures.state n3) (c.begin_child.ensures.begins n4)

pub task-returns-clause-makes : goal.task-returns-clause-makes
task-returns-clause-makes t c = λ e n2. blocks.makes_task e c.task_body-body.ensures (c.closure-made.ensures.encloses (c.make_task.ensures.refused n2)) (c.make_task.ensures.makes n2)

pub group_child-returns-clause-adds : goal.group_child-returns-clause-adds
group_child-returns-clause-adds t c = λ e n2. blocks.adds_task e c.task_body-body.ensures (c.closure-made.ensures.encloses (c.add_task.ensures.refused n2)) (c.add_task.ensures.adds n2)

pub do_catch-returns-in-Some-clause-does : goal.do_catch-returns-in-Some-clause-does
do_catch-returns-in-Some-clause-does t c = λ stmt e at n4.
    let n3 = c.put.ensures.refused n4 in
    let n2 = c.begin_given.ensures.refused n3 in
    let n1 = c.block.ensures.refused n2 in
    catches_one_by e at c.in-Some.ensures.lone (c.begin_caught-found.ensures.catches n1) (c.block.ensures.block n2) (c.begin_given.ensures.gives n3) (c.put.ensures.state n4)

pub do_catch-returns-clause-does : goal.do_catch-returns-clause-does
do_catch-returns-clause-does t c = λ stmt e at n5.
    let n4 = c.put-2.ensures.refused n5 in
    let n3 = c.block-2.ensures.refused n4 in
    let n2 = c.open_caught.ensures.refused n3 in
    let n1 = c.do_block.ensures.refused n2 in
    catches_several_by e at c.in_default.ensures.more (c.begin_at_zero-flag.ensures.state n1) c.begin_at_zero-flag.ensures.place (c.do_block.ensures.attempts n2) (c.open_caught.ensures.state n3) (c.block-2.ensures.block n4) (c.put-2.ensures.state n5)

pub do_block-returns-clause-attempts : goal.do_block-returns-clause-attempts
do_block-returns-clause-attempts t c = λ n2.
    let n1 = c.leave.ensures.refused n2 in
    let is : c.len-start.result ≡ length c.args.lowering.now.scope.items = omega (arith, c.len-start.ensures, c.args.lowering.now.scope.ok.0) in
    blocks.attempted (c.do_statements.ensures.attempts n1) (c.leave.ensures.state n2 ∙ ap (λ x. left_to x (state_of c.do_statements.new.lowering)) is)

pub do_statements-loop-init : goal.do_statements-loop-init
do_statements-loop-init t c = record { refused = λ n. n; attempts = λ n s h. attempts_begun h }

pub do_statements-loop-preserved : goal.do_statements-loop-preserved
do_statements-loop-preserved t c = record {
  refused = λ n2. c.loop.invariant.refused (c.refuse_where.ensures.refused (c.statement.ensures.refused n2));
  attempts = λ n2 s h.
      let n1 = c.statement.ensures.refused n2 in
      c.loop.invariant.attempts (c.refuse_where.ensures.refused n1) s (attempts_on {n = length c.args.lowering.now.tree.now.value.stmts.items} (omega (arith, c.loop-test.true, rw c.deref.ensures at c.len-end.ensures, c.args.lowering.now.tree.now.value.stmts.ok.0)) (sym c.in-Some.ensures) (sym c.in_default-caught_wait.ensures) (c.refuse_where.ensures.state n1) (c.statement.ensures.does n2) (sym c.has_rest.ensures ∙ c.if-has_rest.false) h);
}

pub do_statements-returns-in_default-clause-attempts : goal.do_statements-returns-in_default-clause-attempts
do_statements-returns-in_default-clause-attempts t c = λ n. c.loop.invariant.attempts n _ (blocks.at_end (sym c.in_default.ensures))

pub do_statements-returns-in-Some-caught_wait-clause-attempts : goal.do_statements-returns-in-Some-caught_wait-clause-attempts
do_statements-returns-in-Some-caught_wait-clause-attempts t c = λ n7.
    let n6 = c.put.ensures.refused n7 in
    let n5 = c.end_where.ensures.refused n6 in
    let n4 = c.do_statements.ensures.refused n5 in
    let n3 = c.open_rest.ensures.refused n4 in
    let n2 = c.begin_given.ensures.refused n3 in
    let n1 = c.set_flag.ensures.refused n2 in
    c.loop.invariant.attempts (c.begin_caught-found.ensures.refused n1) _ (attempts_caught (sym c.in-Some.ensures) (sym c.in-Some-caught_wait.ensures) (c.begin_caught-found.ensures.catches n1) (c.set_flag.ensures.state n2) (c.begin_given.ensures.gives n3) c.has_rest-is_early.ensures (c.open_rest.ensures.state n4) (c.do_statements.ensures.attempts n5) (c.end_where.ensures.state n6) (c.put.ensures.state n7))

pub do_statements-returns-then-has_rest-clause-attempts : goal.do_statements-returns-then-has_rest-clause-attempts
do_statements-returns-then-has_rest-clause-attempts t c = λ n5.
    let n4 = c.put-then-has_rest.ensures.refused n5 in
    let n3 = c.do_statements-then-has_rest.ensures.refused n4 in
    let n2 = c.open_rest-then-has_rest.ensures.refused n3 in
    let n1 = c.statement.ensures.refused n2 in
    c.loop.invariant.attempts (c.refuse_where.ensures.refused n1) _ (attempts_unless (sym c.in-Some.ensures) (sym c.in_default-caught_wait.ensures) (c.refuse_where.ensures.state n1) (c.statement.ensures.does n2) (sym c.has_rest.ensures ∙ c.if-has_rest.true) (c.open_rest-then-has_rest.ensures.state n3) (c.do_statements-then-has_rest.ensures.attempts n4) (c.put-then-has_rest.ensures.state n5))

pub do_statements-returns-clause-attempts : goal.do_statements-returns-clause-attempts
do_statements-returns-clause-attempts t c = λ n. c.loop.invariant.attempts n _ (attempts_spent {n = length c.args.lowering.now.tree.now.value.stmts.items} {i = c.loop.counter} (omega (arith, c.loop-test.false, rw c.deref.ensures at c.len-end.ensures, c.args.lowering.now.tree.now.value.stmts.ok.0)))

pub statements-loop-init : goal.statements-loop-init
statements-loop-init t c = record { refused = λ n. n; does = λ n s h. all_begun h }

pub statements-loop-preserved : goal.statements-loop-preserved
statements-loop-preserved t c = record {
  refused = λ n. c.loop.invariant.refused (c.statement.ensures.refused n);
  does = λ n s h. c.loop.invariant.does (c.statement.ensures.refused n) s (all_on {n = length c.args.lowering.now.tree.now.value.stmts.items} (omega (arith, c.loop-test.true, rw c.deref.ensures at c.len-end.ensures, c.args.lowering.now.tree.now.value.stmts.ok.0)) (sym c.in-Some.ensures) (c.statement.ensures.does n) (sym c.has_rest.ensures ∙ c.if-has_rest.false) h);
}

pub statements-returns-in_default-clause-does : goal.statements-returns-in_default-clause-does
statements-returns-in_default-clause-does t c = λ n. c.loop.invariant.does n _ (blocks.no_more (sym c.in_default.ensures))

pub statements-returns-in-AsyncLet-clause-does : goal.statements-returns-in-AsyncLet-clause-does
statements-returns-in-AsyncLet-clause-does t c = λ n3.
    let n2 = c.end_child.ensures.refused n3 in
    let n1 = c.statements.ensures.refused n2 in
    c.loop.invariant.does (c.child-variable.ensures.refused n1) _ (all_in_child (sym c.in-Some.ensures) c.in-AsyncLet.is (c.child-variable.ensures.starts n1) (c.statements.ensures.does n2) (c.end_child.ensures.ends n3))

pub statements-returns-then-has_rest-clause-does : goal.statements-returns-then-has_rest-clause-does
statements-returns-then-has_rest-clause-does t c = λ n5.
    let n4 = c.put-then-has_rest.ensures.refused n5 in
    let n3 = c.statements-then-has_rest.ensures.refused n4 in
    let n2 = c.put.ensures.refused n3 in
    let n1 = c.need_done.ensures.refused n2 in
    c.loop.invariant.does (c.statement.ensures.refused n1) _ (all_unless (sym c.in-Some.ensures) (c.statement.ensures.does n1) (sym c.has_rest.ensures ∙ c.if-has_rest.true) (c.need_done.ensures.state n2) (c.put.ensures.state n3) (c.statements-then-has_rest.ensures.does n4) (c.put-then-has_rest.ensures.state n5))

pub statements-returns-clause-does : goal.statements-returns-clause-does
statements-returns-clause-does t c = λ n. c.loop.invariant.does n _ (all_spent {n = length c.args.lowering.now.tree.now.value.stmts.items} {i = c.loop.counter} (omega (arith, c.loop-test.false, rw c.deref.ensures at c.len-end.ensures, c.args.lowering.now.tree.now.value.stmts.ok.0)))

pub statement-returns-in-If-clause-does : goal.statement-returns-in-If-clause-does
statement-returns-in-If-clause-does t c = λ n. c.conditional.ensures.does c.args.stmt c.in-If.is n

pub statement-returns-in-Guard-clause-does : goal.statement-returns-in-Guard-clause-does
statement-returns-in-Guard-clause-does t c = λ n. c.guarded.ensures.does c.args.stmt c.in-Guard.is n

pub statement-returns-in-While-clause-does : goal.statement-returns-in-While-clause-does
statement-returns-in-While-clause-does t c = λ n. c.loop_while.ensures.does c.args.stmt c.in-While.is n

pub statement-returns-in-For-clause-does : goal.statement-returns-in-For-clause-does
statement-returns-in-For-clause-does t c = λ n. blocks.for_range c.in-For.is (c.begin_count-counter.ensures.counts (c.loop_for.ensures.refused n)) (c.loop_for.ensures.counts n)

pub statement-returns-in-ForAwait-clause-does : goal.statement-returns-in-ForAwait-clause-does
statement-returns-in-ForAwait-clause-does t c = λ n. results_do c.in-ForAwait.is (c.loop_results.ensures.results n)

pub statement-returns-in-Task-clause-does : goal.statement-returns-in-Task-clause-does
statement-returns-in-Task-clause-does t c = λ n. c.task.ensures.makes c.in-Task.is n

pub statement-returns-in-AddTask-clause-does : goal.statement-returns-in-AddTask-clause-does
statement-returns-in-AddTask-clause-does t c = λ n. c.group_child.ensures.adds c.in-AddTask.is n

pub statement-returns-in-Group-clause-does : goal.statement-returns-in-Group-clause-does
statement-returns-in-Group-clause-does t c = λ n. c.grouped.ensures.does c.in-Group.is n

pub statement-returns-in-Bind-clause-does : goal.statement-returns-in-Bind-clause-does
statement-returns-in-Bind-clause-does t c = λ n. c.bound.ensures.does c.in-Bind.is n

pub statement-returns-in-DoCatch-clause-does : goal.statement-returns-in-DoCatch-clause-does
statement-returns-in-DoCatch-clause-does t c = λ n. c.do_catch.ensures.does c.args.stmt c.in-DoCatch.is refl n

pub statement-returns-in_default-clause-does : goal.statement-returns-in_default-clause-does
statement-returns-in_default-clause-does t c = λ n. blocks.plain (c.simple.ensures.does n)

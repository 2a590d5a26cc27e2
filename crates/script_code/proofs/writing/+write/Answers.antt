use Rattle.script_code.proofs.Prelude.{arith, term_of, tests, code_said, code_of}
use Rattle.script_code.proofs.Written.{more_lines, choice_count, choice_written, loop_written, answered, back_begins, back_goes_on, back_counts, back_smaller}
use Rattle.script_code.proofs.writing.+write.Goals as goal

pub write_statement-write_statements-requires-in-IfElse : goal.write_statement-write_statements-requires-in-IfElse
write_statement-write_statements-requires-in-IfElse t c = (
  omega (arith, c.decreases, choice_count c.args.statement c.in-IfElse.test c.in-IfElse.held c.in-IfElse.failed c.in-IfElse.is),
  omega (
    arith,
    c.requires,
    choice_count c.args.statement c.in-IfElse.test c.in-IfElse.held c.in-IfElse.failed c.in-IfElse.is,
    more_lines (code_of c.in-IfElse.failed.items) c.args.instructions.now.items c.write_statements.new.instructions.items c.args.next c.in_ok-other-in-IfElse.ensures.lines,
  ),
)

pub write_statement-write_test-requires : goal.write_statement-write_test-requires
write_statement-write_test-requires t c =
    omega (
      arith,
      c.requires,
      choice_count c.args.statement c.in-IfElse.test c.in-IfElse.held c.in-IfElse.failed c.in-IfElse.is,
      more_lines (code_of c.in-IfElse.failed.items) c.args.instructions.now.items c.write_statements.new.instructions.items c.args.next c.in_ok-other-in-IfElse.ensures.lines,
      more_lines (code_of c.in-IfElse.held.items) c.write_statements.new.instructions.items c.write_statements-in-IfElse.new.instructions.items c.args.next c.in_ok-first-in-IfElse.ensures.lines,
    )

pub write_statement-returns-in_ok-first-in-IfElse-clause-lines : goal.write_statement-returns-in_ok-first-in-IfElse-clause-lines
write_statement-returns-in_ok-first-in-IfElse-clause-lines t c =
    let l = c.args.instructions.now.items in
    let m = c.write_statements.new.instructions.items in
    let n = c.write_statements-in-IfElse.new.instructions.items in
    let o = c.write_test.new.instructions.items in
    let first = c.in_ok-first-in-IfElse.first in
    let other = c.in_ok-other-in-IfElse.other in
    (answered c.write_test.result (λ at. tests (term_of c.in-IfElse.test) (at first) (at other)) (code_said c.args.statement) l n o c.args.next c.write_test.ensures.lines c.write_test.ensures.number
    (λ x line at. choice_written c.args.statement c.in-IfElse.test c.in-IfElse.held c.in-IfElse.failed l m n o c.args.next first other x c.in-IfElse.is
    (record { lines = c.in_ok-other-in-IfElse.ensures.lines; start = c.in_ok-other-in-IfElse.ensures.start })
    (record { lines = c.in_ok-first-in-IfElse.ensures.lines; start = c.in_ok-first-in-IfElse.ensures.start }) line at)).0

pub write_statement-returns-in_ok-first-in-IfElse-clause-start : goal.write_statement-returns-in_ok-first-in-IfElse-clause-start
write_statement-returns-in_ok-first-in-IfElse-clause-start t c =
    let l = c.args.instructions.now.items in
    let m = c.write_statements.new.instructions.items in
    let n = c.write_statements-in-IfElse.new.instructions.items in
    let o = c.write_test.new.instructions.items in
    let first = c.in_ok-first-in-IfElse.first in
    let other = c.in_ok-other-in-IfElse.other in
    (answered c.write_test.result (λ at. tests (term_of c.in-IfElse.test) (at first) (at other)) (code_said c.args.statement) l n o c.args.next c.write_test.ensures.lines c.write_test.ensures.number
    (λ x line at. choice_written c.args.statement c.in-IfElse.test c.in-IfElse.held c.in-IfElse.failed l m n o c.args.next first other x c.in-IfElse.is
    (record { lines = c.in_ok-other-in-IfElse.ensures.lines; start = c.in_ok-other-in-IfElse.ensures.start })
    (record { lines = c.in_ok-first-in-IfElse.ensures.lines; start = c.in_ok-first-in-IfElse.ensures.start }) line at)).1

pub write_statement-returns-in_ok-first-in-While-clause-lines : goal.write_statement-returns-in_ok-first-in-While-clause-lines
write_statement-returns-in_ok-first-in-While-clause-lines t c =
    (loop_written c.args.statement c.in-While.test c.in-While.body _ c.args.instructions.now.items c.write_test-in-While.new.instructions.items c.write_statements-in-While.new.instructions.items c.link.new.instructions.items
    c.args.next c.in_ok-first-in-While.first c.in_ok-here-in-While.here c.in-While.is c.in_ok-here-in-While.ensures.lines c.in_ok-here-in-While.ensures.number
    (record { lines = c.in_ok-first-in-While.ensures.lines; start = c.in_ok-first-in-While.ensures.start }) c.link.ensures).lines

pub write_statements-loop-statement-init : goal.write_statements-loop-statement-init
write_statements-loop-statement-init t c = back_begins c.args.statements.items c.args.instructions.now.items c.args.next

pub write_statements-write_statement-requires : goal.write_statements-write_statement-requires
write_statements-write_statement-requires t c =
    let all = c.args.statements.items in
    let left = c.loop-statement.left.items in
    let l = c.args.instructions.now.items in
    let m = c.loop-statement.instructions.items in (
      omega (arith, c.decreases, back_smaller all left c.pop.new.self.items c.in-Some.statement l m c.args.next c.loop-statement.first c.in-Some.ensures.items c.loop-statement.invariant),
      omega (arith, c.requires, back_counts all left c.pop.new.self.items c.in-Some.statement l m c.args.next c.loop-statement.first c.in-Some.ensures.items c.loop-statement.invariant),
    )

pub write_statements-loop-statement-preserved : goal.write_statements-loop-statement-preserved
write_statements-loop-statement-preserved t c =
    back_goes_on c.args.statements.items c.loop-statement.left.items c.pop.new.self.items c.in-Some.statement c.args.instructions.now.items c.loop-statement.instructions.items c.write_statement.new.instructions.items
    c.args.next c.loop-statement.first c.in_ok-first.first c.in-Some.ensures.items c.loop-statement.invariant
    (record { lines = c.in_ok-first.ensures.lines; start = c.in_ok-first.ensures.start })

use Rattle.script_code.proofs.Prelude.{◌+◌, ◌*◌, vec_len, count, code_said, code_of}
use Rattle.script_code.proofs.Written.{IsWrittenBack}
use Rattle.script_code.proofs.writing.+write.Given as goal

abbrev pub decreases-write_statement : goal.decreases-write_statement
decreases-write_statement l = 2 * count (code_said l.statement)

abbrev pub decreases-write_statements : goal.decreases-write_statements
decreases-write_statements l = 2 * count (code_of l.statements.items) + 1

abbrev pub invariant-write_statements-loop-statement : goal.invariant-write_statements-loop-statement
invariant-write_statements-loop-statement l = IsWrittenBack l.initial.left.items l.left.items l.initial.instructions.items l.instructions.items l.initial.next l.first

abbrev pub decreases-write_statements-loop-statement : goal.decreases-write_statements-loop-statement
decreases-write_statements-loop-statement l = vec_len l.left

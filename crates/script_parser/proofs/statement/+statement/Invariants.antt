use Rattle.script_parser.proofs.Prelude.{◌≡◌, ◌-◌, ◌+◌, ◌*◌, map, length, NESTING, piece, view_stmt, many_at, block_at}
use Rattle.script_parser.proofs.Front.{with_front}
use Rattle.script_parser.proofs.statement.+statement.Given as goal

abbrev pub decreases-block : goal.decreases-block
decreases-block l = l.blocks * 4

abbrev pub decreases-choice : goal.decreases-choice
decreases-choice l = l.blocks * 4 + 1

abbrev pub decreases-head_and_block : goal.decreases-head_and_block
decreases-head_and_block l = l.blocks * 4 + 1

abbrev pub decreases-stmt : goal.decreases-stmt
decreases-stmt l = l.blocks * 4 + 2

abbrev pub decreases-statements : goal.decreases-statements
decreases-statements l = l.blocks * 4 + 3

abbrev pub invariant-statements-loop : goal.invariant-statements-loop
invariant-statements-loop l = with_front (map view_stmt l.stmts.items) (many_at NESTING l.region (block_at NESTING l.blocks) (length l.tokens - l.counter) (map piece l.rest)) ≡ many_at NESTING l.region (block_at NESTING l.blocks) (length l.tokens) (map piece l.tokens)

use Rattle.script_parser.proofs.Prelude.{◌≡◌, ◌-◌, ◌+◌, map, length, NESTING, piece, Every, view, expr_in, close_at, comma_at, items_at, with_first}
use Rattle.script_parser.proofs.Front.{with_front}
use Rattle.script_parser.proofs.call.more_arguments.Given as goal

abbrev pub invariant-loop : goal.invariant-loop
invariant-loop l = with_front (map view l.items.items) (items_at close_at (comma_at (expr_in Every NESTING (NESTING - 1))) (length l.tokens + 1 - l.counter) (map piece l.rest)) ≡ (with_first (view l.fn.first) (items_at close_at (comma_at (expr_in Every NESTING (NESTING - 1))) (length l.tokens + 1) (map piece l.tokens)))

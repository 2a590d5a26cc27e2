use Rattle.script_parser.proofs.Prelude.{◌≡◌, ◌-◌, ◌+◌, map, length, piece, close_at, comma_at, items_at, with_first, int_at}
use Rattle.script_parser.proofs.Front.{with_front}
use Rattle.script_parser.proofs.root.more_ints.Given as goal

abbrev pub invariant-loop : goal.invariant-loop
invariant-loop l = with_front l.items.items (items_at close_at (comma_at int_at) (length l.tokens + 1 - l.counter) (map piece l.rest)) ≡ (with_first l.fn.first (items_at close_at (comma_at int_at) (length l.tokens + 1) (map piece l.tokens)))

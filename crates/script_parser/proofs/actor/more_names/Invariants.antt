use Rattle.script_parser.proofs.Prelude.{◌≡◌, ◌-◌, ◌+◌, map, length, piece, text_of, name_at, close_at, comma_at, items_at, with_first}
use Rattle.script_parser.proofs.Front.{with_front}
use Rattle.script_parser.proofs.actor.more_names.Given as goal

abbrev pub invariant-loop : goal.invariant-loop
invariant-loop l = with_front (map text_of l.items.items) (items_at close_at (comma_at name_at) (length l.tokens + 1 - l.counter) (map piece l.rest)) ≡ (with_first (text_of l.fn.first) (items_at close_at (comma_at name_at) (length l.tokens + 1) (map piece l.tokens)))

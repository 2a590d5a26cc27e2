use Rattle.script_parser.proofs.Prelude.{◌≡◌, ◌-◌, ◌+◌, map, length, NESTING, piece, view_method, brace_at, items_at, method_at}
use Rattle.script_parser.proofs.Front.{with_front}
use Rattle.script_parser.proofs.actor.methods.Given as goal

abbrev pub invariant-loop : goal.invariant-loop
invariant-loop l = with_front (map view_method l.items.items) (items_at brace_at (method_at NESTING) (length l.tokens + 1 - l.counter) (map piece l.rest)) ≡ (items_at brace_at (method_at NESTING) (length l.tokens + 1) (map piece l.tokens))

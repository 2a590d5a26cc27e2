use Rattle.script_parser.proofs.Prelude.{◌≡◌, ◌-◌, ◌+◌, map, length, piece, view_field, items_at, fields_end, field_at}
use Rattle.script_parser.proofs.Front.{with_front}
use Rattle.script_parser.proofs.actor.fields.Given as goal

abbrev pub invariant-loop : goal.invariant-loop
invariant-loop l = with_front (map view_field l.items.items) (items_at fields_end field_at (length l.tokens + 1 - l.counter) (map piece l.rest)) ≡ (items_at fields_end field_at (length l.tokens + 1) (map piece l.tokens))

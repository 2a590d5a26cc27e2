use Rattle.script_parser.proofs.Prelude.{◌≡◌, ◌-◌, ◌+◌, map, length, NESTING, piece, view_decl, items_at, decls_end, decl_at}
use Rattle.script_parser.proofs.Front.{with_front}
use Rattle.script_parser.proofs.script.decls.Given as goal

abbrev pub invariant-loop : goal.invariant-loop
invariant-loop l = with_front (map view_decl l.items.items) (items_at decls_end (decl_at NESTING) (length l.tokens + 1 - l.counter) (map piece l.rest)) ≡ (items_at decls_end (decl_at NESTING) (length l.tokens + 1) (map piece l.tokens))

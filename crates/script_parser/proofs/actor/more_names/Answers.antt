use Rattle.script_parser.proofs.Prelude.{◌≡◌, ◌++◌, ◌∷◌, ◌+◌, [], map, length, sym, err_from_is_err_and, map_push, EndsEarly, piece, text_of, at, name_at, close_at, comma_at, items_at, with_first}
use Rattle.script_parser.proofs.Front.{goes_on, fails, stops, runs_out, refused_fails}
use Rattle.script_parser.proofs.actor.more_names.Goals as goal

pub returns-in-Some : goal.returns-in-Some
returns-in-Some c =
    stops close_at (comma_at name_at) (map text_of c.loop.items.items) (length c.args.tokens.now + 1) c.loop.counter (map piece c.loop.rest.now) (map piece c.in-Some.after.now) _ c.loop-test.true (sym c.in-Some.ensures) c.loop.invariant

pub returns-in_err-next : goal.returns-in_err-next
returns-in_err-next c =
    let p = err_from_is_err_and c.from_residual-in_err-next.result c.from_residual-in_err-next.ensures.1 in
    rw (p.1, p.2) (fails close_at (comma_at name_at) c.in_err-next.field-0.0 (map text_of c.loop.items.items) (length c.args.tokens.now + 1) c.loop.counter (map piece c.loop.rest.now) (with_first (text_of c.args.first) (items_at close_at (comma_at name_at) (length c.args.tokens.now + 1) (map piece c.args.tokens.now))) c.loop-test.true (sym c.in-None.ensures) c.in_err-next.ensures c.loop.invariant)

pub loop-preserved : goal.loop-preserved
loop-preserved c =
    let e : map text_of c.push-in-loop.new.self.items ≡ map text_of c.loop.items.items ++ (text_of c.in_ok-next.next) ∷ [] = rw c.in_ok-push-2.ensures.items (map_push _ c.loop.items.items c.in_ok-next.next) in
    rw e (goes_on close_at (comma_at name_at) (map text_of c.loop.items.items) (length c.args.tokens.now + 1) c.loop.counter (map piece c.loop.rest.now) (text_of c.in_ok-next.next) (map piece c.in_ok-next.after.now) (with_first (text_of c.args.first) (items_at close_at (comma_at name_at) (length c.args.tokens.now + 1) (map piece c.args.tokens.now))) c.loop-test.true (sym c.in-None.ensures) c.in_ok-next.ensures c.loop.invariant)

pub returns : goal.returns
returns c =
    refused_fails c.refusal.result (at EndsEarly (map piece c.loop.rest.now)) _ c.refusal.ensures (runs_out close_at (comma_at name_at) (map text_of c.loop.items.items) (length c.args.tokens.now + 1) c.loop.counter (map piece c.loop.rest.now) _ c.loop-test.false c.loop.invariant)

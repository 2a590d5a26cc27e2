use Rattle.script_parser.proofs.Prelude.{◌≡◌, ◌++◌, ◌∷◌, ◌+◌, [], map, length, sym, err_from_is_err_and, map_push, EndsEarly, NESTING, piece, view_decl, at, items_at, decls_end, decl_at}
use Rattle.script_parser.proofs.Front.{goes_on, fails, stops, runs_out, refused_fails}
use Rattle.script_parser.proofs.script.decls.Goals as goal

pub returns-in-Some : goal.returns-in-Some
returns-in-Some c =
    stops decls_end (decl_at NESTING) (map view_decl c.loop.items.items) (length c.args.tokens.now + 1) c.loop.counter (map piece c.loop.rest.now) (map piece c.in-Some.after.now) _ c.loop-test.true (sym c.in-Some.ensures) c.loop.invariant

pub returns-in_err-next : goal.returns-in_err-next
returns-in_err-next c =
    let p = err_from_is_err_and c.from_residual.result c.from_residual.ensures.1 in
    rw (p.1, p.2) (fails decls_end (decl_at NESTING) c.in_err-next.field-0.0 (map view_decl c.loop.items.items) (length c.args.tokens.now + 1) c.loop.counter (map piece c.loop.rest.now) (items_at decls_end (decl_at NESTING) (length c.args.tokens.now + 1) (map piece c.args.tokens.now)) c.loop-test.true (sym c.in-None.ensures) c.in_err-next.ensures c.loop.invariant)

pub loop-preserved : goal.loop-preserved
loop-preserved c =
    let e : map view_decl c.push.new.self.items ≡ map view_decl c.loop.items.items ++ (view_decl c.in_ok-next.next) ∷ [] = rw c.in_ok-push.ensures.items (map_push _ c.loop.items.items c.in_ok-next.next) in
    rw e (goes_on decls_end (decl_at NESTING) (map view_decl c.loop.items.items) (length c.args.tokens.now + 1) c.loop.counter (map piece c.loop.rest.now) (view_decl c.in_ok-next.next) (map piece c.in_ok-next.after.now) (items_at decls_end (decl_at NESTING) (length c.args.tokens.now + 1) (map piece c.args.tokens.now)) c.loop-test.true (sym c.in-None.ensures) c.in_ok-next.ensures c.loop.invariant)

pub returns : goal.returns
returns c =
    refused_fails c.refusal.result (at EndsEarly (map piece c.loop.rest.now)) _ c.refusal.ensures (runs_out decls_end (decl_at NESTING) (map view_decl c.loop.items.items) (length c.args.tokens.now + 1) c.loop.counter (map piece c.loop.rest.now) _ c.loop-test.false c.loop.invariant)

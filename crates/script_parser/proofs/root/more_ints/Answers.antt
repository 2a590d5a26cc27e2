use Rattle.script_parser.proofs.Prelude.{◌++◌, ◌∷◌, ◌+◌, [], map, length, sym, ap, ◌∙◌, ℤ, w64, to_z-of_z, err_from_is_err_and, EndsEarly, piece, at, close_at, comma_at, items_at, with_first, int_at}
use Rattle.script_parser.proofs.Front.{goes_on, fails, stops, runs_out, refused_fails}
use Rattle.script_parser.proofs.root.more_ints.Goals as goal

pub returns-in-Some : goal.returns-in-Some
returns-in-Some c =
    stops close_at (comma_at int_at) c.loop.items.items (length c.args.tokens.now + 1) c.loop.counter (map piece c.loop.rest.now) (map piece c.in-Some.after.now) _ c.loop-test.true (sym c.in-Some.ensures) c.loop.invariant

pub returns-in_err-next : goal.returns-in_err-next
returns-in_err-next c =
    let p = err_from_is_err_and c.from_residual-in_err-next.result c.from_residual-in_err-next.ensures.1 in
    rw (p.1, p.2) (fails close_at (comma_at int_at) c.in_err-next.field-0.0 c.loop.items.items (length c.args.tokens.now + 1) c.loop.counter (map piece c.loop.rest.now) (with_first c.args.first.now (items_at close_at (comma_at int_at) (length c.args.tokens.now + 1) (map piece c.args.tokens.now))) c.loop-test.true (sym c.in-None.ensures) c.in_err-next.ensures.gives c.loop.invariant)

pub loop-preserved : goal.loop-preserved
loop-preserved c =
    let e = c.in_ok-add_int-2.ensures.ok ∙ ap (λ (z : ℤ). c.loop.items.items ++ z ∷ []) (to_z-of_z w64 c.in_ok-next.next c.in_ok-next.ensures.fits) in
    rw e (goes_on close_at (comma_at int_at) c.loop.items.items (length c.args.tokens.now + 1) c.loop.counter (map piece c.loop.rest.now) c.in_ok-next.next (map piece c.in_ok-next.after.now) (with_first c.args.first.now (items_at close_at (comma_at int_at) (length c.args.tokens.now + 1) (map piece c.args.tokens.now))) c.loop-test.true (sym c.in-None.ensures) c.in_ok-next.ensures.gives c.loop.invariant)

pub returns : goal.returns
returns c =
    refused_fails c.refusal.result (at EndsEarly (map piece c.loop.rest.now)) _ c.refusal.ensures (runs_out close_at (comma_at int_at) c.loop.items.items (length c.args.tokens.now + 1) c.loop.counter (map piece c.loop.rest.now) _ c.loop-test.false c.loop.invariant)

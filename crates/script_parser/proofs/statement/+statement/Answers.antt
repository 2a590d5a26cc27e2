use Rattle.script_parser.proofs.Prelude.{◌≡◌, ◌++◌, ◌∷◌, [], map, length, sym, err_from_is_err_and, map_push, NESTING, piece, EndsEarly, view_stmt, at, brace_at, stmt_at, many_at, block_at}
use Rattle.script_parser.proofs.Front.{goes_on, fails, stops, runs_out, refused_fails}
use Rattle.script_parser.proofs.statement.+statement.Goals as goal

pub statements-returns-in-Some : goal.statements-returns-in-Some
statements-returns-in-Some t c =
    stops brace_at (stmt_at NESTING c.args.region (block_at NESTING c.args.blocks)) (map view_stmt c.loop.stmts.items) (length c.args.tokens.now) c.loop.counter (map piece c.loop.rest.now) (map piece c.in-Some.after.now) _ c.loop-test.true (sym c.in-Some.ensures) c.loop.invariant

pub statements-returns-in_err-next : goal.statements-returns-in_err-next
statements-returns-in_err-next t c =
    let p = err_from_is_err_and c.from_residual.result c.from_residual.ensures.1 in
    rw (p.1, p.2) (fails brace_at (stmt_at NESTING c.args.region (block_at NESTING c.args.blocks)) c.in_err-next.field-0.0 (map view_stmt c.loop.stmts.items) (length c.args.tokens.now) c.loop.counter (map piece c.loop.rest.now) (many_at NESTING c.args.region (block_at NESTING c.args.blocks) (length c.args.tokens.now) (map piece c.args.tokens.now)) c.loop-test.true (sym c.in-None.ensures) c.in_err-next.ensures c.loop.invariant)

pub statements-loop-preserved : goal.statements-loop-preserved
statements-loop-preserved t c =
    let e : map view_stmt c.add_stmt.new.stmts.items ≡ map view_stmt c.loop.stmts.items ++ view_stmt c.in_ok-next.next ∷ [] = rw c.in_ok-add_stmt.ensures (map_push _ c.loop.stmts.items c.in_ok-next.next) in
    rw e (goes_on brace_at (stmt_at NESTING c.args.region (block_at NESTING c.args.blocks)) (map view_stmt c.loop.stmts.items) (length c.args.tokens.now) c.loop.counter (map piece c.loop.rest.now) (view_stmt c.in_ok-next.next) (map piece c.in_ok-next.after.now) (many_at NESTING c.args.region (block_at NESTING c.args.blocks) (length c.args.tokens.now) (map piece c.args.tokens.now)) c.loop-test.true (sym c.in-None.ensures) c.in_ok-next.ensures c.loop.invariant)

pub statements-returns : goal.statements-returns
statements-returns t c =
    refused_fails c.refusal.result (at EndsEarly (map piece c.loop.rest.now)) _ c.refusal.ensures (runs_out brace_at (stmt_at NESTING c.args.region (block_at NESTING c.args.blocks)) (map view_stmt c.loop.stmts.items) (length c.args.tokens.now) c.loop.counter (map piece c.loop.rest.now) _ c.loop-test.false c.loop.invariant)

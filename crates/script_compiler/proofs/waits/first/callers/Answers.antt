use Rattle.script_compiler.proofs.Prelude.{arith}
use Rattle.script_compiler.proofs.Listing.{edge_listed}
use Rattle.script_compiler.proofs.waits.first.callers.Goals as goal

pub loop-edge-preserved : goal.loop-edge-preserved
loop-edge-preserved c =
    edge_listed c.args.edges.now c.loop-edge.edge-index _ c.args.methods c.loop-edge.callers c.push.new.self (omega arith)
    c.loop-edge.invariant c.in_ok-push.ensures

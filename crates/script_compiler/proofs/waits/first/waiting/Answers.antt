use Rattle.script_compiler.proofs.Prelude.{arith, ◌+◌, length}
use Rattle.script_compiler.proofs.Listing.{wait_listed}
use Rattle.script_compiler.proofs.waits.first.waiting.Goals as goal

pub loop-wait-preserved : goal.loop-wait-preserved
loop-wait-preserved c =
    wait_listed c.args.waits.now (length c.args.roots.now) c.loop-wait.wait-index _ (length c.args.roots.now + 1) _ c.loop-wait.waiting
    c.push.new.self (omega arith) c.min.ensures c.loop-wait.invariant c.in_ok-push.ensures

use Rattle.script_compiler.proofs.Prelude.{arith, view_if, view_awaited, past_awaited, if_grows}
use Rattle.script_compiler.proofs.lowering.action.wait.Goals as goal

pub awaited-requires : goal.awaited-requires
awaited-requires c =
    omega (arith, c.requires, if_grows (view_if c.args.wait.now.other) (past_awaited (view_awaited c.args.wait.now.awaited) c.args.at.now))

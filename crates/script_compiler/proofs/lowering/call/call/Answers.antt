use Rattle.script_compiler.proofs.Prelude.{arith, view_call, call_grows}
use Rattle.script_compiler.proofs.lowering.call.call.Goals as goal

pub target-requires : goal.target-requires
target-requires c = omega (arith, c.requires, call_grows (view_call c.args.call.now) c.args.at.now)

use Rattle.script_compiler.proofs.Prelude.{suc, arith, view_call, call_grows}
use Rattle.script_compiler.proofs.lowering.action.add.Goals as goal

pub at_name-requires : goal.at_name-requires
at_name-requires c = omega (arith, c.requires, call_grows (view_call c.args.child.now.call) (suc c.args.at.now))

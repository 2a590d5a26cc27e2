use Rattle.script_compiler.proofs.BlockCalls.{block_calls}
use Rattle.script_compiler.proofs.lowering.laws.blocks_call_methods.Goals as goal

pub returns : goal.returns
returns c = block_calls

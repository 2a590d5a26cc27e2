use Rattle.std.proofs.Common.{arith}
use Rattle.script_hints.proofs.Filling.{filled_on, filled_end}
use Rattle.script_hints.proofs.mistake.fill.Goals as goal

pub loop-byte-preserved : goal.loop-byte-preserved
loop-byte-preserved c = filled_on c.args.words.now c.loop-byte.byte-index c.loop-byte.is_name _ c.args.blamed c.args.actor _ _ _ (omega arith) c.in_ok-push_said.ensures c.is_dollar-is_name.ensures c.loop-byte.invariant

pub returns : goal.returns
returns c = filled_end c.args.words.now c.loop-byte.byte-index c.loop-byte.is_name c.args.blamed c.args.actor _ _ (omega arith) c.loop-byte.invariant

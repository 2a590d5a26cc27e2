use Rattle.nuchapay_tool.proofs.Laying.{lays_indent}
use Rattle.nuchapay_tool.proofs.layout.text.WrittenLayout.indent.Goals as goal

pub loop-preserved : goal.loop-preserved
loop-preserved c = λ ts laid. lays_indent ts _ _ c.in_ok-extend_from_slice.ensures.items (c.loop.invariant ts laid)

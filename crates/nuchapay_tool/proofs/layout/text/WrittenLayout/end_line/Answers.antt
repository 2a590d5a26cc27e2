use Rattle.nuchapay_tool.proofs.Laying.{lays_feed}
use Rattle.nuchapay_tool.proofs.layout.text.WrittenLayout.end_line.Goals as goal

pub returns : goal.returns
returns c = λ ts laid. lays_feed ts _ _ c.in_ok-push.ensures.items laid

use Rattle.nuchapay_tool.proofs.Laying.{lays_feed, lays_space}
use Rattle.nuchapay_tool.proofs.layout.text.WrittenLayout.space.Goals as goal

pub returns-in_ok-push-in-Space : goal.returns-in_ok-push-in-Space
returns-in_ok-push-in-Space c = λ ts laid. lays_space ts _ _ c.in_ok-push-in-Space.ensures.items laid

pub returns-in_ok-push-in-EmptyLine : goal.returns-in_ok-push-in-EmptyLine
returns-in_ok-push-in-EmptyLine c = λ ts laid. c.indent.ensures ts (lays_feed ts _ _ c.in_ok-push-in-EmptyLine.ensures.items (c.in_ok-end_line-in-EmptyLine.ensures ts laid))

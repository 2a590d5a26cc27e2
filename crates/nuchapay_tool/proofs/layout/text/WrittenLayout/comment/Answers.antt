use Rattle.nuchapay_tool.proofs.Laying.{lays_comment}
use Rattle.nuchapay_tool.proofs.layout.text.WrittenLayout.comment.Goals as goal

pub returns : goal.returns
returns c = λ ts laid. lays_comment ts _ _ _ c.in_ok-line_of_comment.ensures c.requires (c.in_ok-begin_comment.ensures ts laid)

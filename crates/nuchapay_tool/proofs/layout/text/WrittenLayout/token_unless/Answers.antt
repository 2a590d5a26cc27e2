use Rattle.nuchapay_tool.specs.LayoutsInside.{missing}
use Rattle.nuchapay_tool.proofs.layout.text.WrittenLayout.token_unless.Goals as goal

pub returns-then-is_left_out : goal.returns-then-is_left_out
returns-then-is_left_out c = λ ts laid. missing c.args.token.now (c.is_left_out.ensures c.if-is_left_out.true) laid

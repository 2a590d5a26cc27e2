use Rattle.nuchapay_tool.proofs.Laying.{lays_token}
use Rattle.nuchapay_tool.proofs.layout.text.WrittenLayout.token.Goals as goal

pub returns : goal.returns
returns c = λ ts laid. lays_token ts _ _ c.args.token.now c.in_ok-word.ensures (c.in_ok-begin.ensures ts laid)

use Rattle.nuchapay_tool.proofs.Feeds.{line_has_none, trimmed_has_none}
use Rattle.nuchapay_tool.proofs.layout.comment.trimmed_line.Goals as goal

pub returns : goal.returns
returns c = trimmed_has_none c.first_line.result.now _ (line_has_none c.args.text.now c.first_line.result.now c.first_line.ensures.line) c.trim_ascii_end.ensures.value

use Rattle.plain_parts.proofs.page.Page.+begin.Given as goal

abbrev pub decreases-begin : goal.decreases-begin
decreases-begin l = l.depth

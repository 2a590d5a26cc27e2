use Rattle.std.proofs.Common.{List, length}
use Rattle.script_tokens.specs.declared.token.Token.{Token}
use Rattle.nuchapay_tool.specs.LayoutsInside.{LaysOut}
use Rattle.nuchapay_tool.proofs.layout.text.WrittenLayout.comments.Given as goal

abbrev pub decreases-comments : goal.decreases-comments
decreases-comments l = length l.rest

abbrev pub invariant-comments : goal.invariant-comments
invariant-comments l = (ts : List Token) → LaysOut ts l.initial.self.text.items → LaysOut ts l.self.text.items

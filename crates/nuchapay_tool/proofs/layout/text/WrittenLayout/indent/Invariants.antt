use Rattle.std.proofs.Common.{List}
use Rattle.script_tokens.specs.declared.token.Token.{Token}
use Rattle.nuchapay_tool.specs.LayoutsInside.{LaysOut}
use Rattle.nuchapay_tool.proofs.layout.text.WrittenLayout.indent.Given as goal

abbrev pub invariant-loop : goal.invariant-loop
invariant-loop l = (ts : List Token) → LaysOut ts l.initial.self.text.items → LaysOut ts l.self.text.items

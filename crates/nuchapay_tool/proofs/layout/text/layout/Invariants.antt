use Rattle.std.proofs.Common.{take}
use Rattle.nuchapay_tool.specs.LayoutsInside.{LaysOut}
use Rattle.nuchapay_tool.proofs.layout.text.layout.Given as goal

abbrev pub invariant-loop-place : goal.invariant-loop-place
invariant-loop-place l = LaysOut (take l.place l.tokens) l.written.text.items

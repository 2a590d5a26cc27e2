use Rattle.swift_explorer.proofs.Prelude.{take, arc_value, ArePlansOf, AreTold}
use Rattle.swift_explorer.proofs.history.SearchedHistory.plans_of.Given as goal

abbrev pub invariant-loop-step : goal.invariant-loop-step
invariant-loop-step l = AreTold (arc_value l.self.steps.script) l.away → ArePlansOf l.self (take l.step-index l.moves) l.steps.items

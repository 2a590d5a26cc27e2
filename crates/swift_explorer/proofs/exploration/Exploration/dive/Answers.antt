use Rattle.swift_explorer.proofs.Prelude.{sym, subst, ap, arc_value, ScriptView, HasGoneOn}
use Rattle.swift_explorer.proofs.Seeing.{gone_seen}
use Rattle.swift_explorer.proofs.exploration.Exploration.dive.Goals as goal

pub invariant_of-result : goal.invariant_of-result
invariant_of-result c =
    let x = c.self.inside.search in
    let y = c.dive.new.self in
    let next = c.self.inside.next in
    let seen = c.in_ok-dive.ensures in
    subst (λ (s : ScriptView). HasGoneOn s y next) (sym (ap arc_value seen.grown.script)) (gone_seen (arc_value x.script) x y next c.self.invariant seen)

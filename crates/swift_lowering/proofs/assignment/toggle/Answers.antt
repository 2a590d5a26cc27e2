use Rattle.swift_lowering.proofs.Stated.{toggled_from}
use Rattle.swift_lowering.proofs.assignment.toggle.Goals as goal

pub returns-clause-state : goal.returns-clause-state
returns-clause-state c = λ n4.
    let n3 = c.store.ensures.refused n4 in
    let n2 = c.with_kind-after.ensures.refused n3 in
    let n1 = c.want.ensures.refused n2 in
    let n0 = c.current-before.ensures.refused n1 in
    (c.in-Some.to, c.in-Some.ensures.goes, toggled_from c.in-Some.to (c.destination_of.ensures.state n0) (c.current-before.ensures.state n1) (c.current-before.ensures.place n1) (c.want.ensures.state n2) (c.with_kind-after.ensures.gives n3) (c.store.ensures.state n4))

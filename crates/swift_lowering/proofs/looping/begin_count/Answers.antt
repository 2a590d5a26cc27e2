use Rattle.swift_lowering.proofs.Blocked.{counts_by}
use Rattle.swift_lowering.proofs.looping.begin_count.Goals as goal

pub returns-clause-counts : goal.returns-clause-counts
returns-clause-counts c = λ n9.
    let n8 = c.put_while.ensures.refused n9 in
    let n7 = c.trap_unless.ensures.refused n8 in
    let n6 = c.with_kind-here.ensures.refused n7 in
    let n5 = c.fixed-end.ensures.refused n6 in
    let n4 = c.want-2.ensures.refused n5 in
    let n3 = c.expression-last.ensures.refused n4 in
    let n2 = c.put.ensures.refused n3 in
    let n1 = c.temporary-counter.ensures.refused n2 in
    counts_by (c.expression-first.ensures.lowers (c.want.ensures.refused n1)) (c.want.ensures.state n1) c.temporary-counter.ensures.place (c.temporary-counter.ensures.state n2) (c.put.ensures.state n3) (c.expression-last.ensures.lowers n4) (c.want-2.ensures.state n5) (c.fixed-end.ensures.fixes n6) (c.with_kind-here.ensures.gives n7) c.are_in_order-is_known.ensures (c.trap_unless.ensures.state n8) c.range_test-operator.ensures (c.put_while.ensures.state n9)

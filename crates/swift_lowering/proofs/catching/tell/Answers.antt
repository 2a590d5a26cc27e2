use Rattle.std.proofs.Common.{◌≡◌, ◌-◌, ◌∙◌, length, sym, rules}
use Rattle.swift_lowering.proofs.Caught.{told_by_two, told_by_zero}
use Rattle.swift_lowering.proofs.catching.tell.Goals as goal

pub returns-then-is_int-clause-tells : goal.returns-then-is_int-clause-tells
returns-then-is_int-clause-tells c = λ n.
    let at : c.saturating_sub-place.result ≡ length c.args.lowering.now.code.instructions.items - 1 = search rules in
    told_by_zero (sym c.is_int.ensures ∙ c.if-is_int.true) at (c.wrap.ensures.wraps n)

pub returns-clause-tells : goal.returns-clause-tells
returns-clause-tells c = λ n2.
    let at : c.saturating_sub-place.result ≡ length c.args.lowering.now.code.instructions.items - 1 = search rules in
    told_by_two (sym c.is_int.ensures ∙ c.if-is_int.false) at c.number-two.ensures.place (c.number-two.ensures.state (c.exchange.ensures.refused n2)) (c.exchange.ensures.state n2)

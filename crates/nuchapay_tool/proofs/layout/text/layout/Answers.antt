use Rattle.std.proofs.Common.{[], List, ℕ, sym, subst}
use Rattle.nuchapay_tool.specs.LayoutsInside.{LaysOut, nothing}
use Rattle.nuchapay_tool.proofs.Laying.{lays_all, lays_next}
use Rattle.nuchapay_tool.proofs.layout.text.layout.Goals as goal

pub loop-place-init : goal.loop-place-init
loop-place-init c = subst (λ (t : List ℕ). LaysOut [] t) (sym c.new.ensures.items) nothing

pub loop-place-preserved : goal.loop-place-preserved
loop-place-preserved c = lays_next c.args.tokens.now c.loop-place.place _ _ c.loop-place-test.true c.index-tokens-place.is (c.in_ok-token_unless.ensures _ (c.in_ok-feeds.ensures _ c.loop-place.invariant))

pub returns : goal.returns
returns c = c.in_ok-end.ensures _ (c.in_ok-comments.ensures _ (lays_all c.args.tokens.now c.loop-place.place _ c.loop-place-test.false c.loop-place.invariant))

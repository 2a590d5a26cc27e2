use Rattle.swift_certificate.proofs.Prelude.{◌≡◌, ◌∙◌, ◌+◌, List, take, sym, ap, take_all, arith, count_by, effect_views, Effect, makes_own, opens_group}
use Rattle.swift_certificate.proofs.playing.counts_after.Goals.{then-makes_own+in_ok-counts, else-makes_own}
use Rattle.swift_certificate.proofs.playing.counts_after.Goals.{then-opens_group+in_ok-counts-2, else-opens_group}
use Rattle.swift_certificate.specs.declared.playing.MadeCounts.{MadeCounts}
use Rattle.swift_certificate.proofs.Counted.{counted_more}
use Rattle.swift_certificate.proofs.playing.counts_after.Goals as goal

pub loop-effect-preserved : goal.loop-effect-preserved
loop-effect-preserved c =
    let es = c.args.effects.now in
    let k = c.loop-effect.effect-index in
    let e = c.effect-item.result in
    let makes = counted_more makes_own es k e c.loop-effect-test.true c.effect-item.is in
    let opens = counted_more opens_group es k e c.loop-effect-test.true c.effect-item.is in
    let made : c.if-makes_own.counts.made ≡ c.args.frame.now.made + count_by makes_own (effect_views (take (k + 1) es)) =
    elim c.if-makes_own.branch [
      | then-makes_own+in_ok-counts w ↦ omega (arith, ap (λ (n : MadeCounts). n.made) w.counts-is, w.in_ok-counts.ensures.1, c.loop-effect.invariant.made, makes.0 (sym c.makes_own.ensures ∙ w.if-makes_own.true))
      | else-makes_own w ↦ omega (arith, ap (λ (n : MadeCounts). n.made) w.counts-is, c.loop-effect.invariant.made, makes.1 (sym c.makes_own.ensures ∙ w.if-makes_own.false))
    ] in
    let opened : c.if-makes_own.counts.opened ≡ c.loop-effect.counts.opened =
    elim c.if-makes_own.branch [
      | then-makes_own+in_ok-counts w ↦ ap (λ (n : MadeCounts). n.opened) w.counts-is
      | else-makes_own w ↦ ap (λ (n : MadeCounts). n.opened) w.counts-is
    ] in
    elim c.if-opens_group.branch [
      | then-opens_group+in_ok-counts-2 v ↦ record {
        made = ap (λ (n : MadeCounts). n.made) v.counts-is ∙ made;
        opened = omega (arith, ap (λ (n : MadeCounts). n.opened) v.counts-is, v.in_ok-counts-2.ensures.1, opened, c.loop-effect.invariant.opened, opens.0 (sym c.opens_group.ensures ∙ v.if-opens_group.true));
      }
      | else-opens_group v ↦ record {
        made = ap (λ (n : MadeCounts). n.made) v.counts-is ∙ made;
        opened = omega (arith, ap (λ (n : MadeCounts). n.opened) v.counts-is, opened, c.loop-effect.invariant.opened, opens.1 (sym c.opens_group.ensures ∙ v.if-opens_group.false));
      }
    ]

pub returns-clause-made : goal.returns-clause-made
returns-clause-made c =
    c.loop-effect.invariant.made ∙ ap (λ (es : List Effect). c.args.frame.now.made + count_by makes_own (effect_views es)) (take_all c.loop-effect.effect-index c.args.effects.now (omega (arith, c.loop-effect-test.false)))

pub returns-clause-opened : goal.returns-clause-opened
returns-clause-opened c =
    c.loop-effect.invariant.opened ∙ ap (λ (es : List Effect). c.args.frame.now.opened + count_by opens_group (effect_views es)) (take_all c.loop-effect.effect-index c.args.effects.now (omega (arith, c.loop-effect-test.false)))

use Rattle.swift_explorer.proofs.Prelude.{◌≡◌, ◌<◌, ◌∙◌, length, sym, subst, ap, arith, false≢true, arc_value, ScriptView, HasGoneOn, IsExpandedAt, IsSound}
use Rattle.swift_explorer.proofs.Growing.{gone_one, gone_still, grown_none, grown_on}
use Rattle.swift_explorer.proofs.search.Search.go_through.Goals as goal

pub loop-init : goal.loop-init
loop-init c = record { grown = grown_none c.args.self.now; gone_on = c.requires; far = omega arith; met = λ is. is }

pub loop-preserved : goal.loop-preserved
loop-preserved c =
    let x = c.args.self.now in
    let s = c.loop.self in
    let z = c.expand.new.self in
    let k = c.loop.next in
    let script = arc_value x.script in
    let old = c.loop.invariant in
    let made = c.in_ok-expand.ensures in
    let own : arc_value s.script ≡ script = ap arc_value old.grown.script in
    let there : k < length s.nodes = omega (arith, c.if-next-len.false, c.len.ensures) in
    let far = old.far in
    record {
      grown = grown_on x s z old.grown made.grown;
      gone_on = gone_one script s z k old.gone_on there made.grown (subst (λ (sc : ScriptView). IsSound sc z) own made.sound)
          (λ is. subst (λ (sc : ScriptView). IsExpandedAt sc z k) own (made.expanded is));
      far = omega (arith, far);
      met = λ is. absurd (false≢true (sym c.if-self-2.false ∙ is));
    }

pub returns-then-self-2-clause-gone_on : goal.returns-then-self-2-clause-gone_on
returns-then-self-2-clause-gone_on c =
    let x = c.args.self.now in
    let s = c.loop.self in
    let z = c.expand.new.self in
    let k = c.loop.next in
    let script = arc_value x.script in
    let old = c.loop.invariant in
    let made = c.in_ok-expand.ensures in
    let own : arc_value s.script ≡ script = ap arc_value old.grown.script in
    subst (λ (sc : ScriptView). HasGoneOn sc z k) (sym (ap arc_value made.grown.script ∙ own))
    (gone_still script s z k old.gone_on made.grown (subst (λ (sc : ScriptView). IsSound sc z) own made.sound))

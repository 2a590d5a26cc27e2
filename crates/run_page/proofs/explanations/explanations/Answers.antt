use Rattle.run_page.proofs.Prelude.{◌<◌, ◌≤◌, [], length, drop, rules, refl, subst, sym, ap, append-nil, drop_all, AreTold, applied_turns}
use Rattle.run_page.proofs.Explained.{more}
use Rattle.run_page.proofs.explanations.explanations.Goals as goal

pub loop-place-init : goal.loop-place-init
loop-place-init c =
    let p = c.args.script.now in
    let r = c.args.report.now in
    record {
      told = λ rest whole are written. (rest, subst (λ ts. AreTold p r ts rest) c.first_explained-place.ensures are, written);
      end = search rules;
    }

pub loop-place-preserved : goal.loop-place-preserved
loop-place-preserved c =
    let p = c.args.script.now in
    let r = c.args.report.now in
    let es = r.log.events in
    let k = c.loop-place.place in
    let lt : k < length es = search rules in
    record {
      told = λ rest whole are written.
          let found = more p r k es c.event.result c.applied_turn-turn.result c.loop-place.out.items _ whole rest lt c.event.ensures c.applied_turn-turn.ensures c.in_ok-explanation_of.ensures are written in
          c.loop-place.invariant.told found.0 whole found.1 found.2;
      end = c.loop-place.invariant.end;
    }

pub returns : goal.returns
returns c =
    let p = c.args.script.now in
    let r = c.args.report.now in
    let es = r.log.events in
    let k = c.loop-place.place in
    let past : length es ≤ k = search rules in
    let none : AreTold p r (applied_turns (drop k es)) [] = subst (λ ts. AreTold p r ts []) (sym (ap applied_turns (drop_all k es past))) refl in
    c.loop-place.invariant.told [] c.loop-place.out.items none (sym (append-nil c.loop-place.out.items))

use Rattle.explorer_json.proofs.Prelude.{◌<◌, ◌+◌, length, sym, ap, ◌∙◌, arith, begins}
use Rattle.std.proofs.lemmas.List.Sums.{count_by_more_no, count_by_more_yes}
use Rattle.swift_explorer.specs.declared.moves.Move.TheVariants as step
use Rattle.explorer_json.proofs.schedule.turns_before.Goals.{then-begins, else-begins}
use Rattle.explorer_json.proofs.schedule.turns_before.Goals as goal

pub loop-at-preserved : goal.loop-at-preserved
loop-at-preserved c =
    let path = c.args.path.now in
    let t = c.args.task.0 in
    let k = c.loop-at.at in
    let old = c.loop-at.invariant in
    let lt : k < length path = omega (arith, c.loop-at-test.true, c.requires) in
    elim c.if-begins.branch [
      | then-begins w ↦ record {
        counted = w.turns-is ∙ ap (λ n. n + 1) old.counted ∙ sym (count_by_more_yes (begins t) path k step.Add lt (sym c.begins.ensures ∙ w.if-begins.true));
        few = omega (arith, w.turns-is, old.few);
      }
      | else-begins w ↦ record {
        counted = w.turns-is ∙ old.counted ∙ sym (count_by_more_no (begins t) path k step.Add lt (sym c.begins.ensures ∙ w.if-begins.false));
        few = omega (arith, w.turns-is, old.few);
      }
    ]

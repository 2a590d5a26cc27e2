use Rattle.std.proofs.Common.{◌<◌, ◌++◌, ◌∷◌, List, [], length, take, subst, sym, ap, ◌∙◌, rules}
use Rattle.std.proofs.lemmas.List.{take_more}
use Rattle.explorer_progress.specs.declared.hint.RepeatedTask.{RepeatedTask}
use Rattle.explorer_progress.specs.declared.turns.TurnAt.{TurnAt}
use Rattle.explorer_progress.specs.HintsInside.{AreRecords}
use Rattle.explorer_progress.specs.Rounds.{with_task}
use Rattle.explorer_progress.proofs.Rounds.{records_push, tasks_push}
use Rattle.explorer_progress.proofs.hint.tasks_of.Goals as goal

pub loop-place-preserved : goal.loop-place-preserved
loop-place-preserved c =
    let report = c.args.run.now.report in
    let turns = c.args.turns.now in
    let place = c.loop-place.place in
    let before = c.loop-place.invariant in
    let r = c.in-Some.ensures.0 in
    let within : place < length turns = search rules in
    let are = records_push report (take place turns) before.0 _ r before.1 c.in-Some.ensures.1 in (
      before.0 ++ r ∷ [],
      subst (λ (ts : List TurnAt). AreRecords report ts (before.0 ++ r ∷ [])) (sym (take_more turns place _ within)) are,
      c.in_ok-add_task.ensures r c.in-Some.ensures.2 ∙ ap (λ (ts : List RepeatedTask). with_task ts r) before.2 ∙ sym (tasks_push [] before.0 r),
    )

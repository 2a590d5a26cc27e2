use Rattle.std.proofs.Common.{rules}
use Rattle.explorer_progress.specs.HintsInside.{RepeatsAt}
use Rattle.explorer_progress.proofs.Rounds.{all_more}
use Rattle.explorer_progress.proofs.repeated.first_repeated.Goals as goal

pub loop-preserved : goal.loop-preserved
loop-preserved c =
    let here : RepeatsAt c.args.run.now c.args.turns.now c.args.period c.saturating_sub-later.result = search rules in
    all_more _ _ _ _ _ _ c.saturating_sub-later.ensures here c.loop.invariant

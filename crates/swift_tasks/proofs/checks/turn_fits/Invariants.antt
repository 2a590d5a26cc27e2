use Rattle.swift_tasks.proofs.Prelude.{◌≡◌, ◌+◌, ◌≤◌, drop, effect_views, exit_view, fits_turn, counters_of}
use Rattle.swift_tasks.proofs.checks.turn_fits.Given as goal

abbrev pub invariant-loop-effect : goal.invariant-loop-effect
invariant-loop-effect l = record {
  rest : fits_turn l.script l.task.0 l.ledger.log (counters_of l.counts) (effect_views (drop l.effect-index l.effects)) (exit_view l.exit)
      ≡ fits_turn l.script l.task.0 l.ledger.log (counters_of l.initial.counts) (effect_views l.effects) (exit_view l.exit);
  few : l.counts.own + l.counts.room ≤ l.initial.counts.own + l.initial.counts.room;
}

use Rattle.std.proofs.Common.{◌≡◌, length}
use Rattle.explorer_progress.specs.HintsInside.{ArePlayed}
use Rattle.explorer_progress.proofs.again.played_turns.Given as goal

abbrev pub invariant-loop-executor : goal.invariant-loop-executor
invariant-loop-executor l = record {
  many : length l.values.items ≡ l.executor;
  played : ArePlayed l.script l.report l.values.items;
}

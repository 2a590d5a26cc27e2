use Rattle.swift_explorer.proofs.Prelude.{◌<◌, ◌^◌, length, Contains, Move, HasEach, MayBegin}
use Rattle.swift_explorer.specs.declared.moves.Move.TheVariants as step
use Rattle.swift_explorer.proofs.history.SearchedHistory.push_begins.Given as goal

abbrev pub invariant-loop-place : goal.invariant-loop-place
invariant-loop-place l = record {
  kept : (m : Move) → Contains l.fn.moves.items m → Contains l.moves.items m;
  all : length l.self.steps.tasks.items < 2 ^ 32 → HasEach step.Begin MayBegin l.self l.place l.moves.items;
}

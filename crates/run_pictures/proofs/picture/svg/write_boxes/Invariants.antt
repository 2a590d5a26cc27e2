use Rattle.std.proofs.Common.{ℕ, List, ◌++◌, drop}
use Rattle.swift_types.specs.declared.outcome.Ending.{Ending}
use Rattle.swift_events.specs.declared.life.Origin.{Origin}
use Rattle.run_pictures.specs.Drawn.{AreDrawn}
use Rattle.run_pictures.specs.SaysInside.{AreNames, Says, sheet_of}
use Rattle.run_pictures.proofs.picture.svg.write_boxes.Given as goal

abbrev pub invariant-loop-place : goal.invariant-loop-place
invariant-loop-place l = (es : List (Origin × Ending)) → AreNames l.view.script.now es l.view.names.now
    → (words : List ℕ) × Says l.initial.out l.out words
    × ((more : List ℕ) → AreDrawn (sheet_of l.view.script.now es l.view.layout.now) (drop l.place l.turns.items) (drop l.place l.placed.items) more
    → AreDrawn (sheet_of l.view.script.now es l.view.layout.now) l.turns.items l.placed.items (words ++ more))

use Rattle.std.proofs.Common.{◌≡◌, List, [], take}
use Rattle.swift_journal.specs.Records.{RecordView}
use Rattle.explorer_progress.specs.HintsInside.{AreRecords}
use Rattle.explorer_progress.specs.Rounds.{tasks_of}
use Rattle.explorer_progress.proofs.hint.tasks_of.Given as goal

abbrev pub invariant-loop-place : goal.invariant-loop-place
invariant-loop-place l = (round : List RecordView) × AreRecords l.run.report (take l.place l.turns) round × (l.tasks.items ≡ tasks_of [] round)

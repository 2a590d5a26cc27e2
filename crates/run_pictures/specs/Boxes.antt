-- The boxes of a picture (our own).
use Rattle.std.specs.Prelude.{ℕ, ◌+◌, List, [], ◌∷◌, ◌++◌, map}
use Rattle.swift_journal.specs.Records.{RecordView, brief_of}
use Rattle.run_pictures.specs.declared.picture.boxes.TurnBox.{TurnBox}

-- the box of a turn of this executor: its task, its number there, its worker and its method, what it was given and began with,
-- and how it ended
abbrev pub box_of : ℕ → RecordView → TurnBox
box_of e r = record { executor = e; task = record { 0 = r.task }; number = r.number; worker = r.worker; method = record { 0 = r.frame.method }; env = r.env; resume = r.resume; exit = brief_of r.exit }

-- One box for each turn of the journals of the executors from this number on, in the order of executors and then of turns.
abbrev pub boxes_of : ℕ → List (List RecordView) → List TurnBox
boxes_of e [] = []
boxes_of e (j ∷ js) = map (box_of e) j ++ boxes_of (e + 1) js

-- The text of a report with what is said of each turn below its line (the format is our own).
use Rattle.std.specs.Prelude.{ℕ, zero, suc, ◌+◌, ℤ, true, Option, Some, None, List, [], ◌∷◌, ◌++◌, codes, decimal, length, slice_get}
use Rattle.swift_types.specs.declared.outcome.Ending.{Ending}
use Rattle.swift_events.specs.declared.life.Origin.{Origin}
use Rattle.swift_script.specs.Scripts.{ScriptView, executor_actors}
use Rattle.swift_journal.specs.Checkpoints.{CheckpointRoomView}
use Rattle.swift_journal.specs.Records.{RecordView}
use Rattle.swift_history.specs.Replay.{fields_after}
use Rattle.swift_report.specs.Text.{folded_count, folded_text, heading_text, line_of, report_text, turn_text}
use Rattle.swift_report.specs.declared.report.Report.{Report}
use Rattle.nuchapay_runs.specs.False.{false_lines, invariants_among}
use Rattle.nuchapay_runs.specs.Notes.{change_lines, note_lines}
use Rattle.run_pictures.specs.Values.{ValuesView, turn_values}
use Rattle.run_pictures.specs.declared.values.change.Change.{Change}
use Rattle.run_pictures.specs.declared.values.change.Outcome.{Outcome}
use Rattle.run_pictures.specs.declared.values.change.Outcome.TheVariants.{Kept, Broke}
use Rattle.task_names.specs.Names.{task_name}

-- The line of the invariant that a turn would have left false, if it is one.
abbrev pub broken_lines : ScriptView → ℕ → List Change → List (List ℤ) → Outcome → List (List ℕ)
broken_lines p e changes before (Broke k) = false_lines p e changes before (slice_get (invariants_among p (executor_actors p e)) k)
broken_lines p e changes before _ = []

-- What stands before a change: of a turn that was kept nothing.
abbrev pub front_of : Outcome → List ℕ
front_of Kept = []
front_of _ = codes "would have left "

-- What is said of a turn: a line for each of its changes, and one for the invariant that it would have left false.
abbrev pub notes_text : ScriptView → ℕ → List (List ℤ) → ValuesView → List ℕ
notes_text p e before v = note_lines (change_lines p e (front_of v.outcome) v.changes) ++ note_lines (broken_lines p e v.changes before v.outcome)

-- what a task is called, beside its number
abbrev pub called_text : ScriptView → List (Origin × Ending) → ℕ → List ℕ
called_text p es t = codes "t" ++ decimal t ++ codes " is " ++ task_name p es t

-- What is said of the task of a turn with this number: at its first turn what the task is called.
abbrev pub first_lines : ScriptView → List (Origin × Ending) → ℕ → ℕ → List (List ℕ)
first_lines p es t zero = called_text p es t ∷ []
first_lines p es t (suc n) = []

-- the line of a turn at this place, and below it what is said of its task and of the turn, where tasks come from there and these are the
-- fields before it
abbrev pub noted_turn : ScriptView → List (Origin × Ending) → ℕ → ℕ → List (List ℤ) → RecordView → List ℕ
noted_turn p es e place before r = turn_text p place (line_of r) ++ note_lines (first_lines p es r.task r.number) ++ notes_text p e before (turn_values p before r)

-- those of the turns from this place of a journal on, each on the fields that those before it leave
abbrev pub noted_turns : ScriptView → List (Origin × Ending) → ℕ → ℕ → List (List ℤ) → List RecordView → List ℕ
noted_turns p es e place before [] = []
noted_turns p es e place before (r ∷ rs) = noted_turn p es e place before r ++ noted_turns p es e (place + 1) (fields_after p before r) rs

-- the fields from before an executor's journal
abbrev pub fields_before : Option CheckpointRoomView → List (List ℤ)
fields_before None = []
fields_before (Some c) = c.view.fields

-- the lines of executor `e`, with `folded` turns that were folded
abbrev pub noted_executor : ScriptView → List (Origin × Ending) → ℕ → ℕ → List (List ℤ) → List RecordView → List ℕ
noted_executor p es e folded before j = heading_text p e (folded + length j) ++ folded_text folded ++ noted_turns p es e folded before j

-- the lines of the executors from this number on
abbrev pub noted_executors : ScriptView → List (Origin × Ending) → List CheckpointRoomView → ℕ → List (List RecordView) → List ℕ
noted_executors p es cs k [] = []
noted_executors p es cs k (j ∷ js) = noted_executor p es k (folded_count (slice_get cs k)) (fields_before (slice_get cs k)) j ++ noted_executors p es cs (k + 1) js

-- The text of a report with its journals, as `report_text` has it, and below the line of each turn what is said of it.
abbrev pub noted_text : ScriptView → Report → List ℕ
noted_text p r = codes "journals\n" ++ noted_executors p r.endings.items r.checkpoints.items 0 r.journals.items ++ report_text p r true

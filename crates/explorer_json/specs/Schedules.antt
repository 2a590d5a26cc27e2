-- A schedule as JSON (the format is our own).
use Rattle.std.specs.Prelude.{ℕ, ◌+◌, ◌-◌, Option, Some, None, List, [], ◌∷◌, ◌++◌, codes, decimal}
use Rattle.std.specs.declared.vec.Vec.{Vec}
use Rattle.std.specs.declared.alloc.Global.{Global}
use Rattle.swift_explorer.specs.declared.moves.Move.{Move}
use Rattle.swift_explorer.specs.declared.moves.Move.TheVariants as step
use Rattle.swift_explorer.specs.FoundText.{turns_before}
use Rattle.swift_report.specs.ReportJson.{comma}

-- which turn: its task, and its number among those of the task
abbrev pub turn_json : ℕ → ℕ → List ℕ
turn_json t n = codes ",\"task\":" ++ decimal t ++ codes ",\"turn\":" ++ decimal n ++ codes "}"

-- The step at a place of a schedule: the next root is added, the next turn of a task begins, or the turn that a task has begun runs.
abbrev pub step_json : List Move → ℕ → Move → List ℕ
step_json path place step.Add = codes "{\"is\":\"add\"}"
step_json path place (step.Begin t) = codes "{\"is\":\"begin\"" ++ turn_json t.0 (turns_before t.0 path place)
step_json path place (step.Run t) = codes "{\"is\":\"run\"" ++ turn_json t.0 (turns_before t.0 path place - 1)

-- the last steps of a schedule, from this place on
abbrev pub steps_json : List Move → ℕ → List Move → List ℕ
steps_json path place [] = []
steps_json path place (m ∷ ms) = (comma 0 place ++ step_json path place m) ++ steps_json path (place + 1) ms

-- a schedule: a list of its steps
abbrev pub schedule_json : List Move → List ℕ
schedule_json path = codes "[" ++ steps_json path 0 path ++ codes "]"

-- the schedule to a turn that is undone, or that none was found
abbrev pub broken_json : Option (Vec Move Global) → List ℕ
broken_json None = codes "null"
broken_json (Some schedule) = schedule_json schedule.items

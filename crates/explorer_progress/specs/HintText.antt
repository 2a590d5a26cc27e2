-- A hint in words, as bytes (the format is our own).
use Rattle.std.specs.Prelude.{ℕ, ◌+◌, ◌-◌, ◌==◌, List, [], ◌∷◌, ◌++◌, codes, decimal, if◌then◌else◌, length}
use Rattle.swift_types.specs.declared.outcome.Ending.{Ending}
use Rattle.swift_events.specs.declared.life.Origin.{Origin}
use Rattle.swift_script.specs.Scripts.{ScriptView}
use Rattle.task_names.specs.Names.{task_name}
use Rattle.explorer_progress.specs.declared.hint.NoProgress.{NoProgress}
use Rattle.explorer_progress.specs.declared.hint.RepeatedTask.{RepeatedTask}

-- a task, with its name beside its number
abbrev pub called_text : ScriptView → List (Origin × Ending) → ℕ → List ℕ
called_text p es t = codes "t" ++ decimal t ++ codes " (" ++ task_name p es t ++ codes ")"

-- what stands before a task at this place, of so many
abbrev pub between_text : ℕ → ℕ → List ℕ
between_text place many = if place == 0 then codes "" else (if place == many - 1 then codes " and " else codes ", ")

-- that and the task
abbrev pub listed_text : ScriptView → List (Origin × Ending) → ℕ → ℕ → RepeatedTask → List ℕ
listed_text p es place many one = between_text place many ++ called_text p es one.task.0

-- tasks from this place on, of so many
abbrev pub tasks_text : ScriptView → List (Origin × Ending) → ℕ → ℕ → List RepeatedTask → List ℕ
tasks_text p es place many [] = []
tasks_text p es place many (one ∷ rest) = listed_text p es place many one ++ tasks_text p es (place + 1) many rest

-- what one task does, or several do
abbrev pub verb_text : ℕ → List ℕ
verb_text many = if many == 1 then codes " repeats the last " else codes " repeat the last "

-- so many turns
abbrev pub turns_text : ℕ → List ℕ
turns_text turns = if turns == 1 then codes "turn" else (decimal turns ++ codes " turns")

-- so many turns, and of what
abbrev pub round_text : ℕ → List ℕ
round_text turns = turns_text turns ++ codes " of this schedule, and no other task is ready"

-- how many turns so many tasks repeat
abbrev pub repeats_text : ℕ → ℕ → List ℕ
repeats_text many turns = verb_text many ++ round_text turns

-- Which tasks repeat how many turns.
abbrev pub hint_text : ScriptView → NoProgress → List ℕ
hint_text p hint =
    tasks_text p hint.endings.items 0 (length hint.tasks.items) hint.tasks.items ++ repeats_text (length hint.tasks.items) hint.turns

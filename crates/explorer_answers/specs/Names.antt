-- What the tasks of an outcome are called, as bytes (the format is our own).
use Rattle.std.specs.Prelude.{ℕ, ◌+◌, Option, Some, None, List, [], ◌∷◌, ◌++◌, codes, decimal}
use Rattle.swift_types.specs.declared.id.TaskId.{TaskId}
use Rattle.swift_types.specs.declared.outcome.Ending.{Ending}
use Rattle.swift_events.specs.declared.life.Origin.{Origin}
use Rattle.swift_script.specs.Scripts.{ScriptView}
use Rattle.task_names.specs.Names.{maker_of, task_name}

-- A task that this one has made, with its name beside its number; nothing where none has made it, since the line of a root has its name.
abbrev pub made_text : ScriptView → List (Origin × Ending) → ℕ → Option TaskId → List ℕ
made_text p es t None = []
made_text p es t (Some maker) = codes " t" ++ decimal t ++ codes " (" ++ task_name p es t ++ codes ")"

-- those of the tasks from this number on
abbrev pub made_texts : ScriptView → List (Origin × Ending) → ℕ → List (Origin × Ending) → List ℕ
made_texts p es t [] = []
made_texts p es t (e ∷ rest) = made_text p es t (maker_of e.0) ++ made_texts p es (t + 1) rest

-- a line of names, where there are any
abbrev pub names_line : List ℕ → List ℕ
names_line [] = []
names_line (x ∷ xs) = codes "names" ++ (x ∷ xs) ++ codes "\n"

-- The names of the tasks of an outcome that are no roots, in a line.
abbrev pub names_text : ScriptView → List (Origin × Ending) → List ℕ
names_text p es = names_line (made_texts p es 0 es)

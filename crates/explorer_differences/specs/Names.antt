-- What the tasks of two outcomes are called, as bytes (the format is our own).
use Rattle.std.specs.Prelude.{ℕ, zero, suc, ◌+◌, List, [], ◌∷◌, ◌++◌, bytes_eq, codes, decimal, if◌then◌else◌, length}
use Rattle.swift_types.specs.declared.outcome.Ending.{Ending}
use Rattle.swift_events.specs.declared.life.Origin.{Origin}
use Rattle.swift_script.specs.Scripts.{ScriptView}
use Rattle.swift_explorer.specs.declared.outcome.RunOutcome.{RunOutcome}
use Rattle.task_names.specs.Names.{task_name}

-- a task, with its name beside its number
abbrev pub called_text : ScriptView → List (Origin × Ending) → ℕ → List ℕ
called_text p es t = codes " t" ++ decimal t ++ codes " (" ++ task_name p es t ++ codes ")"

-- so many tasks, from this number on
abbrev pub called_texts : ScriptView → List (Origin × Ending) → ℕ → ℕ → List ℕ
called_texts p es t zero = []
called_texts p es t (suc n) = called_text p es t ++ called_texts p es (t + 1) n

-- the tasks of an outcome, roots too: the line of a root that ends alike is left out
abbrev pub names_of : ScriptView → RunOutcome → List ℕ
names_of p o = called_texts p o.endings.items 0 (length o.endings.items)

-- what tasks are called in both outcomes, in a line, where there are any
abbrev pub shared_names : List ℕ → List ℕ
shared_names [] = []
shared_names (b ∷ bs) = codes "names" ++ (b ∷ bs) ++ codes "\n"

-- what they are called in outcome n
abbrev pub own_names : ℕ → List ℕ → List ℕ
own_names n names = codes "names in " ++ decimal n ++ codes ":" ++ names ++ codes "\n"

-- What tasks are called in outcomes a and b: in one line, where that is the same.
abbrev pub names_difference : ℕ → ℕ → List ℕ → List ℕ → List ℕ
names_difference a b x y = if bytes_eq x y then shared_names x else (own_names a x ++ own_names b y)

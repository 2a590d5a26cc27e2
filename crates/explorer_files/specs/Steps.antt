-- A schedule as a value of JSON has it (the format is our own).
use Rattle.std.specs.Prelude.{◌≡◌, ℕ, Some, List, [], ◌∷◌, codes, option_and_then}
use Rattle.serde_json.specs.Data.{Data}
use Rattle.serde_json.specs.Find.{as_array, as_number, as_str, as_u64, get}
use Rattle.serde_json.specs.View.{items_of}
use Rattle.swift_explorer.specs.declared.moves.Move.{Move}
use Rattle.swift_explorer.specs.declared.moves.Move.TheVariants as step

-- the member `is` of a step is this word
abbrev pub HasWord : List ℕ → Data → Type 0
HasWord word value = option_and_then as_str (get (codes "is") value) ≡ Some word

-- the member `task` of a step is this number
abbrev pub HasTask : ℕ → Data → Type 0
HasTask task value = option_and_then as_u64 (option_and_then as_number (get (codes "task") value)) ≡ Some task

-- A value is a step: the next root is added, the next turn of a task begins, or the turn that a task has begun runs.
abbrev pub IsSavedStep : Data → Move → Type 0
IsSavedStep value step.Add = HasWord (codes "add") value
IsSavedStep value (step.Begin task) = HasWord (codes "begin") value × HasTask task.0 value
IsSavedStep value (step.Run task) = HasWord (codes "run") value × HasTask task.0 value

-- these values are these steps, in order
abbrev pub AreSavedSteps : List Data → List Move → Type 0
AreSavedSteps [] [] = Unit {0}
AreSavedSteps (v ∷ vs) (s ∷ ss) = IsSavedStep v s × AreSavedSteps vs ss
AreSavedSteps _ _ = ⊥

-- A value is a schedule: a list of its steps.
pub record IsSavedSchedule (value : Data) (schedule : List Move) : Type 0 where
  pub values : List Data
  pub is : as_array value ≡ Some (items_of values)
  pub steps : AreSavedSteps values schedule

-- What a file has that `explore --save` has written (the format is our own).
use Rattle.std.specs.Prelude.{◌≡◌, ◌≢◌, ◌⊎◌, ℕ, ◌<◌, ◌-◌, Option, Some, None, List, codes, length, option_and_then}
use Rattle.serde_json.specs.Data.{Data, null}
use Rattle.serde_json.specs.Find.{as_array, as_str, at, get}
use Rattle.serde_json.specs.Read.{read}
use Rattle.serde_json.specs.View.{items_of}
use Rattle.script_sums.specs.Sums.{script_sum}
use Rattle.swift_explorer.specs.declared.moves.Move.{Move}
use Rattle.explorer_files.specs.Steps.{IsSavedSchedule}
use Rattle.explorer_files.specs.declared.saved.SavedChoice.{SavedChoice}
use Rattle.explorer_files.specs.declared.saved.SavedChoice.TheVariants.{Outcome, Broken}
use Rattle.explorer_files.specs.declared.saved.SavedSchedule.{SavedSchedule}
use Rattle.explorer_files.specs.declared.saved.SavedSchedule.TheVariants as saved

-- the sum that a value says its script has
abbrev pub sum_in : Data → Option (List ℕ)
sum_in value = option_and_then as_str (get (codes "script") value)

-- where the schedule stands that is meant: in the outcome with this number, from 1, or beside the outcomes
abbrev pub schedule_in : SavedChoice → Data → Option Data
schedule_in (Outcome number) value = option_and_then (get (codes "schedule")) (option_and_then (at (number - 1)) (get (codes "outcomes") value))
schedule_in Broken value = get (codes "undone") value

-- a value is there, and is this schedule
abbrev pub IsPart : Option Data → List Move → Type 0
IsPart (Some part) schedule = IsSavedSchedule part schedule
IsPart None schedule = ⊥

-- a value has so many outcomes
pub record HasOutcomes (value : Data) (many : ℕ) : Type 0 where
  pub outcomes : List Data
  pub is : option_and_then as_array (get (codes "outcomes") value) ≡ Some (items_of outcomes)
  pub counted : many ≡ length outcomes

-- the outcome that is meant is none of so many
abbrev pub IsMissing : SavedChoice → ℕ → Type 0
IsMissing (Outcome number) many = (number ≡ 0) ⊎ (many < number)
IsMissing Broken many = ⊥

-- What stands in a value of the schedule that is meant: its steps; or that there is no such outcome, or no turn that is undone.
abbrev pub IsFoundIn : SavedChoice → Data → SavedSchedule → Type 0
IsFoundIn choice value (saved.Steps steps) = IsPart (schedule_in choice value) steps.items
IsFoundIn choice value (saved.NoOutcome many) = HasOutcomes value many × IsMissing choice many
IsFoundIn choice value saved.NoneBroken = get (codes "undone") value ≡ Some null
IsFoundIn choice value saved.OtherScript = ⊥
IsFoundIn choice value saved.OtherFile = Unit {0}

-- a value's script has another sum than this one
pub record HasOtherSum (sum : List ℕ) (value : Data) : Type 0 where
  pub own : List ℕ
  pub is : sum_in value ≡ Some own
  pub other : own ≢ sum

-- What stands in a value of the schedule that is meant, if its script has this sum.
abbrev pub IsSavedIn : List ℕ → SavedChoice → Data → SavedSchedule → Type 0
IsSavedIn sum choice value (saved.Steps steps) = (sum_in value ≡ Some sum) × IsFoundIn choice value (saved.Steps steps)
IsSavedIn sum choice value (saved.NoOutcome many) = (sum_in value ≡ Some sum) × IsFoundIn choice value (saved.NoOutcome many)
IsSavedIn sum choice value saved.NoneBroken = (sum_in value ≡ Some sum) × IsFoundIn choice value saved.NoneBroken
IsSavedIn sum choice value saved.OtherScript = HasOtherSum sum value
IsSavedIn sum choice value saved.OtherFile = Unit {0}

-- A file is JSON, and this holds of its value.
pub record IsRead (file : List ℕ) (P : Data → Type 0) : Type 0 where
  pub value : Data
  pub is : read file ≡ Some value
  pub holds : P value

-- What stands in a file of the schedule that is meant: that of its value, if it is of this script. Of a file that is said to be no such
-- file nothing is said.
abbrev pub IsSavedAs : List ℕ → List ℕ → SavedChoice → SavedSchedule → Type 0
IsSavedAs file script choice (saved.Steps steps) = IsRead file (λ value. IsSavedIn (script_sum script) choice value (saved.Steps steps))
IsSavedAs file script choice saved.OtherScript = IsRead file (λ value. IsSavedIn (script_sum script) choice value saved.OtherScript)
IsSavedAs file script choice (saved.NoOutcome many) = IsRead file (λ value. IsSavedIn (script_sum script) choice value (saved.NoOutcome many))
IsSavedAs file script choice saved.NoneBroken = IsRead file (λ value. IsSavedIn (script_sum script) choice value saved.NoneBroken)
IsSavedAs file script choice saved.OtherFile = Unit {0}

-- The printed form of a text (our own).
use Rattle.std.specs.Prelude.{◌≡◌, ◌⊎◌, ◌≤◌, ℕ, List, length}
use Rattle.swift_types.specs.declared.limits.TheConstants.{BYTES}
use Rattle.script_parser.specs.declared.limits.TheConstants.{NESTING}
use Rattle.script_printing.specs.Printed.{printed}
use Rattle.swift_script.specs.Accepted.{IsAccepted, Spells}
use Rattle.swift_script.specs.Scripts.{ScriptView}

-- A text is accepted as a script, and what is said is its printed form: it spells the same script, and is accepted as it
-- unless it is too long.
pub record IsPrintedOf (text said : List ℕ) : Type 0 where
  pub script : ScriptView
  pub accepted : IsAccepted text script
  pub is : said ≡ printed script
  pub spells : Spells NESTING said script
  pub reads : length said ≤ BYTES → IsAccepted said script

-- A text is accepted as a script, and what is said spells the same script. It is accepted as it, or is its printed form.
pub record IsLaidOutOf (text said : List ℕ) : Type 0 where
  pub script : ScriptView
  pub accepted : IsAccepted text script
  pub spells : Spells NESTING said script
  pub reads : IsAccepted said script ⊎ (said ≡ printed script)

-- Which rule a compiled script breaks. No public clause names these words.
use Rattle.std.specs.Prelude.{◌≡◌, ℕ, Some, None}
use Rattle.script_compiler.specs.Waits.{NoneBefore}
use Rattle.script_compiler.specs.Waiting.{edges_of, waits_of, root_methods}
use Rattle.script_printing.specs.Script.{ScriptView}
use Rattle.swift_script.specs.declared.start.BrokenRule.{BrokenRule}
use Rattle.swift_script.specs.declared.start.BrokenRule.TheVariants as rule
use Rattle.swift_script.specs.Accepted.{first_false, RootWaits}
use Rattle.swift_script.specs.Scripts.{parts_of}

-- None of a script's roots before a place waits for itself or for a later one.
abbrev pub NoneEarlier : ScriptView → ℕ → Type 0
NoneEarlier s root = NoneBefore (edges_of (parts_of s)) (waits_of (parts_of s)) (root_methods (parts_of s)) root

-- Each invariant holds at the start, and the root at a place is the first that waits for itself or for a later one.
pub record IsFirstWaiting (s : ScriptView) (root : ℕ) : Type 0 where
  pub starts : first_false s ≡ None
  pub waits : RootWaits s root
  pub first : NoneEarlier s root

-- A script breaks a rule, and none that is looked for before it.
abbrev pub IsBroken : ScriptView → BrokenRule → Type 0
IsBroken s (rule.FalseInvariant actor) = first_false s ≡ Some actor
IsBroken s (rule.WaitingRoot root) = IsFirstWaiting s root

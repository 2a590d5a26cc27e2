-- Which executor a state is of. No public clause names this.
use Rattle.std.specs.Prelude.{ℕ}
use Rattle.swift_script.specs.Scripts.{ScriptView}

-- an executor of a script, by its number
pub record HomeView : Type 0 where
  pub script : ScriptView
  pub executor : ℕ

-- A search that is made in parts, as callers see it (our own).
use Rattle.std.specs.Prelude.{ℕ, Bool}
use Rattle.swift_script.specs.Scripts.{ScriptView}

-- Of which script it is, how many histories it may keep and how many it has kept, from how many of these it has gone on, how many outcomes
-- it has found, and whether it has left a history out since it may keep no more.
pub record ExplorationView : Type 0 where
  pub script : ScriptView
  pub limit : ℕ
  pub kept : ℕ
  pub gone_on : ℕ
  pub outcomes : ℕ
  pub met_limit : Bool

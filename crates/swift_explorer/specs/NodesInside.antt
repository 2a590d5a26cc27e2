-- Histories that a search has kept. No public clause names these.
use Rattle.std.specs.Prelude.{◌≤◌, ◌-◌, ℕ, All, List, drop, length, take}
use Rattle.swift_explorer.specs.declared.moves.Move.{Move}
use Rattle.swift_explorer.specs.declared.kept.Node.{Node}

-- a history that was kept: these steps after another that was
pub record NodeView : Type 0 where
  pub before : ℕ
  pub moves : List Move

-- the same, of a node by the steps of all of them
abbrev pub node_view : List Move → Node → NodeView
node_view steps n = record { before = n.before; moves = take (n.ends - n.begins) (drop n.begins steps) }

-- the steps of each of these nodes are among these
abbrev pub AreWithin : List Move → List Node → Type 0
AreWithin steps nodes = All (λ n. (n.begins ≤ n.ends) × (n.ends ≤ length steps)) nodes

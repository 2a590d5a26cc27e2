-- Histories that are kept beside nodes. No public clause names these.
use Rattle.std.specs.Prelude.{◌≡◌, ◌⊎◌, ℕ, Option, Some, List, slice_get}
use Rattle.swift_script.specs.Scripts.{ScriptView}
use Rattle.swift_explorer.specs.declared.moves.Move.{Move}
use Rattle.swift_explorer.specs.declared.queue.KeptHistory.{KeptHistory}
use Rattle.swift_explorer.specs.HistoryInside.{IsPath}

-- what stands at `q` was there before, or is what was put to `place`
abbrev pub WasThere : (ℕ → Option KeptHistory) → ℕ → KeptHistory → ℕ → KeptHistory → Type 0
WasThere before place kept q k = (before q ≡ Some k) ⊎ ((q ≡ place) × (kept ≡ k))

-- each history is one to which the steps at its place lead
abbrev pub AreHistories : ScriptView → List (List Move) → (ℕ → Option KeptHistory) → Type 0
AreHistories script paths at = (place : ℕ) (k : KeptHistory) → at place ≡ Some k → (path : List Move) × (slice_get paths place ≡ Some path) × IsPath script path k.history

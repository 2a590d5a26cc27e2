-- The last turn of a task in a journal (our own).
use Rattle.std.specs.Prelude.{◌≡◌, ◌≢◌, ℕ, ◌<◌, List, slice_index_or}
use Rattle.swift_journal.specs.Records.{RecordView}

-- the turn at another place is of another task
abbrev pub IsOfOther : List RecordView → ℕ → ℕ → Type 0
IsOfOther rs place other = (d : RecordView) → (slice_index_or rs other d).task ≢ (slice_index_or rs place d).task

-- the last turn of the same task before this one: each between them is of another task
pub record IsLastTurn (rs : List RecordView) (place last : ℕ) : Type 0 where
  pub before : last < place
  pub same : (d : RecordView) → (slice_index_or rs last d).task ≡ (slice_index_or rs place d).task
  pub between : (other : ℕ) → last < other → other < place → IsOfOther rs place other

-- What a scope keeps of the names in it and of the fields of other actors.
use Rattle.std.specs.Prelude.{◌≡◌, ◌≤◌, ℕ, false, List, take, length, slice_index_or}
use Rattle.script_names.specs.Directory.{DirectoryView, fields_at}
use Rattle.script_names.specs.Scope.{share_a_name}

-- Of the names in scope, the oldest ones are no names of an actor's fields: `counts` says how many, for each actor.
pub record AreCleared (d : DirectoryView) (names : List (List ℕ)) (counts : List ℕ) : Type 0 where
  pub none : (actor : ℕ) → share_a_name (fields_at d actor) (take (slice_index_or counts actor 0) names) ≡ false
  pub within : (actor : ℕ) → slice_index_or counts actor 0 ≤ length names

-- The fields of an executor's actors, as a turn that was played finds and leaves them. No public clause names this.
use Rattle.std.specs.Prelude.{ℤ, List}

-- as they were before the turn, and as it has left them
pub record FieldsAre : Type 0 where
  pub before : List (List ℤ)
  pub after : List (List ℤ)

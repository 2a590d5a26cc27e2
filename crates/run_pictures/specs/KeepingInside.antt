-- The fields after a turn, by what became of it. No public clause names this.
use Rattle.std.specs.Prelude.{ℤ, List}
use Rattle.run_pictures.specs.declared.values.change.Outcome.{Outcome}
use Rattle.run_pictures.specs.declared.values.change.Outcome.TheVariants.{Kept, Undone, Broke}

-- those at its end, or those from before it
abbrev pub fields_of : Outcome → List (List ℤ) → List (List ℤ) → List (List ℤ)
fields_of Kept before after = after
fields_of Undone before after = before
fields_of (Broke k) before after = before

-- An invariant and its actor, as callers see them.
use Rattle.std.specs.Prelude.{ℕ, Option, Some, None}
use Rattle.script_code.specs.Tree.{Term, term_of}
use Rattle.nuchapay_runs.specs.declared.invariants.OwnedInvariant.{OwnedInvariant}

-- the actor, and what its invariant says
abbrev pub owned_of : OwnedInvariant → ℕ × Term
owned_of i = (i.actor.0, term_of i.formula.now)

-- the same, if there is one
abbrev pub owned_if : Option OwnedInvariant → Option (ℕ × Term)
owned_if None = None
owned_if (Some i) = Some (owned_of i)

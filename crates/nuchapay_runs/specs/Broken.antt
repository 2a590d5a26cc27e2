-- Which invariant each turn has broken, in words, as bytes (our own).
use Rattle.std.specs.Prelude.{ℕ, Option, Some, None, List, [], map, slice_get}
use Rattle.script_code.specs.Tree.{Term}
use Rattle.swift_script.specs.Scripts.{ScriptView, executor_actors}
use Rattle.nuchapay_runs.specs.False.{invariants_among, names_of}
use Rattle.nuchapay_runs.specs.Formulas.{formula_text}
use Rattle.run_pictures.specs.declared.values.change.Outcome.{Outcome}
use Rattle.run_pictures.specs.declared.values.change.Outcome.TheVariants.{Broke}
use Rattle.run_pictures.specs.declared.values.change.TurnValues.{TurnValues}

-- an invariant with its actor, in words; nothing where there is none
abbrev pub invariant_if : ScriptView → ℕ → Option (ℕ × Term) → List ℕ
invariant_if p e None = []
invariant_if p e (Some i) = formula_text (names_of p e i.0) i.1

-- The invariant that a turn would have left false, of one of which this became; of any other turn nothing.
abbrev pub broken_text : ScriptView → ℕ → Outcome → List ℕ
broken_text p e (Broke k) = invariant_if p e (slice_get (invariants_among p (executor_actors p e)) k)
broken_text p e _ = []

-- those of the turns of an executor, in order
abbrev pub broken_texts : ScriptView → ℕ → List TurnValues → List (List ℕ)
broken_texts p e turns = map (λ v. broken_text p e v.outcome) turns

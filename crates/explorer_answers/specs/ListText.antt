-- The text of all that a search has found, as bytes (the format is our own).
use Rattle.std.specs.Prelude.{ℕ, ◌+◌, Option, Some, None, List, [], ◌∷◌, ◌++◌, codes, decimal, length}
use Rattle.std.specs.declared.vec.Vec.{Vec}
use Rattle.std.specs.declared.alloc.Global.{Global}
use Rattle.swift_script.specs.Scripts.{ScriptView}
use Rattle.swift_explorer.specs.declared.exploration.FoundOutcomes.{FoundOutcomes}
use Rattle.swift_explorer.specs.declared.moves.Move.{Move}
use Rattle.swift_explorer.specs.declared.outcome.RunOutcome.{RunOutcome}
use Rattle.swift_explorer.specs.FoundText.{end_text, ended_text, many_text, schedule_text}
use Rattle.explorer_answers.specs.Dots.{with_legend}
use Rattle.explorer_answers.specs.Names.{names_text}

-- an outcome's schedule, what its tasks are called, how they have ended, and its fields
abbrev pub ending_text : ScriptView → RunOutcome → List ℕ
ending_text p o = schedule_text o.schedule.items ++ names_text p o.endings.items ++ ended_text p o

-- the outcome at a place, with its number, from 1
abbrev pub outcome_text : ScriptView → ℕ → RunOutcome → List ℕ
outcome_text p place o = codes "\noutcome " ++ decimal (place + 1) ++ codes "\n" ++ ending_text p o

-- the outcomes from this place on
abbrev pub outcomes_text : ScriptView → ℕ → List RunOutcome → List ℕ
outcomes_text p place [] = []
outcomes_text p place (o ∷ os) = outcome_text p place o ++ outcomes_text p (place + 1) os

-- what is known of turns that are undone
abbrev pub broken_text : Option (Vec Move Global) → List ℕ
broken_text None = codes "no turn was found that is undone by invariant\n"
broken_text (Some schedule) = codes "a turn is undone by invariant\n" ++ schedule_text schedule.items

-- how far the search came
abbrev pub search_text : FoundOutcomes → List ℕ
search_text f = many_text (length f.outcomes.items) (codes "outcome") (codes "outcomes") ++ end_text f

-- What a search has found: how many outcomes and how far it came; then, after what dots mean, the turns that are undone, and each outcome.
abbrev pub found_text : ScriptView → FoundOutcomes → List ℕ
found_text p f = search_text f ++ with_legend (broken_text f.broken ++ outcomes_text p 0 f.outcomes.items)

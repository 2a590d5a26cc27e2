-- What is said of a search of a Swift file's script, as bytes (the format is our own).
use Rattle.std.specs.Prelude.{ℕ, ◌+◌, Bool, true, false, not, ◌&&◌, if◌then◌else◌, Option, Some, None, List, [], ◌∷◌, ◌++◌, codes, count_by, decimal}
use Rattle.std.specs.declared.vec.Vec.{Vec}
use Rattle.std.specs.declared.alloc.Global.{Global}
use Rattle.swift_script.specs.Scripts.{ScriptView}
use Rattle.swift_explorer.specs.declared.exploration.FoundOutcomes.{FoundOutcomes}
use Rattle.swift_explorer.specs.declared.moves.Move.{Move}
use Rattle.swift_explorer.specs.declared.outcome.RunOutcome.{RunOutcome}
use Rattle.swift_explorer.specs.FoundText.{end_text, many_text, schedule_text}
use Rattle.expectations.specs.declared.expectation.Expectation.{Expectation}
use Rattle.expectations.specs.Answers.{is_so}
use Rattle.explorer_answers.specs.declared.meaning.SwiftMeaning.{SwiftMeaning}
use Rattle.explorer_answers.specs.declared.meaning.SwiftMeaning.TheVariants as swift
use Rattle.explorer_answers.specs.AnswerText.{fails_text, none_text, or_else, verdict_at}
use Rattle.explorer_answers.specs.Dots.{with_legend}
use Rattle.explorer_answers.specs.ListText.{ending_text}
use Rattle.explorer_answers.specs.SwiftMeanings.{is_outcome, meaning, same}

-- an expectation fails in an outcome that Swift has
abbrev pub fails : ScriptView → Expectation → RunOutcome → Bool
fails p e o = is_outcome o && not (is_so (verdict_at p e o))

-- an expectation in the first of the outcomes from this place on in which it fails; nothing where it fails in none
abbrev pub swift_first_text : ScriptView → Expectation → ℕ → List RunOutcome → List ℕ
swift_first_text p e place [] = []
swift_first_text p e place (o ∷ os) = if fails p e o then fails_text p e place o else swift_first_text p e (place + 1) os

-- each expectation that fails
abbrev pub swift_failures_text : ScriptView → List RunOutcome → List Expectation → List ℕ
swift_failures_text p outcomes [] = []
swift_failures_text p outcomes (e ∷ es) = swift_first_text p e 0 outcomes ++ swift_failures_text p outcomes es

-- What is said of expectations: of each that fails, in which outcome; or that none does.
abbrev pub swift_asked_text : ScriptView → List Expectation → FoundOutcomes → List ℕ
swift_asked_text p asked found = or_else (swift_failures_text p found.outcomes.items asked) (none_text found.is_complete asked)

-- how many outcomes the program may end in, and how far the search came
abbrev pub swift_search_text : FoundOutcomes → List ℕ
swift_search_text f = many_text (count_by is_outcome f.outcomes.items) (codes "outcome") (codes "outcomes") ++ end_text f

-- what is said of whether a turn was found that ends the process since something does not hold
abbrev pub stopped_head : Bool → List ℕ
stopped_head true = codes "ends the process: an invariant or precondition fails\n"
stopped_head false = codes "no turn was found in which an invariant or precondition fails\n"

-- what is known of such turns
abbrev pub stopped_text : Option (Vec Move Global) → List ℕ
stopped_text None = stopped_head false
stopped_text (Some schedule) = stopped_head true ++ schedule_text schedule.items

-- what is said first of an outcome that has this meaning
abbrev pub head_text : SwiftMeaning → List ℕ
head_text swift.Outcome = codes "\noutcome "
head_text swift.EndsProcess = codes "\nends the process: before outcome "
head_text swift.MaySpin = codes "\nmay spin: at a limit in outcome "

-- the outcome at a place, with its number, from 1
abbrev pub told_text : ScriptView → SwiftMeaning → ℕ → RunOutcome → List ℕ
told_text p m place o = head_text m ++ decimal (place + 1) ++ codes "\n" ++ ending_text p o

-- that, where it has this meaning
abbrev pub told_if : ScriptView → SwiftMeaning → ℕ → RunOutcome → List ℕ
told_if p m place o = if same (meaning o) m then told_text p m place o else []

-- the outcomes from this place on that have this meaning
abbrev pub told_texts : ScriptView → SwiftMeaning → ℕ → List RunOutcome → List ℕ
told_texts p m place [] = []
told_texts p m place (o ∷ os) = told_if p m place o ++ told_texts p m (place + 1) os

-- where an invariant or a precondition does not hold, the outcomes that Swift has, then those before which the process ends, and then those
-- at a limit that Swift does not have
abbrev pub swift_list_text : ScriptView → FoundOutcomes → List ℕ
swift_list_text p f =
    stopped_text f.broken ++ told_texts p swift.Outcome 0 f.outcomes.items ++ told_texts p swift.EndsProcess 0 f.outcomes.items ++ told_texts p swift.MaySpin 0 f.outcomes.items

-- All that was found: how far the search came; and then, after what dots mean, the turns and the outcomes.
abbrev pub swift_found_text : ScriptView → FoundOutcomes → List ℕ
swift_found_text p f = swift_search_text f ++ with_legend (swift_list_text p f)

-- the answer: what is said of expectations, and then of all that was found
abbrev pub swift_answer_text : ScriptView → List Expectation → FoundOutcomes → List ℕ
swift_answer_text p asked found = swift_asked_text p asked found ++ swift_found_text p found

-- What a search of a Swift file's script says to what is asked, as JSON (the format is our own): its bytes.
use Rattle.std.specs.Prelude.{ℕ, ◌+◌, List, [], ◌∷◌, ◌++◌, codes}
use Rattle.swift_script.specs.Scripts.{ScriptView}
use Rattle.swift_explorer.specs.declared.exploration.FoundOutcomes.{FoundOutcomes}
use Rattle.swift_explorer.specs.declared.outcome.RunOutcome.{RunOutcome}
use Rattle.swift_report.specs.ReportJson.{comma}
use Rattle.expectations.specs.declared.expectation.Expectation.{Expectation}
use Rattle.explorer_answers.specs.declared.meaning.SwiftMeaning.{SwiftMeaning}
use Rattle.explorer_answers.specs.declared.meaning.SwiftMeaning.TheVariants as swift
use Rattle.explorer_answers.specs.SwiftAnswers.{swift_answer_of}
use Rattle.explorer_answers.specs.SwiftMeanings.{meaning}
use Rattle.explorer_json.specs.AnswerJson.{expectations_json, outcomes_json, search_json, start_json}

-- what an outcome says of Swift
abbrev pub meaning_json : SwiftMeaning → List ℕ
meaning_json swift.Outcome = codes "\"outcome\""
meaning_json swift.EndsProcess = codes "\"ends\""
meaning_json swift.MaySpin = codes "\"spins\""

-- what each of the outcomes from this place on says
abbrev pub meanings_json : ℕ → List RunOutcome → List ℕ
meanings_json place [] = []
meanings_json place (o ∷ os) = (comma 0 place ++ meaning_json (meaning o)) ++ meanings_json (place + 1) os

-- how far a search came, and what each outcome says of Swift
abbrev pub swift_head_json : FoundOutcomes → List ℕ
swift_head_json f = search_json f ++ codes ",\n\"swift\":[" ++ meanings_json 0 f.outcomes.items

-- What a search of the script that a text spells says: the answer, the text's sum, how far it came, what each outcome says of Swift, what
-- comes of each expectation in each outcome, and the outcomes.
abbrev pub swift_answer_json : List ℕ → ScriptView → List Expectation → FoundOutcomes → List ℕ
swift_answer_json text p asked found =
    start_json text (swift_answer_of p asked found) ++ swift_head_json found ++ codes "],\n\"expectations\":[" ++ expectations_json p found.outcomes.items 0 asked ++ codes "],\n\"outcomes\":[" ++ outcomes_json p 0 found.outcomes.items ++ codes "]}\n"

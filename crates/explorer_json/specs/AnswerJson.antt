-- What a search says to what is asked, as JSON (the format is our own): its bytes.
use Rattle.std.specs.Prelude.{ℕ, ◌+◌, if◌then◌else◌, List, [], ◌∷◌, ◌++◌, codes, decimal}
use Rattle.script_sums.specs.Sums.{script_sum}
use Rattle.swift_script.specs.Scripts.{ScriptView, actor_count}
use Rattle.swift_explorer.specs.declared.exploration.FoundOutcomes.{FoundOutcomes}
use Rattle.swift_explorer.specs.declared.outcome.RunOutcome.{RunOutcome}
use Rattle.swift_explorer.specs.FoundText.{is_at_limit}
use Rattle.swift_report.specs.ReportJson.{comma, fields_json, tasks_json}
use Rattle.expectations.specs.declared.answer.Answer.{Answer}
use Rattle.expectations.specs.declared.answer.Answer.TheVariants as answer
use Rattle.expectations.specs.declared.expectation.Expectation.{Expectation}
use Rattle.expectations.specs.declared.expectation.Verdict.{Verdict}
use Rattle.expectations.specs.declared.expectation.Verdict.TheVariants as verdict
use Rattle.expectations.specs.FailureText.{said_text}
use Rattle.explorer_answers.specs.Answered.{answer_of}
use Rattle.explorer_answers.specs.AnswerText.{verdict_at}
use Rattle.explorer_json.specs.Schedules.{broken_json, schedule_json}
use Rattle.explorer_json.specs.Strings.{string_json}

-- what comes of an expectation in an outcome
abbrev pub verdict_json : Verdict → List ℕ
verdict_json verdict.Holds = codes "\"holds\""
verdict_json verdict.IsFalse = codes "\"false\""
verdict_json verdict.Overflows = codes "\"overflow\""
verdict_json verdict.HasFault = codes "\"fault\""

-- what comes of it in each of the outcomes from this place on
abbrev pub verdicts_json : ScriptView → Expectation → ℕ → List RunOutcome → List ℕ
verdicts_json p e place [] = []
verdicts_json p e place (o ∷ os) = (comma 0 place ++ verdict_json (verdict_at p e o)) ++ verdicts_json p e (place + 1) os

-- an expectation: its text, and what comes of it in each outcome
abbrev pub expectation_json : ScriptView → List RunOutcome → ℕ → Expectation → List ℕ
expectation_json p outcomes place e = comma 0 place ++ codes "\n{\"text\":" ++ string_json (said_text e) ++ codes ",\"verdicts\":[" ++ verdicts_json p e 0 outcomes ++ codes "]}"

-- the expectations from this place on
abbrev pub expectations_json : ScriptView → List RunOutcome → ℕ → List Expectation → List ℕ
expectations_json p outcomes place [] = []
expectations_json p outcomes place (e ∷ es) = expectation_json p outcomes place e ++ expectations_json p outcomes (place + 1) es

-- how the tasks of an outcome have ended and its fields, as the report of a run without journals has them
abbrev pub ended_json : ScriptView → RunOutcome → List ℕ
ended_json p o = codes "{\"tasks\":[" ++ tasks_json p 0 o.endings.items ++ codes "],\n\"fields\":{" ++ fields_json p o.fields.items 0 (actor_count p) ++ codes "}}\n"

-- the outcome at a place, with its number, from 1
abbrev pub outcome_json : ScriptView → ℕ → RunOutcome → List ℕ
outcome_json p place o = comma 0 place ++ codes "\n{\"outcome\":" ++ decimal (place + 1) ++ codes ",\"schedule\":" ++ schedule_json o.schedule.items ++ codes ",\n\"end\":" ++ ended_json p o ++ codes "}"

-- the outcomes from this place on
abbrev pub outcomes_json : ScriptView → ℕ → List RunOutcome → List ℕ
outcomes_json p place [] = []
outcomes_json p place (o ∷ os) = outcome_json p place o ++ outcomes_json p (place + 1) os

-- the answer
abbrev pub answer_word : Answer → List ℕ
answer_word answer.Holds = codes "{\"answer\":\"holds\""
answer_word answer.Fails = codes "{\"answer\":\"fails\""
answer_word answer.Undecided = codes "{\"answer\":\"undecided\""

-- the sum of a script's text
abbrev pub sum_json : List ℕ → List ℕ
sum_json sum = codes ",\n\"script\":\"" ++ sum ++ codes "\""

-- of which script it is: the sum of its text
abbrev pub script_json : List ℕ → List ℕ
script_json text = sum_json (script_sum text)

-- the answer, and of which script it is
abbrev pub start_json : List ℕ → Answer → List ℕ
start_json text answer = answer_word answer ++ script_json text

-- that the search came to its end, or why there may be more: the limit was met, or not every history was followed
abbrev pub end_json : FoundOutcomes → List ℕ
end_json f = if f.is_complete then codes ",\n\"search\":\"complete\"" else (if f.met_limit then codes ",\n\"search\":\"limit\"" else (if f.ran_short then codes ",\n\"search\":\"room\"" else codes ",\n\"search\":\"partial\""))

-- from how many histories it has still to go on, where it has met its limit
abbrev pub to_go_json : FoundOutcomes → List ℕ
to_go_json f = if is_at_limit f then codes ",\"to_go\":" ++ decimal f.to_go else []

-- how far a search came: whether to its end, how many histories were kept and how many of them are still to go, and the schedule to a turn
-- that is undone by `invariant`
abbrev pub search_json : FoundOutcomes → List ℕ
search_json f = end_json f ++ codes ",\"states\":" ++ decimal f.states ++ to_go_json f ++ codes ",\n\"undone\":" ++ broken_json f.broken

-- What a search of the script that a text spells says: the answer, the text's sum, how far it came, what comes of each expectation in each
-- outcome, and the outcomes.
abbrev pub answer_json : List ℕ → ScriptView → List Expectation → FoundOutcomes → List ℕ
answer_json text p asked found =
    start_json text (answer_of p asked found) ++ search_json found ++ codes ",\n\"expectations\":[" ++ expectations_json p found.outcomes.items 0 asked ++ codes "],\n\"outcomes\":[" ++ outcomes_json p 0 found.outcomes.items ++ codes "]}\n"

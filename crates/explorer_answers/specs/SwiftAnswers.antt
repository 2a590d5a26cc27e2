-- What a search of a Swift file's script says to what is asked (our own).
use Rattle.std.specs.Prelude.{◌≡◌, ℕ, Bool, ◌||◌, not, if◌then◌else◌, List, [], is_some, map}
use Rattle.std.specs.List.{list_all}
use Rattle.swift_script.specs.Scripts.{ScriptView}
use Rattle.swift_explorer.specs.declared.exploration.FoundOutcomes.{FoundOutcomes}
use Rattle.swift_explorer.specs.declared.outcome.RunOutcome.{RunOutcome}
use Rattle.expectations.specs.declared.answer.Answer.{Answer}
use Rattle.expectations.specs.declared.expectation.Expectation.{Expectation}
use Rattle.expectations.specs.declared.expectation.Verdict.{Verdict}
use Rattle.expectations.specs.Answers.{answer_in}
use Rattle.expectations.specs.Questions.{IsAsked}
use Rattle.explorer_answers.specs.declared.meaning.SwiftMeaning.TheVariants as swift
use Rattle.explorer_answers.specs.Answered.{verdicts_at}
use Rattle.explorer_answers.specs.Found.{IsFoundOf}
use Rattle.explorer_answers.specs.SwiftMeanings.{is_outcome, meaning, same}

-- what comes of each expectation in an outcome; of one that is none of Swift nothing is asked
abbrev pub swift_verdicts_at : ScriptView → List Expectation → RunOutcome → List Verdict
swift_verdicts_at p asked o = if is_outcome o then verdicts_at p asked o else []

-- what comes of each in each outcome
abbrev pub swift_verdicts_in : ScriptView → List Expectation → List RunOutcome → List (List Verdict)
swift_verdicts_in p asked outcomes = map (swift_verdicts_at p asked) outcomes

-- the process goes on to an outcome
abbrev pub goes_on : RunOutcome → Bool
goes_on o = not (same (meaning o) swift.EndsProcess)

-- What a search says that has found this: they fail where a turn that breaks an invariant was found, or the process ends before some
-- outcome.
abbrev pub swift_answer_of : ScriptView → List Expectation → FoundOutcomes → Answer
swift_answer_of p asked found =
    answer_in found.is_complete (is_some found.broken || not (list_all goes_on found.outcomes.items)) (swift_verdicts_in p asked found.outcomes.items)

-- What a search says of the script of a Swift file that these bytes spell, as `IsAnswer` has it of any script.
pub record IsSwiftAnswer (bytes : List ℕ) (limit : ℕ) (words : List (List ℕ)) (without_fault : Bool) (answer : Answer) : Type 0 where
  pub script : ScriptView
  pub found : FoundOutcomes
  pub of : IsFoundOf bytes limit script found
  pub asked : List Expectation
  pub is_asked : IsAsked script bytes words without_fault asked
  pub answered : answer ≡ swift_answer_of script asked found

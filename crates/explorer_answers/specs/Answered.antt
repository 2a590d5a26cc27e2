-- What a search says to what is asked (our own).
use Rattle.std.specs.Prelude.{◌≡◌, ℕ, Bool, List, is_some, map}
use Rattle.script_code.specs.Seen.{rows_of}
use Rattle.swift_script.specs.Scripts.{ScriptView}
use Rattle.swift_explorer.specs.declared.exploration.FoundOutcomes.{FoundOutcomes}
use Rattle.swift_explorer.specs.declared.outcome.RunOutcome.{RunOutcome}
use Rattle.expectations.specs.declared.answer.Answer.{Answer}
use Rattle.expectations.specs.declared.expectation.Expectation.{Expectation}
use Rattle.expectations.specs.declared.expectation.Verdict.{Verdict}
use Rattle.expectations.specs.Answers.{answer_in}
use Rattle.expectations.specs.Meaning.{verdict_of}
use Rattle.expectations.specs.Questions.{IsAsked}
use Rattle.explorer_answers.specs.Found.{IsFoundOf}

-- what comes of each expectation in an outcome
abbrev pub verdicts_at : ScriptView → List Expectation → RunOutcome → List Verdict
verdicts_at p asked o = map (verdict_of p o.endings.items (map (λ rows. rows_of rows.items) o.fields.items)) asked

-- what comes of each in each outcome
abbrev pub verdicts_in : ScriptView → List Expectation → List RunOutcome → List (List Verdict)
verdicts_in p asked outcomes = map (verdicts_at p asked) outcomes

-- what a search says that has found this
abbrev pub answer_of : ScriptView → List Expectation → FoundOutcomes → Answer
answer_of p asked found = answer_in found.is_complete (is_some found.broken) (verdicts_in p asked found.outcomes.items)

-- What a search says of the script that these bytes spell, of whose histories at most `limit` are kept, to the expectations of these words
-- and of its comments, and perhaps that no root ends with a fault.
pub record IsAnswer (bytes : List ℕ) (limit : ℕ) (words : List (List ℕ)) (without_fault : Bool) (answer : Answer) : Type 0 where
  pub script : ScriptView
  pub found : FoundOutcomes
  pub of : IsFoundOf bytes limit script found
  pub asked : List Expectation
  pub is_asked : IsAsked script bytes words without_fault asked
  pub answered : answer ≡ answer_of script asked found

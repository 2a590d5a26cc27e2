-- What is said of expectations, as bytes (the format is our own).
use Rattle.std.specs.Prelude.{ℕ, ◌+◌, Bool, true, false, if◌then◌else◌, List, [], ◌∷◌, ◌++◌, codes, decimal, map}
use Rattle.script_code.specs.Seen.{rows_of}
use Rattle.swift_script.specs.Scripts.{ScriptView}
use Rattle.swift_explorer.specs.declared.exploration.FoundOutcomes.{FoundOutcomes}
use Rattle.swift_explorer.specs.declared.outcome.RunOutcome.{RunOutcome}
use Rattle.swift_explorer.specs.FoundText.{schedule_text}
use Rattle.expectations.specs.declared.expectation.Expectation.{Expectation}
use Rattle.expectations.specs.declared.expectation.Verdict.{Verdict}
use Rattle.expectations.specs.Answers.{is_so}
use Rattle.expectations.specs.FailureText.{failure_text}
use Rattle.expectations.specs.Meaning.{verdict_of}
use Rattle.explorer_answers.specs.ListText.{found_text}
use Rattle.explorer_answers.specs.Names.{names_text}

-- what comes of an expectation in an outcome
abbrev pub verdict_at : ScriptView → Expectation → RunOutcome → Verdict
verdict_at p e o = verdict_of p o.endings.items (map (λ rows. rows_of rows.items) o.fields.items) e

-- An expectation that fails in the outcome at a place: which outcome, from 1, the expectation with what it reads there, the schedule, and
-- what the tasks are called.
abbrev pub fails_text : ScriptView → Expectation → ℕ → RunOutcome → List ℕ
fails_text p e place o =
    codes "fails in outcome " ++ decimal (place + 1) ++ codes ": "
    ++ failure_text p o.endings.items (map (λ rows. rows_of rows.items) o.fields.items) e (verdict_at p e o)
    ++ schedule_text o.schedule.items ++ names_text p o.endings.items ++ codes "\n"

-- an expectation in the first of the outcomes from this place on in which it fails; nothing where it fails in none
abbrev pub first_text : ScriptView → Expectation → ℕ → List RunOutcome → List ℕ
first_text p e place [] = []
first_text p e place (o ∷ os) = if is_so (verdict_at p e o) then first_text p e (place + 1) os else fails_text p e place o

-- each expectation that fails
abbrev pub failures_text : ScriptView → List RunOutcome → List Expectation → List ℕ
failures_text p outcomes [] = []
failures_text p outcomes (e ∷ es) = first_text p e 0 outcomes ++ failures_text p outcomes es

-- that none of the expectations fails, where there are any
abbrev pub none_text : Bool → List Expectation → List ℕ
none_text is_complete [] = []
none_text true (e ∷ es) = codes "each expectation holds in each outcome\n\n"
none_text false (e ∷ es) = codes "no expectation fails in the outcomes that were found\n\n"

-- this text, or another one where it is empty
abbrev pub or_else : List ℕ → List ℕ → List ℕ
or_else [] other = other
or_else (b ∷ bs) other = b ∷ bs

-- What is said of expectations: of each that fails, in which outcome; or that none does.
abbrev pub asked_text : ScriptView → List Expectation → FoundOutcomes → List ℕ
asked_text p asked found = or_else (failures_text p found.outcomes.items asked) (none_text found.is_complete asked)

-- the answer: what is said of expectations, and then of all that was found
abbrev pub answer_text : ScriptView → List Expectation → FoundOutcomes → List ℕ
answer_text p asked found = asked_text p asked found ++ found_text p found

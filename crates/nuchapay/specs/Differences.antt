-- In what two outcomes differ.
use Rattle.std.specs.Prelude.{◌≡◌, ◌⊎◌, ℕ, ◌+◌, Some, List, slice_get}
use Rattle.explorer_answers.specs.Found.{IsFoundOf}
use Rattle.explorer_differences.specs.Difference.{difference_text}
use Rattle.nuchapay.specs.Scheduled.{HasNoOutcome}
use Rattle.nuchapay.specs.declared.differences.Compared.{Compared}
use Rattle.nuchapay.specs.declared.differences.Compared.TheVariants as said
use Rattle.nuchapay.specs.declared.scheduled.ScheduledRun.{ScheduledRun}
use Rattle.nuchapay_tool.specs.declared.requests.OutcomePair.{OutcomePair}
use Rattle.swift_explorer.specs.declared.exploration.FoundOutcomes.{FoundOutcomes}
use Rattle.swift_explorer.specs.declared.outcome.RunOutcome.{RunOutcome}
use Rattle.swift_script.specs.Accepted.{IsAccepted}
use Rattle.swift_script.specs.Scripts.{ScriptView}

-- an outcome has this number, from 1, among those that a search has found
pub record IsNumbered (found : FoundOutcomes) (number : ℕ) (outcome : RunOutcome) : Type 0 where
  pub place : ℕ
  pub numbered : place + 1 ≡ number
  pub there : slice_get found.outcomes.items place ≡ Some outcome

-- A text says in what the two outcomes of a pair differ, of those that a search finds which keeps at most `limit` histories of the script
-- that these bytes spell.
pub record IsDifference (bytes : List ℕ) (limit : ℕ) (pair : OutcomePair) (text : List ℕ) : Type 0 where
  pub script : ScriptView
  pub found : FoundOutcomes
  pub of : IsFoundOf bytes limit script found
  pub first : RunOutcome
  pub first_there : IsNumbered found pair.first first
  pub second : RunOutcome
  pub second_there : IsNumbered found pair.second second
  pub printed : text ≡ difference_text script pair.first pair.second first second

-- one of a pair is the number of no outcome that such a search has found: there are `many`
pub record LacksOutcome (bytes : List ℕ) (limit : ℕ) (pair : OutcomePair) (number many : ℕ) : Type 0 where
  pub script : ScriptView
  pub accepted : IsAccepted bytes script
  pub none : HasNoOutcome script limit number many
  pub asked : (number ≡ pair.first) ⊎ (number ≡ pair.second)

-- what is said of a pair of outcomes
abbrev pub IsCompared : List ℕ → ℕ → OutcomePair → Compared → Type 0
IsCompared bytes limit pair (said.Text text) = IsDifference bytes limit pair text.items
IsCompared bytes limit pair (said.NoOutcome number many) = LacksOutcome bytes limit pair number many

-- the outcome that a run by a schedule has come to
abbrev pub outcome_of : ScheduledRun → RunOutcome
outcome_of run = record { schedule = run.schedule; endings = run.report.endings; fields = run.report.fields }

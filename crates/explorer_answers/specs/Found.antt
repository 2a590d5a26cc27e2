-- What a search has found (our own).
use Rattle.std.specs.Prelude.{◌≡◌, ◌≤◌, ℕ, All, IfSome, IsTrue, None, List}
use Rattle.swift_script.specs.Accepted.{IsAccepted}
use Rattle.swift_script.specs.Scripts.{ScriptView}
use Rattle.swift_explorer.specs.declared.exploration.FoundOutcomes.{FoundOutcomes}
use Rattle.swift_explorer.specs.Outcomes.{EachOnce, HasEachOutcome, IsBrokenAfter, IsOutcomeOf, NeverBreaks, RunsShort}

-- What a search of the histories of a script has found, of which at most `limit` were kept: each outcome is one, and there once; the
-- turn that is said to break an invariant does; where the search came to its end no outcome is missing, and where it shows no such turn
-- there is none; it says that it met the limit only where so many were kept, and that the room for tasks ran short only where it does in
-- some history; no more are still to go than were kept, and none where it came to its end.
pub record IsFound (script : ScriptView) (limit : ℕ) (found : FoundOutcomes) : Type 0 where
  pub outcomes : All (IsOutcomeOf script) found.outcomes.items
  pub once : EachOnce found.outcomes.items
  pub broken : IfSome found.broken (λ schedule. IsBrokenAfter script schedule.items)
  pub all : IsTrue found.is_complete → HasEachOutcome script found.outcomes.items
  pub unbroken : IsTrue found.is_complete → found.broken ≡ None → NeverBreaks script
  pub met : IsTrue found.met_limit → found.states ≡ limit
  pub short : IsTrue found.ran_short → RunsShort script
  pub few : found.to_go ≤ found.states
  pub none : IsTrue found.is_complete → found.to_go ≡ 0

-- what was found by such a search of the script that these bytes spell
pub record IsFoundOf (bytes : List ℕ) (limit : ℕ) (script : ScriptView) (found : FoundOutcomes) : Type 0 where
  pub accepted : IsAccepted bytes script
  pub is : IsFound script limit found

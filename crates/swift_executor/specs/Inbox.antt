-- An inbox, its passes and its taker, as callers see them.
use Rattle.std.specs.Prelude.{◌≡◌, ◌≤◌, ℕ, List, [], ◌∷◌, ◌++◌, length, map, Option, Some}
use Rattle.atomic_table.specs.Seated.{TableId}
use Rattle.swift_job.specs.Job.{JobView}
use Rattle.swift_turn.specs.Body.{BodyView}
use Rattle.swift_history.specs.TurnEnds.{JobFacts}
use Rattle.swift_history.specs.Jobs.{job_facts}
use Rattle.swift_executor.specs.Site.{SiteView}

-- which inbox it is, for the jobs of which executor, and how many it has room for
pub record InboxView : Type 0 where
  pub id : TableId
  pub site : SiteView
  pub room : ℕ

-- of which inbox it is, for the jobs of which executor, and the jobs that went in through it, the oldest first
pub record PassView : Type 0 where
  pub inbox : TableId
  pub site : Option SiteView
  pub pushed : List JobFacts

-- of which inbox it is, for the jobs of which executor, and the jobs that came out through it, the oldest first
pub record TakerView : Type 0 where
  pub inbox : TableId
  pub site : Option SiteView
  pub taken : List JobFacts

-- the pass is of this inbox
abbrev pub IsPassOf : InboxView → PassView → Type 0
IsPassOf i p = (p.inbox ≡ i.id) × (p.site ≡ Some i.site)

-- a pass through which nothing went
abbrev pub new_pass : InboxView → PassView
new_pass i = record { inbox = i.id; site = Some i.site; pushed = [] }

-- one job more went in through the pass
abbrev pub has_pushed : PassView → JobView BodyView → PassView
has_pushed p j = record p { pushed = p.pushed ++ job_facts j ∷ [] }

-- the taker is of this inbox
abbrev pub IsTakerOf : InboxView → TakerView → Type 0
IsTakerOf i t = (t.inbox ≡ i.id) × (t.site ≡ Some i.site)

-- a taker through which nothing came out
abbrev pub new_taker : InboxView → TakerView
new_taker i = record { inbox = i.id; site = Some i.site; taken = [] }

-- one job more came out through the taker
abbrev pub has_taken : TakerView → JobView BodyView → TakerView
has_taken t j = record t { taken = t.taken ++ job_facts j ∷ [] }

-- What was in an inbox when it was given up came onto a list: no more jobs than it had room for, and just those that came out
-- through its taker then.
abbrev pub IsDrained : InboxView → List (JobView BodyView) → List (JobView BodyView) → TakerView → TakerView → Type 0
IsDrained i before after t t' = (jobs : List (JobView BodyView)) × (after ≡ before ++ jobs) × (length jobs ≤ i.room) × (t' ≡ record t { taken = t.taken ++ map job_facts jobs })

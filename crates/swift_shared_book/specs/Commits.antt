-- Turns that were played before they begin: they begin in a book, and are applied there at once (our own).
use Rattle.std.specs.Prelude.{◌≡◌, ◌++◌, ◌∷◌, [], List, Option, Some, None}
use Rattle.swift_types.specs.declared.env.Env.{Env}
use Rattle.swift_script.specs.Scripts.{ScriptView, root_count}
use Rattle.swift_job.specs.Job.{JobView}
use Rattle.swift_turn.specs.Body.{BodyView}
use Rattle.swift_events.specs.declared.event.Event.TheVariants.{Begin}
use Rattle.swift_events.specs.Room.{IsEnv}
use Rattle.swift_history.specs.Orderly.{has_last_root}
use Rattle.swift_history.specs.TurnEnds.{JobFacts}
use Rattle.swift_journal.specs.Records.{RecordView}
use Rattle.swift_course.specs.Views.{Account, BookKnown}
use Rattle.swift_tasks.specs.Books.{BookView, IsEndOf}
use Rattle.swift_tasks.specs.Refusals.{refusal_of_apply, refusal_of_begin}
use Rattle.swift_shared_book.specs.Calls.{IsPlayed, before_of, facts_of}
use Rattle.swift_shared_book.specs.Shared.{BeginsTicket, HasTicket, IsInRun, after_turn}
use Rattle.swift_shared_book.specs.declared.commits.Committed.{Committed}
use Rattle.swift_shared_book.specs.declared.commits.Committed.TheVariants.{Applied, Begun, Refused}

-- the job of a turn that was played, as it was before, by the record of the turn
abbrev pub ahead_of : JobView BodyView → RecordView → JobFacts
ahead_of j r = before_of j r.frame j.body.task.frames

-- The turn of the job was played after the turns of the seat's one account, and this is its record, where the turn begins in the record's
-- environment. The seat has the ticket of the job.
pub record HasPlayedAhead (script : ScriptView) (v : BookKnown) (j : JobView BodyView) (r : RecordView) : Type 0 where
  pub account : Account
  pub accounts : v.accounts ≡ account ∷ []
  pub ticket : HasTicket (ahead_of j r) v.tickets
  pub plays : IsPlayed script account (record { job = ahead_of j r; begun = Some r.env }) j r

-- The turn of a job that was played ahead may begin in this book, which gives it this environment; and what the seat knows once it has.
pub record BeginsAhead (b : BookView) (j : JobView BodyView) (r : RecordView) (env : Env) (v w : BookKnown) : Type 0 where
  pub may : refusal_of_begin b.script b.log j ≡ None
  pub given : IsEnv (root_count b.script) j.task b.log env
  pub ticket : BeginsTicket b.log (has_last_root b.script b.log) (ahead_of j r) env v w

-- the book once such a turn has begun in this environment
abbrev pub book_begun : BookView → JobView BodyView → Env → BookView
book_begun b j env = record b { log = b.log ++ Begin j.task j.number env ∷ [] }

-- It has begun in the environment of its record, and is applied to the book as that leaves it: the run has come to that one, by what the
-- seat knew then, and nothing stands against the turn there.
pub record CommitsTurn (b : BookView) (j : JobView BodyView) (r : RecordView) (jobs jobs' : List JobFacts) (v w : BookKnown) : Type 0 where
  pub begun : BookKnown
  pub begins : BeginsAhead b j r r.env v begun
  pub run : IsInRun begun (facts_of (book_begun b j r.env))
  pub allowed : refusal_of_apply b.script (book_begun b j r.env).log j r.effects r.exit ≡ None
  pub after : BookView
  pub script_is : after.script ≡ b.script
  pub ends : IsEndOf (book_begun b j r.env) jobs j r.effects r.exit after.log after.held jobs'
  pub knows : w ≡ after_turn r begun

-- It has begun in this environment, and was not applied.
pub record OnlyBegins (b : BookView) (j : JobView BodyView) (r : RecordView) (env : Env) (v w : BookKnown) : Type 0 where
  pub begins : BeginsAhead b j r env v w

-- what was done, by the answer: with the book, with what the seat knows, and with the jobs
abbrev pub CommitsTo : BookView → JobView BodyView → RecordView → List JobFacts → List JobFacts → BookKnown → BookKnown → Committed → Type 0
CommitsTo b j r jobs jobs' v w Applied = CommitsTurn b j r jobs jobs' v w
CommitsTo b j r jobs jobs' v w (Begun env) = OnlyBegins b j r env v w × (jobs' ≡ jobs)
CommitsTo b j r jobs jobs' v w Refused = (w ≡ v) × (jobs' ≡ jobs)

-- what is left in the place of the job: nothing once its turn is applied
abbrev pub PlaceAfter : Option (JobView BodyView) → Option (JobView BodyView) → Committed → Type 0
PlaceAfter old new Applied = new ≡ None
PlaceAfter old new (Begun env) = new ≡ old
PlaceAfter old new Refused = new ≡ old

-- what is as before unless the turn was applied
abbrev pub SameUnlessApplied : {A : Type 0} → A → A → Committed → Type 0
SameUnlessApplied old new Applied = Unit {0}
SameUnlessApplied old new (Begun env) = new ≡ old
SameUnlessApplied old new Refused = new ≡ old

-- What the holder of a book may give back, and what its seat knows then (our own).
use Rattle.std.specs.Prelude.{◌≡◌, ◌+◌, Option, Some, None, IfSome, List, ◌∷◌, ◌++◌, map}
use Rattle.swift_journal.specs.Records.{RecordView}
use Rattle.swift_history.specs.TurnEnds.{JobFacts, root_job}
use Rattle.swift_job.specs.Job.{JobView}
use Rattle.swift_turn.specs.Body.{BodyView}
use Rattle.swift_types.specs.declared.env.Env.{Env}
use Rattle.swift_history.specs.Orderly.{has_last_root}
use Rattle.swift_course.specs.Views.{BookFacts, BookKnown, fresh}
use Rattle.swift_course.specs.Steps.{MayGive}
use Rattle.swift_shared_book.specs.Commits.{ahead_of}
use Rattle.swift_tasks.specs.Books.{BookView}
use Rattle.swift_shared_book.specs.Calls.{facts_of}
use Rattle.swift_shared_book.specs.Shared.{BeginsTicket, BookLockView, OpenSeatView, after_turn}

-- A seat that knows v and has taken a book may give back this one, and knows then what is asked for.
abbrev pub MayGiveBack : BookKnown → Option BookFacts → BookFacts → (BookFacts → BookKnown → Type 0) → Type 0
MayGiveBack v held given asked = IfSome held (λ taken. (w : BookKnown) × asked taken w × MayGive v taken given w)

-- this book is kept by the lock's holder, which has taken just this one
abbrev pub IsKept : BookLockView → BookView → OpenSeatView → BookView → Type 0
IsKept l given s kept = (s.lock ≡ l.id) × (kept ≡ given) × (s.taken ≡ Some (facts_of given))

-- the seat knows one root more, and the ticket of its job comes first
abbrev pub KnowsRoot : BookKnown → BookFacts → BookKnown → Type 0
KnowsRoot v taken w = IfSome v.maker (λ m. w ≡ record v { tickets = fresh (root_job taken.script m.roots) ∷ v.tickets; maker = Some (record m { roots = m.roots + 1 }) })

-- what a seat knows once a turn was applied, of which this is the record: the tickets of the jobs that it made come first
abbrev pub knowing_record : Option RecordView → List JobFacts → BookKnown → BookKnown
knowing_record None made v = v
knowing_record (Some r) made v = record (after_turn r v) { tickets = map fresh made ++ (after_turn r v).tickets }

-- the job in a place as it was before its turn, of which this is the record
abbrev pub ahead_in : Option RecordView → Option (JobView BodyView) → Option JobFacts
ahead_in (Some r) (Some j) = Some (ahead_of j r)
ahead_in (Some r) None = None
ahead_in None place = None

-- the turn of this job has begun in this environment
abbrev pub BeginsNamed : Option JobFacts → Option Env → BookKnown → BookFacts → BookKnown → Type 0
BeginsNamed job env v taken w = IfSome job (λ j. IfSome env (λ e. BeginsTicket taken.log (has_last_root taken.script taken.log) j e v w))

-- the turn of this job has begun in the environment of this record, and was applied; the tickets of the jobs that it made come first
abbrev pub CommitsNamed : Option JobFacts → Option RecordView → List JobFacts → BookKnown → BookFacts → BookKnown → Type 0
CommitsNamed job written made v taken w =
    IfSome job (λ j. IfSome written (λ r. (begun : BookKnown) × BeginsTicket taken.log (has_last_root taken.script taken.log) j r.env v begun × (w ≡ knowing_record (Some r) made begun)))

-- the same once those tickets were handed out
abbrev pub CommitsHanded : Option JobFacts → Option RecordView → BookKnown → BookFacts → BookKnown → Type 0
CommitsHanded job written v taken w =
    IfSome job (λ j. IfSome written (λ r. (begun : BookKnown) × BeginsTicket taken.log (has_last_root taken.script taken.log) j r.env v begun × (w ≡ after_turn r begun)))

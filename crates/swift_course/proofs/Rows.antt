-- Some steps, worked out by hand and computed. The script doesn't matter: no task is made.
use Rattle.swift_course.proofs.Prelude.{◌≡◌, ℤ, true, false, List, [], ◌∷◌, ◌++◌, refl, Env, Medium, ScriptView, FrameView, ExitView, returning, yielding, Event, Root, Begin, Apply, Wait, End, Give, RecordView, has_last_of, WaitingTaskView, JobFacts, task, ways, knowing_begin, knowing_turn, with_begin, with_turn, Account, BookFacts, BookKnown, Ticket, at_rest, under_way, unordered, no_view, fresh}
use Rattle.std.proofs.Common.{Option, Some, None}
use Rattle.swift_types.specs.declared.outcome.Ending.TheVariants as ending
use Rattle.swift_types.specs.declared.outcome.Resume.TheVariants as resume
use Rattle.swift_events.specs.Lives.{life}

abbrev job : FrameView → JobFacts
job p = record { task = 0; number = 0; resume = resume.Start; frames = record { frames = p ∷ []; outer = [] } }

abbrev turn : FrameView → Env → ExitView → Option FrameView → RecordView
turn p env exit after = record { task = 0; number = 0; worker = 3; frame = p; outer = []; resume = resume.Start; env = env; exit = exit; effects = []; after = after }

abbrev log : Env → List Event
log env = Root (task 0) Medium ∷ Give (task 0) 0 resume.Start ∷ Root (task 1) Medium ∷ Wait (task 1) (task 0) ∷ Begin (task 0) 0 env ∷ []

abbrev account : Account
account = record { executor = 0; records = []; order = under_way; seen = Root (task 0) Medium ∷ [] }

abbrev rested : Account
rested = record account { order = at_rest; seen = [] }

abbrev seat : FrameView → Option Env → BookKnown
seat p begun = record no_view { accounts = account ∷ []; tickets = record { job = job p; begun = begun } ∷ [] }

-- a turn begins
begins : (s : ScriptView) (p : FrameView) (env : Env) →
    let facts : BookFacts = record { script = s; log = Root (task 0) Medium ∷ []; held = None ∷ [] } in
    (with_begin facts (job p) env ≡ record { script = s; log = Root (task 0) Medium ∷ Begin (task 0) 0 env ∷ []; held = None ∷ [] })
    × (knowing_begin facts.log true (fresh (job p)) [] env (record (seat p None) { accounts = rested ∷ [] }) ≡ seat p (Some env))
    × (has_last_of 1 facts.log ≡ true) × (has_last_of 2 facts.log ≡ false)
    × ((knowing_begin facts.log false (fresh (job p)) [] env (seat p None)).accounts ≡ record account { order = unordered } ∷ [])
    × ((knowing_begin facts.log true (fresh (job p)) [] env (seat p None)).accounts ≡ record account { order = unordered } ∷ [])
unfolding life
begins s p env = (refl, refl, refl, refl, refl, refl)

-- a task ends for which another has waited: its ticket goes, and one for that comes, which waits no more
ends : (s : ScriptView) (p : FrameView) (env : Env) (h : WaitingTaskView) (v : ℤ) →
    let facts : BookFacts = record { script = s; log = log env; held = None ∷ Some (record h { number = 1 }) ∷ [] } in
    let k : Ticket = record { job = job p; begun = Some env } in
    let r = turn p env (returning v) None in
    let next : JobFacts = record { task = 1; number = 1; resume = resume.Value v; frames = h.frames } in
    (with_turn facts (job p) r ≡ record { script = s; log = log env ++ Apply (task 0) 0 ∷ End (task 0) (ending.Value v) ∷ Give (task 1) 1 (resume.Value v) ∷ []; held = None ∷ None ∷ [] })
    × (knowing_turn facts account k [] r (seat p (Some env)) ≡ record no_view { accounts = record { executor = 0; records = r ∷ []; order = at_rest; seen = account.seen } ∷ []; tickets = fresh next ∷ [] })
    × (ways 0 facts (seat p (Some env) ∷ []) ≡ 1) × (ways 1 facts (seat p (Some env) ∷ []) ≡ 1)
    × (ways 0 (with_turn facts (job p) r) (knowing_turn facts account k [] r (seat p (Some env)) ∷ []) ≡ 0)
    × (ways 1 (with_turn facts (job p) r) (knowing_turn facts account k [] r (seat p (Some env)) ∷ []) ≡ 1)
unfolding life
ends s p env h v = (refl, refl, refl, refl, refl, refl)

-- a task that yields goes on with its next turn
yields : (s : ScriptView) (p q : FrameView) (env : Env) →
    let facts : BookFacts = record { script = s; log = Root (task 0) Medium ∷ Begin (task 0) 0 env ∷ []; held = None ∷ [] } in
    let r = turn p env yielding (Some q) in
    let next : JobFacts = record { task = 0; number = 1; resume = resume.Go; frames = record { frames = q ∷ []; outer = [] } } in
    (with_turn facts (job p) r ≡ record { script = s; log = facts.log ++ Apply (task 0) 0 ∷ Give (task 0) 1 resume.Go ∷ []; held = None ∷ [] })
    × (knowing_turn facts account (record { job = job p; begun = Some env }) [] r (seat p (Some env)) ≡ record no_view { accounts = record { executor = 0; records = r ∷ []; order = at_rest; seen = account.seen } ∷ []; tickets = fresh next ∷ [] })
unfolding life
yields s p q env = (refl, refl)

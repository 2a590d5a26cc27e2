-- A schedule that is followed, up to a step or to its end.
use Rattle.swift_explorer.proofs.Prelude.{◌≡◌, ◌<◌, ℕ, zero, suc, List, [], ◌∷◌, ◌++◌, length, take, refl, arith, Some, slice_get, slice_index_or, ScriptView, Move, SearchedHistory, IsPath, IsLogOf}
use Rattle.swift_explorer.specs.declared.completion.StepFault.{StepFault}
use Rattle.swift_explorer.specs.Completions.{IsStepFault, IsStopped, IsWhole}

-- the log of a history is that of the steps that were followed
pub log_of : (script : ScriptView) (path : List Move) (x : SearchedHistory) → IsPath script path x → IsLogOf script path x.steps.book.log
log_of script path x p = record { blocks = p.blocks; stand = p.is.followed.led.stand; orderly = p.is.orderly; steps = p.steps; log_is = p.is.followed.led.log_is }

-- a step that may not follow the steps before it
pub stopped_at : (script : ScriptView) (path : List Move) (place : ℕ) (m : Move) (why : StepFault) (x : SearchedHistory)
    → IsPath script (take place path) x → slice_get path place ≡ Some m → IsStepFault x.steps.book.log m why → IsStopped script path place why
stopped_at script path place m why x p there is = record { log = x.steps.book.log; before = log_of script (take place path) x p; step = m; there = there; because = is }

-- steps that were followed, of which these are the first
pub whole_of : (script : ScriptView) (schedule path rest : List Move) (x : SearchedHistory) → path ≡ schedule ++ rest → IsPath script path x → IsWhole script schedule path
whole_of script schedule path rest x begins p = record { rest = rest; begins = begins; log = x.steps.book.log; done = log_of script path x p }

-- what stands at a place of a path
pub read_at : (path : List Move) (place : ℕ) (d : Move) → place < length path → slice_get path place ≡ Some (slice_index_or path place d)
read_at [] place d lt = absurd (omega (arith, lt))
read_at (m ∷ ms) zero d lt = refl
read_at (m ∷ ms) (suc place) d lt = read_at ms place d (omega (arith, lt))

-- Texts of which what a search has found consists, as bytes (the format is our own).
use Rattle.std.specs.Prelude.{ℕ, zero, suc, ◌+◌, ◌-◌, ◌==◌, ◌&&◌, not, Bool, false, Option, Some, None, List, [], ◌∷◌, ◌++◌, codes, count_by, decimal, if◌then◌else◌, slice_get, take}
use Rattle.swift_script.specs.Scripts.{ScriptView, actor_count}
use Rattle.swift_report.specs.Text.{fields_text, tasks_text}
use Rattle.swift_explorer.specs.declared.moves.Move.{Move}
use Rattle.swift_explorer.specs.declared.moves.Move.TheVariants as step
use Rattle.swift_explorer.specs.declared.outcome.RunOutcome.{RunOutcome}
use Rattle.swift_explorer.specs.declared.exploration.FoundOutcomes.{FoundOutcomes}

-- so many of these, in a word: `one` where there is one
abbrev pub many_text : ℕ → List ℕ → List ℕ → List ℕ
many_text n one many = decimal n ++ codes " " ++ (if n == 1 then one else many)

-- a turn of task `t` begins in this step
abbrev pub begins : ℕ → Move → Bool
begins t (step.Begin u) = u.0 == t
begins t _ = false

-- a turn of task `t` runs in this step
abbrev pub runs : ℕ → Move → Bool
runs t (step.Run u) = u.0 == t
runs t _ = false

-- this is asked of a step, where there is one
abbrev pub is_so : (Move → Bool) → Option Move → Bool
is_so p None = false
is_so p (Some m) = p m

-- how many turns of task `t` begin before this place of a path: so the number of the next one
abbrev pub turns_before : ℕ → List Move → ℕ → ℕ
turns_before t path place = count_by (begins t) (take place path)

-- a turn, by its task and its number
abbrev pub turn_text : ℕ → ℕ → List ℕ
turn_text t n = codes "t" ++ decimal t ++ codes "." ++ decimal n

-- the turn of task `t` that begins at a place runs in the next step
abbrev pub runs_at_once : ℕ → List Move → ℕ → Bool
runs_at_once t path place = is_so (runs t) (slice_get path (place + 1))

-- the turn of task `t` that runs at a place has begun in the step before
abbrev pub began_before : ℕ → List Move → ℕ → Bool
began_before t path zero = false
began_before t path (suc before) = is_so (begins t) (slice_get path before)

-- A step at a place of a path. A turn stands where it begins, with two dots after it where others come before it runs; then it stands
-- again where it runs, with two dots before it.
abbrev pub step_text : List Move → ℕ → Move → List ℕ
step_text path place step.Add = []
step_text path place (step.Begin t) = codes " " ++ turn_text t.0 (turns_before t.0 path place) ++ (if runs_at_once t.0 path place then [] else codes "..")
step_text path place (step.Run t) = if began_before t.0 path place then [] else codes " .." ++ turn_text t.0 (turns_before t.0 path place - 1)

-- the last steps of a path, from this place on
abbrev pub steps_text : List Move → ℕ → List Move → List ℕ
steps_text path place [] = []
steps_text path place (m ∷ ms) = step_text path place m ++ steps_text path (place + 1) ms

-- a schedule, as a line of its turns
abbrev pub schedule_text : List Move → List ℕ
schedule_text path = codes "schedule" ++ steps_text path 0 path ++ codes "\n"

-- how the tasks of an outcome have ended and its fields, as a report without journals has them
abbrev pub ended_text : ScriptView → RunOutcome → List ℕ
ended_text p o = codes "tasks\n" ++ tasks_text p 0 o.endings.items ++ codes "fields\n" ++ fields_text p o.fields.items 0 (actor_count p)

-- that the search came to its end, or why there may be more
abbrev pub end_words : FoundOutcomes → List ℕ
end_words f =
    if f.is_complete then codes ", found by a search that came to its end after " else
    (if f.met_limit then codes ", and there may be more: the limit was met after " else
    (if f.ran_short then codes ", and there may be more: the room for tasks ran short after " else codes ", and there may be more: not every history was followed after "))

-- the search has left a history out since it could keep no more, and has not come to its end
abbrev pub is_at_limit : FoundOutcomes → Bool
is_at_limit f = not f.is_complete && f.met_limit

-- from how many states it has still to go on, where it has met its limit
abbrev pub to_go_text : FoundOutcomes → List ℕ
to_go_text f = if is_at_limit f then codes ", " ++ decimal f.to_go ++ codes " of them still to go\n" else codes "\n"

-- how far the search came: whether to its end, after how many states, and how many of them are still to go
abbrev pub end_text : FoundOutcomes → List ℕ
end_text f = end_words f ++ many_text f.states (codes "state") (codes "states") ++ to_go_text f

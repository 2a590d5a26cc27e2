-- Steps of a search in which turns that look away begin and run at once. No public clause names these.
use Rattle.std.specs.Prelude.{◌≡◌, ◌+◌, ◌*◌, ◌≤◌, ◌⊎◌, true, List, [], ◌∷◌, Contains}
use Rattle.std.specs.Option.{option_map}
use Rattle.std.specs.Arc.{arc_value}
use Rattle.swift_types.specs.declared.id.TaskId.{TaskId}
use Rattle.swift_types.specs.declared.limits.TheConstants.{TASKS, MADE}
use Rattle.swift_script.specs.Scripts.{ScriptView, executor_count, root_count}
use Rattle.swift_events.specs.Events.{tasks_of}
use Rattle.swift_events.specs.Relations.{is_cancelled}
use Rattle.swift_history.specs.Histories.{Block, Stands}
use Rattle.swift_history.specs.Orderly.{IsOrderly}
use Rattle.swift_course.specs.Course.{standing, starts}
use Rattle.swift_digest.specs.Explored.{IsNotFolded}
use Rattle.swift_reordering.specs.Away.{job_looks_away, turn_looks_away}
use Rattle.swift_explorer.specs.declared.moves.Move.{Move}
use Rattle.swift_explorer.specs.declared.moves.Move.TheVariants as step
use Rattle.swift_explorer.specs.declared.fused.Step.{Step}
use Rattle.swift_explorer.specs.declared.fused.Step.TheVariants.{One, Turn}
use Rattle.swift_explorer.specs.declared.history.SearchedHistory.{SearchedHistory}
use Rattle.swift_steps.specs.NextTurns.{given_at, given_view}
use Rattle.swift_explorer.specs.HistoryInside.{IsHistory, IsMoveOf}

-- what a step of a search does last, and before that
abbrev pub last_half : Step → Move
last_half (One m) = m
last_half (Turn t) = step.Run t

abbrev pub first_half : Step → List Move
first_half (One m) = []
first_half (Turn t) = step.Begin t ∷ []

-- the next turn of a task looks away
abbrev pub LooksAway : SearchedHistory → TaskId → Type 0
LooksAway x t = job_looks_away (arc_value x.steps.script) (is_cancelled t.0 x.steps.book.log) (option_map (given_view t.0) (given_at x.steps.tasks.items t.0)) ≡ true

-- a step of a search does this step of a history first: alone, or the turn that it begins looks away, and runs at once
abbrev pub IsPlanOf : SearchedHistory → Move → Step → Type 0
IsPlanOf x m (One k) = k ≡ m
IsPlanOf x m (Turn t) = (m ≡ step.Begin t) × LooksAway x t

-- for each of these there is one
abbrev pub ArePlansOf : SearchedHistory → List Move → List Step → Type 0
ArePlansOf x moves steps = (m : Move) → Contains moves m → (s : Step) × Contains steps s × IsPlanOf x m s

-- A block after others is what one of these steps does; or the turn that it begins looks away, and one of these steps begins it and runs it.
abbrev pub IsChosen : ScriptView → List Step → List Block → Block → Type 0
IsChosen script steps blocks b =
    ((m : Move) × Contains steps (One m) × IsMoveOf m b)
    ⊎ ((t : TaskId) × Contains steps (Turn t) × IsMoveOf (step.Begin t) b × (turn_looks_away script (standing script blocks) t.0 ≡ true))

-- Each block in order that may follow a history is chosen.
abbrev pub HasEachStep : SearchedHistory → List Step → Type 0
HasEachStep x steps = (blocks : List Block) (b : Block) → IsHistory (arc_value x.steps.script) blocks x
    → IsNotFolded b → Stands (arc_value x.steps.script) (starts (arc_value x.steps.script)) blocks b → IsOrderly (arc_value x.steps.script) blocks b → IsChosen (arc_value x.steps.script) steps blocks b

-- so few tasks that turns at all executors, and one more, may each make 16
abbrev pub IsRoomy : SearchedHistory → Type 0
IsRoomy x = tasks_of (root_count x.steps.book.script) x.steps.book.log + MADE * (executor_count (arc_value x.steps.script) + 1) ≤ TASKS

-- What the next turn of each task begins with (our own).
use Rattle.std.specs.Prelude.{◌≡◌, ℕ, ◌==◌, if◌then◌else◌, Option, Some, None, List, slice_index_or}
use Rattle.std.specs.Option.{option_map}
use Rattle.swift_types.specs.declared.id.TaskId.{TaskId}
use Rattle.swift_script.specs.Scripts.{ScriptView}
use Rattle.swift_history.specs.Orderly.{frames_executor}
use Rattle.swift_history.specs.TurnEnds.{JobFacts}
use Rattle.swift_job.specs.Job.{JobView}
use Rattle.swift_turn.specs.Body.{BodyView, IsRunning}
use Rattle.swift_steps.specs.declared.next_turn.NextTurn.{NextTurn}

-- what the next turn of a task begins with, where it is there
abbrev pub given_at : List (Option NextTurn) → ℕ → Option NextTurn
given_at tasks t = slice_index_or tasks t None

abbrev pub with_given : ℕ → Option NextTurn → (ℕ → Option NextTurn) → ℕ → Option NextTurn
with_given t g at u = if u == t then g else at u

-- as a history has it
abbrev pub given_view : ℕ → NextTurn → JobFacts
given_view t g = record { task = t; number = g.number; resume = g.resume; frames = g.body.task }

-- the job of that turn
abbrev pub job_of : TaskId → NextTurn → JobView BodyView
job_of task g = record { task = task; number = g.number; resume = g.resume; body = g.body }

-- the jobs of a history are those that are there
abbrev pub AreGiven : (ℕ → Option JobFacts) → List (Option NextTurn) → Type 0
AreGiven seen tasks = (t : ℕ) → seen t ≡ option_map (given_view t) (given_at tasks t)

-- the body of what a task goes on with is of the script, and has not ended
pub record IsReadyOf (script : ScriptView) (g : NextTurn) : Type 0 where
  pub script_is : g.body.script ≡ script
  pub runs : IsRunning g.body

abbrev pub AreOf : ScriptView → List (Option NextTurn) → Type 0
AreOf script tasks = (t : ℕ) (g : NextTurn) → given_at tasks t ≡ Some g → IsReadyOf script g

-- a copy of what a task goes on with
pub record IsSame (g h : NextTurn) : Type 0 where
  pub number : h.number ≡ g.number
  pub resume : h.resume ≡ g.resume
  pub script : h.body.script ≡ g.body.script
  pub task : h.body.task ≡ g.body.task

-- the same, where it is there
abbrev pub IsSameIf : Option NextTurn → Option NextTurn → Type 0
IsSameIf None None = Unit {0}
IsSameIf (Some g) (Some h) = IsSame g h
IsSameIf _ _ = ⊥

-- the executor of the actor whose method a task runs next
abbrev pub seat_if : ScriptView → Option NextTurn → Option ℕ
seat_if script None = None
seat_if script (Some g) = frames_executor script g.body.task.frames

abbrev pub seat_of : ScriptView → List (Option NextTurn) → ℕ → Option ℕ
seat_of script tasks t = seat_if script (given_at tasks t)

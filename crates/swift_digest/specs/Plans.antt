-- Frames without their instruction's number (our own). More than one number can stand for the same rest of a method, as each past
-- its last instruction stands for its end, and a lawful record may have any of these. So a plan has that rest itself.
use Rattle.std.specs.Prelude.{ℕ, ℤ, Option, List, [], ◌∷◌, map}
use Rattle.std.specs.Option.{option_map}
use Rattle.swift_types.specs.declared.outcome.Fault.{Fault}
use Rattle.swift_types.specs.declared.outcome.Resume.{Resume}
use Rattle.script_code.specs.Tree.{Code}
use Rattle.script_code.specs.Layout.{code_at}
use Rattle.swift_script.specs.Scripts.{ScriptView, method_code}
use Rattle.swift_interpreter.specs.Frames.{FrameView}
use Rattle.swift_turn.specs.Body.{TaskView}
use Rattle.swift_history.specs.TurnEnds.{JobFacts, WaitingTaskView}

-- a frame, with the statements that are still to do in place of its instruction's number
pub record FramePlan : Type 0 where
  pub method : ℕ
  pub todo : Code
  pub variables : List ℤ
  pub handles : List ℕ
  pub own : List (ℕ × ℤ)
  pub groups : List ℕ
  pub pending : Option Fault
  pub made : ℕ
  pub opened : ℕ

-- the plan of a frame: what is still to do is what its instruction stands for in the code of its method
abbrev pub plan_of : ScriptView → FrameView → FramePlan
plan_of script p = record {
  method = p.method;
  todo = code_at (method_code script p.method) p.instruction;
  variables = p.variables;
  handles = p.handles;
  own = p.own;
  groups = p.groups;
  pending = p.pending;
  made = p.made;
  opened = p.opened;
}

-- the plan of a caller: its counts do not matter, since it gets those of the frame that returns to it
abbrev pub caller_plan : ScriptView → FrameView → FramePlan
caller_plan script p = record (plan_of script p) { made = 0; opened = 0 }

-- the plans of a task's frames: of the one that runs, and of its callers
abbrev pub frame_plans : ScriptView → List FrameView → List FramePlan
frame_plans script [] = []
frame_plans script (p ∷ callers) = plan_of script p ∷ map (caller_plan script) callers

-- a task's frames and bindings, with plans in place of frames
pub record TaskPlan : Type 0 where
  pub frames : List FramePlan
  pub outer : List (ℕ × ℤ)

-- a job, with the plan of its task
pub record JobPlan : Type 0 where
  pub task : ℕ
  pub number : ℕ
  pub resume : Resume
  pub plan : TaskPlan

-- a task that waits, with its plan
pub record WaitingTaskPlan : Type 0 where
  pub number : ℕ
  pub plan : TaskPlan

-- the plan of a task: those of its frames, and the same bindings
abbrev pub task_plan : ScriptView → TaskView → TaskPlan
task_plan script v = record { frames = frame_plans script v.frames; outer = v.outer }

-- a job with the plan of its task, and all else as it is
abbrev pub job_plan : ScriptView → JobFacts → JobPlan
job_plan script j = record { task = j.task; number = j.number; resume = j.resume; plan = task_plan script j.frames }

-- a task that waits, with its plan and the number of its next turn
abbrev pub held_plan : ScriptView → WaitingTaskView → WaitingTaskPlan
held_plan script h = record { number = h.number; plan = task_plan script h.frames }

-- the tasks that wait, by number, each with its plan
abbrev pub held_plans : ScriptView → List (Option WaitingTaskView) → List (Option WaitingTaskPlan)
held_plans script held = map (option_map (held_plan script)) held

-- jobs, each with the plan of its task
abbrev pub job_plans : ScriptView → List JobFacts → List JobPlan
job_plans script jobs = map (job_plan script) jobs

-- Values as lists of numbers, from which they can be read again, also where more numbers follow (our own).
use Rattle.std.specs.Prelude.{ℕ, zero, suc, ℤ, pos, ◌/◌, ◌%◌, ◌^◌, Bool, true, false, Option, Some, None, List, [], ◌∷◌, ◌++◌}
use Rattle.swift_types.specs.declared.id.TaskId.{TaskId}
use Rattle.swift_types.specs.declared.outcome.Fault.{Fault}
use Rattle.swift_types.specs.declared.outcome.Fault.TheVariants as fault
use Rattle.swift_types.specs.declared.outcome.Ending.{Ending}
use Rattle.swift_types.specs.declared.outcome.Ending.TheVariants as ending
use Rattle.swift_types.specs.declared.outcome.Resume.{Resume}
use Rattle.swift_types.specs.declared.outcome.Resume.TheVariants as resume
use Rattle.swift_types.specs.declared.priority.Priority.{Priority}
use Rattle.swift_types.specs.Priority.{rank}
use Rattle.swift_types.specs.declared.env.Env.{Env}
use Rattle.swift_events.specs.declared.life.Origin.{Origin}
use Rattle.swift_events.specs.declared.life.Origin.TheVariants as origin
use Rattle.swift_events.specs.declared.life.LastJob.{LastJob}
use Rattle.swift_events.specs.declared.life.JobStage.{JobStage}
use Rattle.swift_events.specs.declared.life.JobStage.TheVariants as stage
use Rattle.swift_events.specs.declared.life.Life.{Life}
use Rattle.swift_escalation.specs.declared.waits.PriorityEvent.{PriorityEvent as Link}
use Rattle.swift_escalation.specs.declared.waits.PriorityEvent.TheVariants as link

-- of two values, and of a value that may be there
abbrev pub pair_numbers : {A B : Type 0} → (A → List ℤ) → (B → List ℤ) → A × B → List ℤ
pair_numbers f g x = f x.0 ++ g x.1

-- a value that may be there: 0 where there is none, else 1 and the value
abbrev pub option_numbers : {A : Type 0} → (A → List ℤ) → Option A → List ℤ
option_numbers f None = pos 0 ∷ []
option_numbers f (Some x) = pos 1 ∷ f x

-- of some values, each after a 1
abbrev pub some_numbers : {A : Type 0} → (A → List ℤ) → List A → List ℤ
some_numbers f [] = []
some_numbers f (x ∷ xs) = (pos 1 ∷ f x) ++ some_numbers f xs

-- some values, each after a 1, with a 0 at the end
abbrev pub list_numbers : {A : Type 0} → (A → List ℤ) → List A → List ℤ
list_numbers f xs = some_numbers f xs ++ pos 0 ∷ []

-- of each of the first values of a table
abbrev pub each_numbers : {A : Type 0} → (A → List ℤ) → (ℕ → A) → ℕ → List ℤ
each_numbers f at zero = []
each_numbers f at (suc n) = each_numbers f at n ++ f (at n)

-- a value, as itself
abbrev pub value_numbers : ℤ → List ℤ
value_numbers v = v ∷ []

-- a natural number
abbrev pub number_numbers : ℕ → List ℤ
number_numbers n = pos n ∷ []

-- of a number of 64 bits: its halves
abbrev pub wide_numbers : ℕ → List ℤ
wide_numbers n = pos (n / 2 ^ 32) ∷ pos (n % 2 ^ 32) ∷ []

-- a flag: 1 where it is set, else 0
abbrev pub flag_numbers : Bool → List ℤ
flag_numbers true = pos 1 ∷ []
flag_numbers false = pos 0 ∷ []

-- a task, by its number
abbrev pub task_numbers : TaskId → List ℤ
task_numbers t = pos t.0 ∷ []

-- a priority, by its rank
abbrev pub priority_numbers : Priority → List ℤ
priority_numbers p = pos (rank p) ∷ []

-- a fault: which one, and the value of one that was thrown
abbrev pub fault_numbers : Fault → List ℤ
fault_numbers (fault.Thrown v) = pos 0 ∷ v ∷ []
fault_numbers fault.Cancelled = pos 1 ∷ []
fault_numbers fault.Invariant = pos 2 ∷ []
fault_numbers fault.Overflow = pos 3 ∷ []
fault_numbers fault.Steps = pos 4 ∷ []
fault_numbers fault.Turns = pos 5 ∷ []
fault_numbers fault.Depth = pos 6 ∷ []
fault_numbers fault.Tasks = pos 7 ∷ []
fault_numbers fault.Empty = pos 8 ∷ []
fault_numbers fault.Isolation = pos 9 ∷ []

-- how a task ended: 0 and a value, or 1 and a fault
abbrev pub ending_numbers : Ending → List ℤ
ending_numbers (ending.Value v) = pos 0 ∷ v ∷ []
ending_numbers (ending.Fault f) = pos 1 ∷ fault_numbers f

-- what a turn begins with: which kind, and its value or fault
abbrev pub resume_numbers : Resume → List ℤ
resume_numbers resume.Start = pos 0 ∷ []
resume_numbers resume.Go = pos 1 ∷ []
resume_numbers (resume.Value v) = pos 2 ∷ v ∷ []
resume_numbers (resume.Fault f) = pos 3 ∷ fault_numbers f

-- who made a task: which kind, and the task, with the group of a child
abbrev pub origin_numbers : Origin → List ℤ
origin_numbers origin.Root = pos 0 ∷ []
origin_numbers (origin.Child o g) = pos 1 ∷ pos o.0 ∷ pos g ∷ []
origin_numbers (origin.Spawned b) = pos 2 ∷ pos b.0 ∷ []
origin_numbers (origin.Detached b) = pos 3 ∷ pos b.0 ∷ []

-- the last job of a task: its number, and what it begins with
abbrev pub given_numbers : LastJob → List ℤ
given_numbers g = pair_numbers number_numbers resume_numbers (g.number, g.resume)

-- an environment: priority, whether it is cancelled, and room
abbrev pub env_numbers : Env → List ℤ
env_numbers e = pair_numbers priority_numbers (pair_numbers flag_numbers number_numbers) (e.priority, (e.cancelled, e.room))

-- how far a task is: which stage, and what it begins in or waits for
abbrev pub stage_numbers : JobStage → List ℤ
stage_numbers stage.Given = pos 0 ∷ []
stage_numbers (stage.Begun env) = pos 1 ∷ env_numbers env
stage_numbers stage.Applied = pos 2 ∷ []
stage_numbers (stage.Waits t) = pos 3 ∷ pos t.0 ∷ []
stage_numbers (stage.Asks g) = pos 4 ∷ pos g ∷ []
stage_numbers (stage.Closes g) = pos 5 ∷ pos g ∷ []

-- the life of a task: its origin, its last job, its stage and its ending, each where there is one
abbrev pub life_numbers : Life → List ℤ
life_numbers l =
    pair_numbers (option_numbers origin_numbers) (pair_numbers (option_numbers given_numbers) (pair_numbers (option_numbers stage_numbers) (option_numbers ending_numbers)))
    (l.origin, (l.given, (l.stage, l.ending)))

-- a link between tasks: which kind, and the tasks, with the priority where there is one
abbrev pub link_numbers : Link → List ℤ
link_numbers (link.Root t p) = pos 0 ∷ pos t.0 ∷ pos (rank p) ∷ []
link_numbers (link.Child t o p) = pos 1 ∷ pos t.0 ∷ pos o.0 ∷ pos (rank p) ∷ []
link_numbers (link.Free t p) = pos 2 ∷ pos t.0 ∷ pos (rank p) ∷ []
link_numbers (link.Wait t a) = pos 3 ∷ pos t.0 ∷ pos a.0 ∷ []

-- Names of tasks (our own).
use Rattle.std.specs.Prelude.{ℕ, zero, suc, ◌+◌, Bool, false, Option, None, Some, List, [], ◌++◌, codes, count_by, decimal, length, nat_eq, slice_get, take}
use Rattle.swift_types.specs.declared.id.TaskId.{TaskId}
use Rattle.swift_types.specs.declared.outcome.Ending.{Ending}
use Rattle.swift_events.specs.declared.life.Origin.{Origin}
use Rattle.swift_events.specs.declared.life.Origin.TheVariants.{Root, Child, Spawned, Detached}
use Rattle.swift_script.specs.Scripts.{ScriptView, root_name}

-- the task that has made another one
abbrev pub maker_of : Origin → Option TaskId
maker_of Root = None
maker_of (Child by g) = Some by
maker_of (Spawned by) = Some by
maker_of (Detached by) = Some by

abbrev pub is_task : TaskId → Option TaskId → Bool
is_task t None = false
is_task t (Some u) = nat_eq u.0 t.0

-- whether a task that comes from there was made by this one
abbrev pub is_made_by : TaskId → Origin → Bool
is_made_by maker origin = is_task maker (maker_of origin)

-- how many of these tasks a task has made
abbrev pub made_of : List (Origin × Ending) → TaskId → ℕ
made_of es maker = count_by (λ e. is_made_by maker e.0) es

-- a task by the name of its maker: a root's name is its root's, and another one's that of its maker, and its place among those that its
-- maker has made, from 1
abbrev pub name_by : (ℕ → List ℕ) → ScriptView → List (Origin × Ending) → ℕ → Option TaskId → List ℕ
name_by before p es t None = root_name p t
name_by before p es t (Some maker) = before maker.0 ++ codes "/" ++ decimal (made_of (take (t + 1) es) maker)

abbrev pub name_if : (ℕ → List ℕ) → ScriptView → List (Origin × Ending) → ℕ → Option (Origin × Ending) → List ℕ
name_if before p es t None = []
name_if before p es t (Some e) = name_by before p es t (maker_of e.0)

-- the name of a task, which with its makers is of at most so many tasks
abbrev pub name_within : ℕ → ScriptView → List (Origin × Ending) → ℕ → List ℕ
name_within zero p es t = []
name_within (suc n) p es t = name_if (name_within n p es) p es t (slice_get es t)

-- The name of a task of a run whose tasks come from there: of a root's its root's name, `second`; and of another one its maker's, and its
-- place among those that its maker has made, from 1: `second/1`.
abbrev pub task_name : ScriptView → List (Origin × Ending) → ℕ → List ℕ
task_name p es t = name_within (length es) p es t

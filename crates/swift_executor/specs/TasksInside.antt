-- A list of tasks with room.
use Rattle.std.specs.Prelude.{ℕ, List}
use Rattle.swift_types.specs.declared.id.TaskId.{TaskId}

pub record ReadyTasksView : Type 0 where
  pub tasks : List TaskId
  pub room : ℕ

-- A job, as callers see it.
use Rattle.std.specs.Prelude.{ℕ}
use Rattle.swift_types.specs.declared.id.TaskId.{TaskId}
use Rattle.swift_types.specs.declared.outcome.Resume.{Resume}

-- a turn that is still to be run: whose it is, its number among the turns of that task, what it begins with, and what runs it
pub record JobView (B : Type 0) : Type 0 where
  pub task : TaskId
  pub number : ℕ
  pub resume : Resume
  pub body : B

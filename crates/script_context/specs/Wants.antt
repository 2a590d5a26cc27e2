-- What a name has to be, by where it stands (our own).
use Rattle.std.specs.Prelude.{◌≡◌, ℕ, List, codes}
use Rattle.script_context.specs.declared.declared.Declared.{Declared}
use Rattle.script_context.specs.declared.declared.Declared.TheVariants as declared
use Rattle.script_context.specs.declared.wanted.Wanted.{Wanted}
use Rattle.script_context.specs.declared.wanted.Wanted.TheVariants as wanted

-- what it is called
abbrev pub wanted_called : Wanted → List ℕ
wanted_called wanted.Executor = codes "an executor"
wanted_called wanted.Local = codes "a task local"
wanted_called wanted.Actor = codes "an actor"
wanted_called wanted.Method = codes "a method of this actor"
wanted_called wanted.Task = codes "a task"
wanted_called wanted.Cancelled = codes "a task or a group"
wanted_called wanted.Group = codes "a group"
wanted_called wanted.Value = codes "a field, a parameter or a variable"

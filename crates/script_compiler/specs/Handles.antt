-- Handles are used as they were made: as a task where a task was kept there last, and as a group where a group was.
use Rattle.std.specs.Prelude.{◌≡◌, ℕ, zero, suc, ◌==◌, Option, Some, None, if◌then◌else◌}
use Rattle.script_names.specs.declared.scope.NameKind.{NameKind}
use Rattle.script_names.specs.declared.scope.NameKind.TheVariants as kind
use Rattle.script_code.specs.declared.instruction.Cancelled.{Cancelled}
use Rattle.script_code.specs.declared.instruction.Cancelled.TheVariants as cancelled_one
use Rattle.script_code.specs.Tree.{Wanted, task, next, Operation, wait, spawn, detach, add, cancel, open_group, Code}
use Rattle.script_code.specs.Instructions.{NextAction, ends, does, tests, first}

-- what each handle holds, if it holds anything yet: a task or a group
abbrev pub Held : Type 0
Held = ℕ → Option NameKind

-- At the beginning of a method handles hold nothing.
abbrev pub none_held : Held
none_held h = None

-- One handle holds this from now on.
abbrev pub held_at : ℕ → NameKind → Held → Held
held_at place k held h = if h == place then Some k else held h

-- A task is made, and its number is perhaps kept.
abbrev pub task_kept : Option ℕ → Held → Held
task_kept None held = held
task_kept (Some h) held = held_at h kind.Task held

-- what handles hold after a statement
abbrev pub held_after : Operation → Held → Held
held_after (spawn t given handle) held = task_kept handle held
held_after (detach t given handle) held = task_kept handle held
held_after (open_group h) held = held_at h kind.Group held
held_after _ held = held

-- The handle that is waited for holds a task, or a group for its next child.
abbrev pub WantedMatches : Held → Wanted → Type 0
WantedMatches held (task h) = held h ≡ Some kind.Task
WantedMatches held (next h) = held h ≡ Some kind.Group
WantedMatches held _ = Unit {0}

-- The handle that is cancelled holds what is cancelled.
abbrev pub CancelledMatches : Held → Cancelled → Type 0
CancelledMatches held (cancelled_one.Task h) = held h ≡ Some kind.Task
CancelledMatches held (cancelled_one.Group h) = held h ≡ Some kind.Group
CancelledMatches held (cancelled_one.Root r) = Unit {0}

-- Each handle that a statement uses holds what it is used as.
abbrev pub OperationMatches : Held → Operation → Type 0
OperationMatches held (wait w) = WantedMatches held w
OperationMatches held (add group unless t given) = held group ≡ Some kind.Group
OperationMatches held (cancel x) = CancelledMatches held x
OperationMatches held _ = Unit {0}

-- So it is of what is done next, and then of the rest, also after a test, whichever way it goes.
abbrev pub NextMatches : (Held → Code → Type 0) → Held → NextAction → Type 0
NextMatches Rest held ends = Unit {0}
NextMatches Rest held (does d rest) = OperationMatches held d × Rest (held_after d held) rest
NextMatches Rest held (tests t a b) = Rest held a × Rest held b

-- So it is of the next `n` statements and tests of the code, where n is the number that comes first.
abbrev pub HandlesMatch : ℕ → Held → Code → Type 0
HandlesMatch zero held body = Unit {0}
HandlesMatch (suc n) held body = NextMatches (HandlesMatch n) held (first body)

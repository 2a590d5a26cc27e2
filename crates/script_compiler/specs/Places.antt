-- The places that a method's code names are places that the method has: each number that is read or set, and each handle
-- that is used or kept.
use Rattle.std.specs.Prelude.{◌≡◌, ◌<◌, Bool, true, false, IfSome}
use Rattle.std.specs.List.{list_any, AllByRecursion}
use Rattle.script_names.specs.declared.scope.NameKind.{NameKind}
use Rattle.script_names.specs.declared.scope.NameKind.TheVariants as kind
use Rattle.script_names.specs.Scope.{ScopeView}
use Rattle.script_code.specs.declared.instruction.NumberPlace.{NumberPlace}
use Rattle.script_code.specs.declared.instruction.NumberPlace.TheVariants.{Variable, Field}
use Rattle.script_code.specs.declared.instruction.Cancelled.{Cancelled}
use Rattle.script_code.specs.declared.instruction.Cancelled.TheVariants as cancelled_one
use Rattle.script_code.specs.Tree.{Term, number, variable, field, local, priority, cancelled, opposite, denial, binary, CallTarget, Wanted, call, root, task, next, Operation, set_variable, set_field, return, throw, check, yield, wait, receive, spawn, detach, add, cancel, open_group, close_group, bind, unbind, assume, isolated, Code}
use Rattle.script_compiler.specs.declared.lowering.counts.PlaceCounts.{PlaceCounts}
use Rattle.script_compiler.specs.Parts.{EachPart}

-- The variables that an expression reads are below the number of numbers.
abbrev pub TermBelow : PlaceCounts → Term → Type 0
TermBelow c (number n) = Unit {0}
TermBelow c (variable x) = x < c.numbers
TermBelow c (field p) = Unit {0}
TermBelow c (local l default) = Unit {0}
TermBelow c priority = Unit {0}
TermBelow c cancelled = Unit {0}
TermBelow c (opposite a) = TermBelow c a
TermBelow c (denial a) = TermBelow c a
TermBelow c (binary o a b) = TermBelow c a × TermBelow c b

-- So is the variable that is set.
abbrev pub PlaceBelow : PlaceCounts → NumberPlace → Type 0
PlaceBelow c (Variable x) = x < c.numbers
PlaceBelow c (Field p) = Unit {0}

-- So are those that a call's arguments read.
abbrev pub TargetBelow : PlaceCounts → CallTarget → Type 0
TargetBelow c t = AllByRecursion (TermBelow c) t.args

-- The handle of a task or a group that is waited for is below the number of handles.
abbrev pub WantedBelow : PlaceCounts → Wanted → Type 0
WantedBelow c (call t) = TargetBelow c t
WantedBelow c (root r) = Unit {0}
WantedBelow c (task h) = h < c.handles
WantedBelow c (next h) = h < c.handles

-- So is that of a task or a group that is cancelled.
abbrev pub CancelledBelow : PlaceCounts → Cancelled → Type 0
CancelledBelow c (cancelled_one.Task h) = h < c.handles
CancelledBelow c (cancelled_one.Group h) = h < c.handles
CancelledBelow c (cancelled_one.Root r) = Unit {0}

-- All places of a statement are below: those that it reads, sets, uses and keeps.
abbrev pub OperationBelow : PlaceCounts → Operation → Type 0
OperationBelow c (set_variable x t) = (x < c.numbers) × TermBelow c t
OperationBelow c (set_field p t) = TermBelow c t
OperationBelow c (return t) = TermBelow c t
OperationBelow c (throw t) = TermBelow c t
OperationBelow c check = Unit {0}
OperationBelow c yield = Unit {0}
OperationBelow c (wait w) = WantedBelow c w
OperationBelow c (receive place other) = IfSome place (PlaceBelow c) × IfSome other (TermBelow c)
OperationBelow c (spawn t given handle) = TargetBelow c t × IfSome handle (λ h. h < c.handles)
OperationBelow c (detach t given handle) = TargetBelow c t × IfSome handle (λ h. h < c.handles)
OperationBelow c (add group unless t given) = (group < c.handles) × TargetBelow c t
OperationBelow c (cancel x) = CancelledBelow c x
OperationBelow c (open_group h) = h < c.handles
OperationBelow c close_group = Unit {0}
OperationBelow c (bind l t) = TermBelow c t
OperationBelow c unbind = Unit {0}
OperationBelow c assume = Unit {0}
OperationBelow c isolated = Unit {0}

-- Every place that code names is below the number of places.
abbrev pub PlacesBelow : PlaceCounts → Code → Type 0
PlacesBelow c body = EachPart (OperationBelow c) (TermBelow c) body

-- whether a kind is that of a field
abbrev pub is_field : NameKind → Bool
is_field kind.Field = true
is_field kind.Number = false
is_field kind.Task = false
is_field kind.Group = false

-- The names of the method that stand there are numbers and handles: none has the kind of a field.
abbrev pub HoldsNoField : ScopeView → Type 0
HoldsNoField s = list_any is_field s.kinds ≡ false

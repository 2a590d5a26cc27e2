-- Words of the script (our own).
use Rattle.std.specs.Prelude.{ℕ, List, Option, Some, None, codes}
use Rattle.swift_types.specs.declared.operator.Operator.{Operator}
use Rattle.swift_types.specs.declared.operator.Operator.TheVariants as operators
use Rattle.swift_types.specs.declared.priority.Priority.{Priority}
use Rattle.swift_types.specs.declared.priority.Priority.TheVariants as priorities

-- an operator between its operands
abbrev pub operator_text : Operator → List ℕ
operator_text operators.Or = codes " || "
operator_text operators.And = codes " && "
operator_text operators.Equal = codes " == "
operator_text operators.Unequal = codes " != "
operator_text operators.Less = codes " < "
operator_text operators.AtMost = codes " <= "
operator_text operators.Greater = codes " > "
operator_text operators.AtLeast = codes " >= "
operator_text operators.Plus = codes " + "
operator_text operators.Minus = codes " - "
operator_text operators.Times = codes " * "

-- how a statement ends that makes a task: with the priority of its own, if it has one
abbrev pub urgency_text : Option Priority → List ℕ
urgency_text (Some priorities.Background) = codes " at background;"
urgency_text (Some priorities.Low) = codes " at low;"
urgency_text (Some priorities.Medium) = codes " at medium;"
urgency_text (Some priorities.High) = codes " at high;"
urgency_text None = codes ";"

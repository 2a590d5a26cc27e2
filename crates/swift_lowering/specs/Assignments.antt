-- Where an assignment goes, and how it changes what stands there. (Our own.)
use Rattle.std.specs.Prelude.{ℕ, ◌≡◌, Bool, true, false, Option, None, Some}
use Rattle.std.specs.List.{slice_get}
use Rattle.swift_types.specs.declared.operator.Operator.{Operator}
use Rattle.swift_types.specs.declared.operator.Operator.TheVariants as operators
use Rattle.swift_syntax.specs.declared.tree.Assigning.{Assigning}
use Rattle.swift_syntax.specs.declared.tree.Assigning.TheVariants as assigning
use Rattle.swift_expressions.specs.Scopes.{IsFieldAt, IsFirst, IsFree, IsInnermost}
use Rattle.swift_expressions.specs.States.{State}
use Rattle.swift_expressions.specs.declared.code.Instruction.{Instruction}
use Rattle.swift_expressions.specs.declared.code.Instruction.TheVariants as instruction
use Rattle.swift_expressions.specs.declared.code.Value.{Value}
use Rattle.swift_expressions.specs.declared.code.Value.TheVariants as value
use Rattle.swift_expressions.specs.declared.scope.Binding.{Binding}
use Rattle.swift_lowering.specs.declared.assignment.Destination.{Destination}
use Rattle.swift_lowering.specs.declared.assignment.Destination.TheVariants.{Name, Field}

-- the value that reads it
abbrev pub read_of : Destination → Value
read_of (Name b) = value.Variable b.variable
read_of (Field f) = value.Field f

-- the instruction that gives it a value
abbrev pub set_of : Destination → ℕ → Instruction
set_of (Name b) place = instruction.Set b.variable place
set_of (Field f) place = instruction.SetField f place

-- how an assignment combines what was there with a value, unless it only sets it
abbrev pub operator_of : Assigning → Option Operator
operator_of assigning.Set = None
operator_of assigning.Add = Some operators.Plus
operator_of assigning.Subtract = Some operators.Minus
operator_of assigning.Multiply = Some operators.Times

-- Where an assignment to a name goes: to the innermost name in scope of its spelling, or, where there is none, to the first such field of the
-- own actor; behind `self.` always to that.
pub data GoesTo (s : State) (name : ℕ) : Bool → Destination → Type 0 where
  to_name : {b : Binding} (place : ℕ) → IsInnermost s name place → slice_get s.scope place ≡ Some b → GoesTo s name false (Name b)
  to_field : {field : ℕ} → IsFree s name → IsFirst (IsFieldAt s s.actor name) field → GoesTo s name false (Field field)
  to_own : {field : ℕ} → IsFirst (IsFieldAt s s.actor name) field → GoesTo s name true (Field field)

-- What the instructions of a file end in (our own).
use Rattle.std.specs.Prelude.{ℕ, ◌≡◌, ◌++◌, List, [], ◌∷◌, Option, MatchOption, true}
use Rattle.swift_types.specs.declared.operator.Operator.{Operator}
use Rattle.swift_expressions.specs.declared.code.Code.{Code}
use Rattle.swift_expressions.specs.declared.code.Instruction.{Instruction}
use Rattle.swift_expressions.specs.declared.code.Instruction.TheVariants as instruction
use Rattle.swift_expressions.specs.declared.code.Value.{Value}
use Rattle.swift_expressions.specs.declared.code.Value.TheVariants as value
use Rattle.swift_expressions.specs.declared.lowering.Lowering.{Lowering}
use Rattle.swift_expressions.specs.Instructions.{IsBound, IsVariableOf, value_at}

-- A value combines what is read there and then with another one.
pub record Combines (code : Code) (operator : Operator) (read : Value) (right place : ℕ) : Type 0 where
  pub left : ℕ
  pub is : value_at code place ≡ value.Binary operator left right
  pub reads : value_at code left ≡ read

-- An instruction gives a variable, or a field, this value.
abbrev pub Sets : ℕ → Instruction → Type 0
Sets right (instruction.Set v place) = place ≡ right
Sets right (instruction.SetField f place) = place ≡ right
Sets right _ = ⊥

-- An instruction reads what it sets, and combines that with a value.
abbrev pub Changes : Code → Operator → ℕ → Instruction → Type 0
Changes code operator right (instruction.Set v place) = Combines code operator (value.Variable v) right place
Changes code operator right (instruction.SetField f place) = Combines code operator (value.Field f) right place
Changes code operator right _ = ⊥

-- Behind these instructions stands one that gives a variable, or a field, this value.
pub record EndsInSet (before : List Instruction) (code : Code) (right : ℕ) : Type 0 where
  pub last : Instruction
  pub is : code.instructions.items ≡ before ++ last ∷ []
  pub sets : Sets right last

-- Behind these instructions stands one that reads what it sets, and combines that with this value.
pub record EndsInChange (before : List Instruction) (code : Code) (operator : Operator) (right : ℕ) : Type 0 where
  pub last : Instruction
  pub is : code.instructions.items ≡ before ++ last ∷ []
  pub changes : Changes code operator right last

-- The last instruction is an assignment: of a value, or of what is read there and then, combined with a value.
pub record EndsInAssignment (code : Code) (how : Option Operator) : Type 0 where
  pub before : List Instruction
  pub right : ℕ
  pub assigns : MatchOption how (EndsInSet before code right) (λ operator. EndsInChange before code operator right)

-- The last instructions cancel a group, and end its block.
pub record EndsCancelled (code : Code) (group : ℕ) : Type 0 where
  pub before : List Instruction
  pub is : code.instructions.items ≡ before ++ instruction.Cancel group ∷ instruction.End ∷ []

-- A name that was not in scope stands for a parameter of this unit, which has the value that is handed over where the unit is begun.
pub record IsHandedOver (before after : Lowering) (unit token : ℕ) : Type 0 where
  pub variable : ℕ
  pub bound : IsBound before after token variable
  pub param : IsVariableOf after.code variable unit true

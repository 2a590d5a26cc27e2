-- What is put among the instructions of a file, and which values nothing changes any more (our own).
use Rattle.std.specs.Prelude.{ℕ, Bool, ◌≡◌, ◌++◌, ◌⊎◌, List, [], ◌∷◌, Some, IsNone, length, pos, ◌<◌, slice_index_or}
use Rattle.std.specs.List.{slice_get}
use Rattle.swift_expressions.specs.declared.code.Code.{Code}
use Rattle.swift_expressions.specs.declared.code.Instruction.{Instruction}
use Rattle.swift_expressions.specs.declared.code.Instruction.TheVariants as instruction
use Rattle.swift_expressions.specs.declared.code.Kind.{Kind}
use Rattle.swift_expressions.specs.declared.code.Kind.TheVariants as kinds
use Rattle.swift_expressions.specs.declared.code.Target.{Target}
use Rattle.swift_expressions.specs.declared.code.Target.TheVariants.{Nothing, Declare}
use Rattle.swift_expressions.specs.declared.code.Value.{Value}
use Rattle.swift_expressions.specs.declared.code.Value.TheVariants as value
use Rattle.swift_expressions.specs.declared.code.Variable.{Variable}
use Rattle.swift_expressions.specs.declared.code.Wait.{Wait}
use Rattle.swift_expressions.specs.declared.lowering.Lowering.{Lowering}
use Rattle.swift_expressions.specs.declared.scope.Binding.{Binding}
use Rattle.swift_expressions.specs.declared.typed.Typed.{Typed}

-- Where no refusal is noted, none was before.
abbrev pub KeepsRefusal : Lowering → Lowering → Type 0
KeepsRefusal before after = IsNone after.refused → IsNone before.refused

-- An instruction stands behind those that were there, unless a refusal is noted.
abbrev pub Puts : Lowering → Lowering → Instruction → Type 0
Puts before after i = IsNone after.refused → after.code.instructions.items ≡ before.code.instructions.items ++ i ∷ []

-- the value at a place; 0 where there is no such place
abbrev pub value_at : Code → ℕ → Value
value_at code place = slice_index_or code.values.items place (value.Number (pos 0))

-- A value has this place, behind those that were there, unless a refusal is noted.
pub record IsPlaced (before after : Code) (v : Value) (place : ℕ) : Type 0 where
  pub behind : after.values.items ≡ before.values.items ++ v ∷ []
  pub within : place < length after.values.items
  pub is : value_at after place ≡ v

-- A value is a number, or a variable of the method: no turn of another task changes it.
abbrev pub IsSettled : Value → Type 0
IsSettled (value.Number n) = Unit {0}
IsSettled (value.Variable v) = Unit {0}
IsSettled (value.Field f) = ⊥
IsSettled (value.Member i f) = ⊥
IsSettled (value.Local l) = ⊥
IsSettled value.Priority = ⊥
IsSettled value.Cancelled = ⊥
IsSettled (value.Negate v) = ⊥
IsSettled (value.Not v) = ⊥
IsSettled (value.Binary o l r) = ⊥

-- What a wait gives is read from the variable that it gives its result to; what has no result is nothing.
abbrev pub IsResult : Target → Kind → Value → Type 0
IsResult (Declare v) kind read = read ≡ value.Variable v
IsResult Nothing kind read = kind ≡ kinds.Void

-- One wait stands behind what was there, by itself: what it gives is a value from there on.
pub record IsHoisted (before after : Lowering) (what : Wait) (found : Typed) : Type 0 where
  pub target : Target
  pub otherwise : ℕ
  pub put : after.code.instructions.items ≡ before.code.instructions.items ++ instruction.Wait target what otherwise ∷ []
  pub reads : IsResult target found.kind (value_at after.code found.value)

-- A value is read by an instruction behind those that were there, and kept in a variable.
pub record IsReadInto (before after : Lowering) (read : ℕ) (found : Typed) : Type 0 where
  pub variable : ℕ
  pub put : after.code.instructions.items ≡ before.code.instructions.items ++ instruction.Let variable read ∷ []
  pub reads : value_at after.code found.value ≡ value.Variable variable

-- A value that nothing can change any more stays as it is; any other is read here, before what follows, and kept in a variable.
abbrev pub IsKept : Lowering → Lowering → Typed → Typed → Type 0
IsKept before after given found = IsSettled (value_at after.code found.value) × ((found.value ≡ given.value) × (after.code ≡ before.code) ⊎ IsReadInto before after given.value found)

-- A variable of this unit has this place, and is a parameter of it or not.
pub record IsVariableOf (code : Code) (place unit : ℕ) (is_param : Bool) : Type 0 where
  pub variable : Variable
  pub at : slice_get code.variables.items place ≡ Some variable
  pub of : variable.unit ≡ unit
  pub param : variable.is_param ≡ is_param

-- A name stands for a variable, behind the names that were in scope.
pub record IsBound (before after : Lowering) (token variable : ℕ) : Type 0 where
  pub binding : Binding
  pub is : after.scope.items ≡ before.scope.items ++ binding ∷ []
  pub named : binding.token ≡ token
  pub stands : binding.variable ≡ variable

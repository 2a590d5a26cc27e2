-- A unit whose instructions stand among those of another one. (Our own.)
use Rattle.std.specs.Prelude.{ℕ, ◌≡◌, List, length, Option, Some, None, slice_set}
use Rattle.std.specs.List.{slice_get}
use Rattle.swift_syntax.specs.Expressions.{after}
use Rattle.swift_expressions.specs.States.{IsBegun, State, put}
use Rattle.swift_expressions.specs.declared.code.Instruction.{Instruction}
use Rattle.swift_expressions.specs.declared.code.Instruction.TheVariants as instruction
use Rattle.swift_expressions.specs.declared.code.TheConstants.{NONE}
use Rattle.swift_expressions.specs.declared.code.Unit as units
use Rattle.swift_expressions.specs.declared.code.UnitKind.TheVariants as unit_kinds

-- the actor of a unit that was looked for
abbrev pub actor_if : Option units.Unit → ℕ
actor_if None = NONE
actor_if (Some u) = u.actor

-- the token of its method's name
abbrev pub method_if : Option units.Unit → ℕ
method_if None = NONE
method_if (Some u) = u.method

-- with another unit
abbrev pub in_unit : ℕ → State → State
in_unit unit s = record s { unit = unit }

-- A unit that a closure becomes begins at a token, in the actor and the method around it, behind an instruction that goes over it. To
-- where, is known at its end.
pub record BeginsUnit (s : State) (token : ℕ) (t : State) : Type 0 where
  pub u : State
  pub begun : IsBegun s unit_kinds.Closure (actor_if (slice_get s.units s.unit)) (method_if (slice_get s.units s.unit)) token u
  pub state : t ≡ put (instruction.Skip 0) u

-- an instruction that was looked for is another one
abbrev pub exchanged : List Instruction → ℕ → Instruction → Option Instruction → List Instruction
exchanged all place i None = all
exchanged all place i (Some was) = slice_set all place i

-- the instruction at a place is another one
abbrev pub with_instruction : ℕ → Instruction → State → State
with_instruction place i s = record s { instructions = exchanged s.instructions place i (slice_get s.instructions place) }

-- a unit that was looked for has its instructions from a place on, up to another one, and ends with a token
abbrev pub bounded : List units.Unit → ℕ → ℕ → ℕ → ℕ → Option units.Unit → List units.Unit
bounded all place from to end None = all
bounded all place from to end (Some u) = slice_set all place (record u { from = from; to = to; end = end })

-- the unit at a place has these
abbrev pub with_bounds : ℕ → ℕ → ℕ → ℕ → State → State
with_bounds unit from to end s = record s { units = bounded s.units unit from to end (slice_get s.units unit) }

-- a unit ends: its instructions are those behind the one that goes over them, which goes here
abbrev pub unit_ended : ℕ → ℕ → ℕ → State → State
unit_ended unit skip end s = with_instruction skip (instruction.Skip (length s.instructions)) (with_bounds unit (after skip) (length s.instructions) end s)

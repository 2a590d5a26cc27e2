-- The blocks of groups and bindings, which stand in their unit. (Our own.)
use Rattle.std.specs.Prelude.{ℕ, ◌≡◌, false}
use Rattle.swift_syntax.specs.declared.tree.Into.{Into}
use Rattle.swift_syntax.specs.declared.tree.Into.TheVariants as goes
use Rattle.swift_expressions.specs.Lowered.{Lowers}
use Rattle.swift_expressions.specs.Scopes.{IsFirst, IsLocalAt}
use Rattle.swift_expressions.specs.States.{Binds, Gives, IsDeclared, State, next_variable, put}
use Rattle.swift_expressions.specs.declared.code.Instruction.TheVariants as instruction
use Rattle.swift_expressions.specs.declared.code.Kind.{Kind}
use Rattle.swift_expressions.specs.declared.code.TheConstants.{NONE}
use Rattle.swift_expressions.specs.declared.code.Value.TheVariants as value
use Rattle.swift_expressions.specs.declared.lowering.Returns.TheVariants as returning
use Rattle.swift_expressions.specs.declared.scope.Standing.TheVariants as standings
use Rattle.swift_expressions.specs.declared.typed.Typed.{Typed}
use Rattle.swift_lowering.specs.Catching.{begin_at_zero}
use Rattle.swift_lowering.specs.Statements.{GivesTo}

-- the variable for what a block gives, where that goes somewhere
abbrev pub result_variable : Into → State → ℕ
result_variable goes.Nothing s = NONE
result_variable (goes.Let name wanted) s = next_variable s
result_variable (goes.Var name wanted) s = next_variable s
result_variable (goes.Assign name) s = next_variable s
result_variable goes.Return s = next_variable s

-- with that variable
abbrev pub with_result : Into → State → State
with_result goes.Nothing s = s
with_result (goes.Let name wanted) s = begin_at_zero s
with_result (goes.Var name wanted) s = begin_at_zero s
with_result (goes.Assign name) s = begin_at_zero s
with_result goes.Return s = begin_at_zero s

-- A group begins, which its name stands for, with a count of its children.
pub record BeginsGroup (s : State) (name : ℕ) (kind : Kind) (t : State) : Type 0 where
  pub u : State
  pub declared : IsDeclared s name false u
  pub binds : Binds (begin_at_zero (put (instruction.Group (next_variable s)) u)) name standings.Group (next_variable s) kind (next_variable u) t

-- A value is bound to a task local: to the first one of an enum, each with the bytes of a token.
pub record BeginsBind (s : State) (of token given : ℕ) (t : State) : Type 0 where
  pub u : State
  pub found : Typed
  pub lowers : Lowers s given u found
  pub local : ℕ
  pub first : IsFirst (IsLocalAt u of token) local
  pub state : t ≡ put (instruction.Bind local found.value) u

-- what returns from a block goes to its variable, from so many open blocks
abbrev pub entered : ℕ → ℕ → State → State
entered variable blocks s = record s { returns = returning.Closure variable blocks; is_awaited = false }

-- What a block has given goes to where its statement gives it.
pub data GivesClosed (s : State) (into : Into) (variable : ℕ) (t : State) : Type 0 where
  nowhere : variable ≡ NONE → t ≡ s → GivesClosed s into variable t
  somewhere : {kind : Kind} {u : State} {found : Typed} → Gives s (value.Variable variable) kind u found → GivesTo u found t into → GivesClosed s into variable t

-- What a closure captures, and how it begins. (Our own.)
use Rattle.std.specs.Prelude.{ℕ, ◌≡◌, Bool, true, false, length, Some}
use Rattle.std.specs.List.{slice_get}
use Rattle.swift_syntax.specs.Expressions.{after}
use Rattle.swift_syntax.specs.declared.tree.ExprForm.{ExprForm}
use Rattle.swift_syntax.specs.declared.tree.ExprForm.TheVariants as expr
use Rattle.swift_syntax.specs.declared.tree.Receiver.{Receiver}
use Rattle.swift_syntax.specs.declared.tree.Receiver.TheVariants as receivers
use Rattle.swift_syntax.specs.declared.tree.Stmt.{Stmt}
use Rattle.swift_syntax.specs.declared.tree.TaskForm.{TaskForm}
use Rattle.swift_expressions.specs.Lowered.{Hands, Lowers, no_operands}
use Rattle.swift_expressions.specs.Scopes.{IsFirst, IsFree, IsInnermost, IsInstanceAt, IsMethodAt, IsMethodOf, IsOfActor}
use Rattle.swift_expressions.specs.States.{Binds, IsDeclared, State, expr_at, form_at, next_value, next_variable, put, with_operand, with_value}
use Rattle.swift_expressions.specs.declared.code.Callee.{Callee}
use Rattle.swift_expressions.specs.declared.code.Callee.TheVariants as callees
use Rattle.swift_expressions.specs.declared.code.Instruction.TheVariants as instruction
use Rattle.swift_expressions.specs.declared.code.TheConstants.{NONE}
use Rattle.swift_expressions.specs.declared.code.Value.TheVariants as value
use Rattle.swift_expressions.specs.declared.lowering.Fallback.TheVariants as fallbacks
use Rattle.swift_expressions.specs.declared.lowering.Returns.TheVariants as returning
use Rattle.swift_expressions.specs.declared.lowering.Setting.{Setting}
use Rattle.swift_expressions.specs.declared.operands.Operands.{Operands}
use Rattle.swift_expressions.specs.declared.scope.Binding.{Binding}
use Rattle.swift_expressions.specs.declared.scope.Standing.{Standing}
use Rattle.swift_expressions.specs.declared.scope.Standing.TheVariants as standings
use Rattle.swift_expressions.specs.declared.typed.Typed.{Typed}
use Rattle.swift_lowering.specs.Alone.{IsLone}
use Rattle.swift_lowering.specs.Catching.{begin_or}
use Rattle.swift_lowering.specs.Statements.{given_back}
use Rattle.swift_lowering.specs.Units.{BeginsUnit, in_unit}
use Rattle.swift_lowering.specs.declared.closure.ClosureBody.{ClosureBody}

-- A name stands for a parameter of a unit, of the type of what it stood for.
pub record Receives (s : State) (unit token : ℕ) (b : Binding) (t : State) : Type 0 where
  pub u : State
  pub declared : IsDeclared (in_unit unit s) b.token true u
  pub binds : Binds (in_unit s.unit u) token standings.Constant (next_variable s) b.kind (next_variable s) t

-- a variable is read, and handed over behind the operand at a place
abbrev pub handed : Binding → ℕ → State → State
handed b last s = with_operand (record { value = next_value s; kind = b.kind }) last (with_value (value.Variable b.variable) s)

-- whether what a name stands for is a value
abbrev pub is_value : Standing → Bool
is_value standings.Constant = true
is_value standings.Variable = true
is_value standings.Task = false
is_value standings.Group = false
is_value standings.Child = false

-- What the innermost name in scope with the bytes of a token stands for, a value, is handed over, and is a parameter of the unit; nothing is
-- where no name in scope has them. At which tokens names are captured is not said.
pub data Captures (s : State) (unit token last : ℕ) (t : State) (next : ℕ) : Type 0 where
  not_captured : IsFree s token → t ≡ s → next ≡ last → Captures s unit token last t next
  captured : {b : Binding} {u : State} (place : ℕ) → IsInnermost s token place → slice_get s.scope place ≡ Some b → is_value b.standing ≡ true → u ≡ handed b last s → Receives u unit token b t → next ≡ length s.operands → Captures s unit token last t next

-- What a closure captures: the operands from one place on to another one.
pub data CapturesAll (s : State) (unit : ℕ) : State → ℕ → ℕ → Type 0 where
  none_so_far : CapturesAll s unit s NONE NONE
  one_further : {t u : State} {first last next : ℕ} (token : ℕ) → CapturesAll s unit t first last → Captures t unit token last u next → CapturesAll s unit u (begin_or first next) next

-- how a closure begins: in a unit of its own, outside of actors, with the names that it has captured
abbrev pub in_closure : ℕ → ℕ → Bool → State → State
in_closure unit boundary is_awaited s = record s { unit = unit; actor = NONE; boundary = boundary; is_closure = true; is_expectation = false; is_awaited = is_awaited; fallback = fallbacks.None; returns = returning.Unit; groups = 0 }

-- A value is what a closure gives.
pub record IsGiven (s : State) (place : ℕ) (t : State) : Type 0 where
  pub u : State
  pub found : Typed
  pub lowers : Lowers s place u found
  pub state : t ≡ put (instruction.Return (given_back found.kind found.value)) u

-- A closure begins: in a unit, with what it captures; the first of its operands has this place.
pub record OpensClosure (s : State) (body : ClosureBody) (operand : ℕ) (t : State) : Type 0 where
  pub u : State
  pub begins : BeginsUnit s body.from u
  pub v : State
  pub last : ℕ
  pub captures : CapturesAll u (length s.units) v operand last
  pub state : t ≡ in_closure (length s.units) (length s.scope) body.is_implicit v

-- what an `await` or a `try` covers; any other expression is itself
abbrev pub covered_by : ℕ → ExprForm → ℕ
covered_by place (expr.Await inner) = inner
covered_by place (expr.Try inner) = inner
covered_by place _ = place

-- an expression without the `await` and `try` before it, of which there are at most three
abbrev pub uncovered : State → ℕ → ℕ
uncovered s place =
    let once = covered_by place (form_at s place) in
    let twice = covered_by once (form_at s once) in
    covered_by twice (form_at s twice)

-- What a call names that is all that a closure says: a function outside of actors, of no instance, or a method of the actor of an instance.
-- Of several with one name it is the first. No name in scope is meant.
pub data IsCallee (s : State) (token : ℕ) : Receiver → ℕ → ℕ → Type 0 where
  of_nobody : {method : ℕ} → IsFree s token → IsFirst (IsMethodAt s NONE token) method → IsCallee s token receivers.Nobody NONE method
  of_instance : {of instance actor method : ℕ} → IsFree s of → IsFirst (IsInstanceAt s of) instance → IsOfActor s instance actor → IsMethodOf s actor token method → IsCallee s token (receivers.Named of) instance method

-- What is called is what a task runs, with these arguments.
pub record HandsOver (s : State) (first instance method : ℕ) (t : State) (callee : Callee) : Type 0 where
  pub given : Operands
  pub hands : Hands (length s.tree.arguments.items) s first no_operands t given
  pub is : callee ≡ callees.Method instance method given.first

-- A closure that is but a call, with values that are the same wherever they are computed, is what it calls.
pub record IsDirect (s : State) (place : ℕ) (t : State) (callee : Callee) : Type 0 where
  pub receiver : Receiver
  pub first : ℕ
  pub calls : form_at s (uncovered s place) ≡ expr.Call receiver first
  pub instance : ℕ
  pub method : ℕ
  pub names : IsCallee s (expr_at s (uncovered s place)).token receiver instance method
  pub hands : HandsOver s first instance method t callee

-- what holds around a closure holds again
abbrev pub with_setting : Setting → State → State
with_setting o s = record s { unit = o.unit; actor = o.actor; boundary = o.boundary; is_closure = o.is_closure; is_expectation = o.is_expectation; is_awaited = o.is_awaited; fallback = o.fallback; returns = o.returns; groups = o.groups }

-- What a task says: its statements, or its value where that is one alone.
pub record IsOfTask (s : State) (stmt : Stmt) (what : TaskForm) (body : ClosureBody) : Type 0 where
  pub first : body.first ≡ what.body
  pub value : IsLone s what.body body.value
  pub from : body.from ≡ after stmt.token
  pub to : body.to ≡ stmt.end
  pub is_implicit : body.is_implicit ≡ false

-- What an `async let` says: its value.
pub record IsOfChild (stmt : Stmt) (given : ℕ) (body : ClosureBody) : Type 0 where
  pub value : body.value ≡ given
  pub from : body.from ≡ after stmt.token
  pub to : body.to ≡ stmt.end
  pub is_implicit : body.is_implicit ≡ true

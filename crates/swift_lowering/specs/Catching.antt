-- What a `do` catches: the fault of a wait, of which a value tells that nothing else gives. (Our own.)
use Rattle.std.specs.Prelude.{ℕ, zero, suc, ◌≡◌, ◌==◌, ◌-◌, ◌^◌, ◌<◌, ◌&&◌, Bool, true, false, if◌then◌else◌, ℤ, pos, length, Option, Some, None, is_some}
use Rattle.std.specs.List.{slice_get}
use Rattle.swift_types.specs.declared.operator.Operator.TheVariants as operators
use Rattle.swift_syntax.specs.declared.tree.Assigning.{Assigning}
use Rattle.swift_syntax.specs.declared.tree.Assigning.TheVariants as assigning
use Rattle.swift_syntax.specs.declared.tree.ExprForm.{ExprForm}
use Rattle.swift_syntax.specs.declared.tree.ExprForm.TheVariants as expr
use Rattle.swift_syntax.specs.declared.tree.Into.{Into}
use Rattle.swift_syntax.specs.declared.tree.Stmt.{Stmt}
use Rattle.swift_syntax.specs.declared.tree.StmtForm.{StmtForm}
use Rattle.swift_syntax.specs.declared.tree.StmtForm.TheVariants as form
use Rattle.swift_expressions.specs.Lowered.{Lowers, counted}
use Rattle.swift_expressions.specs.States.{Gives, IsDeclared, State, form_at, next_value, next_variable, put, value_in, with_done, with_fallback, with_operand, with_temporary, with_value}
use Rattle.swift_expressions.specs.declared.code.Instruction.TheVariants as instruction
use Rattle.swift_expressions.specs.declared.code.Kind.{Kind}
use Rattle.swift_expressions.specs.declared.code.Kind.TheVariants as kinds
use Rattle.swift_expressions.specs.declared.code.Operand.{Operand}
use Rattle.swift_expressions.specs.declared.code.Target.{Target}
use Rattle.swift_expressions.specs.declared.code.Target.TheVariants.{Nothing, Declare}
use Rattle.swift_expressions.specs.declared.code.TheConstants.{NONE}
use Rattle.swift_expressions.specs.declared.code.Value.{Value}
use Rattle.swift_expressions.specs.declared.code.Value.TheVariants as value
use Rattle.swift_expressions.specs.declared.code.Wait.{Wait}
use Rattle.swift_expressions.specs.declared.code.Wait.TheVariants as waiting
use Rattle.swift_expressions.specs.declared.lowering.Fallback.TheVariants as fallbacks
use Rattle.swift_expressions.specs.declared.typed.Typed.{Typed}
use Rattle.swift_lowering.specs.Assignments.{GoesTo, set_of}
use Rattle.swift_lowering.specs.Statements.{GivesTo}
use Rattle.swift_lowering.specs.Units.{BeginsUnit, in_unit, unit_ended, with_instruction}
use Rattle.swift_lowering.specs.declared.assignment.Destination.{Destination}

-- what a `try` covers, if an expression is one
abbrev pub tried_in : ExprForm → Option ℕ
tried_in (expr.Try inner) = Some inner
tried_in _ = None

-- what a statement of a `do` waits for, if a fault of that is caught: what the `try` of its value covers
abbrev pub caught_wait : State → StmtForm → Option ℕ
caught_wait s (form.Value into place) = tried_in (form_at s place)
caught_wait s (form.Assign assigning.Set is_own place) = tried_in (form_at s place)
caught_wait s _ = None

-- whether a statement that was looked for is the last one, and waits for what is caught
abbrev pub is_lone_wait : State → Option Stmt → Bool
is_lone_wait s None = false
is_lone_wait s (Some stmt) = stmt.next == 0 && is_some (caught_wait s stmt.form)

-- the first place, where one more comes
abbrev pub begin_or : ℕ → ℕ → ℕ
begin_or begin place = if begin == NONE then place else begin

-- Operands are handed on, from one on: each is a parameter, which is an operand behind those so far. At most so many follow.
pub data HandsOn : ℕ → State → ℕ → ℕ → ℕ → State → ℕ → Type 0 where
  spent : {s : State} {place begin last : ℕ} → HandsOn zero s place begin last s begin
  no_more : {n : ℕ} {s : State} {place begin last : ℕ} → slice_get s.operands place ≡ None → HandsOn n s place begin last s begin
  one_more : {m n : ℕ} {s u v t : State} {place begin last found : ℕ} {o : Operand} {given : Typed} → n ≡ suc m → slice_get s.operands place ≡ Some o → IsDeclared s 0 true u → Gives u (value.Variable (next_variable s)) o.kind v given → HandsOn m (with_operand given last v) o.next (begin_or begin (length v.operands)) (length v.operands) t found → HandsOn n s place begin last t found

-- A call is waited for in another unit, to which its operands are handed on. They begin at a place.
pub data Rewires (s : State) : Wait → State → Wait → ℕ → Type 0 where
  of_method : {t : State} {instance method first handed : ℕ} → HandsOn (length s.operands) s first NONE NONE t handed → Rewires s (waiting.Method instance method first) t (waiting.Method instance method handed) first
  of_own : {t : State} {method first handed : ℕ} → HandsOn (length s.operands) s first NONE NONE t handed → Rewires s (waiting.Own method first) t (waiting.Own method handed) first

-- a variable is returned, with one more where it is not below 0: so 0 is free to tell of a fault. That it has room for one has to hold
abbrev pub zero_freed : ℕ → ℕ → State → State
zero_freed variable line s =
    let read = with_value (value.Variable variable) s in
    let most = with_value (value.Number (pos (2 ^ 63 - 1))) read in
    let held = put (instruction.Require (next_value most) line) (with_value (value.Binary operators.Less (next_value s) (next_value read)) most) in
    let none = with_value (value.Number (pos 0)) held in
    let opened = put (instruction.If (next_value none)) (with_value (value.Binary operators.AtLeast (next_value s) (next_value held)) none) in
    put (instruction.Return (next_value s)) (put instruction.End (counted operators.Plus variable opened))

-- a unit waits, and leaves 0 free
abbrev pub waits_freely : Wait → ℕ → State → State
waits_freely what line s = zero_freed (next_variable s) line (put (instruction.Wait (Declare (next_variable s)) what NONE) (with_temporary s))

-- A wait is that of a unit of its own, which waits as it did and leaves 0 free. On which line it stands is not said.
pub record Wraps (s : State) (place : ℕ) (target : Target) (what : Wait) (token : ℕ) (t : State) : Type 0 where
  pub begun : State
  pub begins : BeginsUnit s token begun
  pub handed : State
  pub inner : Wait
  pub first : ℕ
  pub rewires : Rewires (in_unit (length s.units) begun) what handed inner first
  pub line : ℕ
  pub ended : State
  pub ends : ended ≡ unit_ended (length s.units) (length s.instructions) token (in_unit s.unit (waits_freely inner line handed))
  pub state : t ≡ with_instruction place (instruction.Wait target (waiting.Unit (length s.units) first) (next_value ended)) (with_value (value.Number (pos 0)) ended)

-- whether it is a number that comes
abbrev pub is_int : Kind → Bool
is_int kinds.Int = true
is_int kinds.Bool = false
is_int kinds.Void = false
is_int kinds.Urgency = false

-- the variable that a wait gives its result to: a new one, where it gives none
abbrev pub variable_for : Target → State → ℕ
variable_for (Declare v) s = v
variable_for Nothing s = next_variable s

-- with that variable
abbrev pub with_variable_for : Target → State → State
with_variable_for (Declare v) s = s
with_variable_for Nothing s = with_temporary s

-- the number that tells of a fault: 0, where a number is waited for, and else 2
abbrev pub fault_sign : Kind → ℤ
fault_sign kinds.Int = pos 0
fault_sign kinds.Bool = pos 2
fault_sign kinds.Void = pos 2
fault_sign kinds.Urgency = pos 2

-- A wait, the last instruction, tells by this number that it has ended with a fault.
pub data Tells (s : State) (target : Target) (what : Wait) (token : ℕ) : Kind → State → Type 0 where
  by_zero : {kind : Kind} {t : State} → is_int kind ≡ true → Wraps s (length s.instructions - 1) target what token t → Tells s target what token kind t
  by_two : {kind : Kind} {t : State} → is_int kind ≡ false → t ≡ with_instruction (length s.instructions - 1) (instruction.Wait target what (next_value s)) (with_value (value.Number (pos 2)) s) → Tells s target what token kind t

-- What is waited for gives a value of its own where it ends with a fault.
pub record Tries (s : State) (place : ℕ) (t : State) (came : Typed) : Type 0 where
  pub u : State
  pub lowers : Lowers (with_fallback (fallbacks.Fault (next_value s)) (with_value (value.Number (pos 0)) s)) place u came
  pub state : t ≡ with_fallback fallbacks.None u

-- what is done where a value is a number begins
abbrev pub open_where : ℕ → ℤ → State → State
open_where place sign s =
    let told = with_value (value.Number sign) s in
    put (instruction.If (next_value told)) (with_value (value.Binary operators.Equal place (next_value s)) told)

-- What is done where a fault is caught begins: what is waited for puts a wait last, and a number tells that this has ended with a fault.
pub record Catches (s : State) (place token : ℕ) (t : State) (found : Typed) : Type 0 where
  pub u : State
  pub came : Typed
  pub tries : Tries s place u came
  pub more : length s.instructions < length u.instructions
  pub target : Target
  pub what : Wait
  pub otherwise : ℕ
  pub last : slice_get u.instructions (length u.instructions - 1) ≡ Some (instruction.Wait target what otherwise)
  pub v : State
  pub tells : Tells (with_variable_for target u) (Declare (variable_for target u)) what token came.kind v
  pub w : State
  pub gives : Gives v (value.Variable (variable_for target u)) came.kind w found
  pub state : t ≡ open_where found.value (fault_sign came.kind) w

-- a number that came is as it was given: one less, where it is above 0
abbrev pub given_as_it_was : Kind → Value → ℕ → State → State
given_as_it_was kinds.Int (value.Variable v) place s =
    let none = with_value (value.Number (pos 0)) s in
    put instruction.End (counted operators.Minus v (put (instruction.If (next_value none)) (with_value (value.Binary operators.Greater place (next_value s)) none)))
given_as_it_was _ _ place s = s

-- where no fault is caught
abbrev pub came_to : Typed → State → State
came_to found s = given_as_it_was found.kind (value_in s found.value) found.value (put instruction.Else s)

-- What came goes to where a statement gives its value, which stands at a token.
pub data GivesCaught (s : State) (token : ℕ) (found : Typed) (t : State) : StmtForm → Type 0 where
  sets : {how : Assigning} {is_own : Bool} {place : ℕ} (to : Destination) → GoesTo (came_to found s) token is_own to → t ≡ put (set_of to found.value) (came_to found s) → GivesCaught s token found t (form.Assign how is_own place)
  gives : {into : Into} {place : ℕ} → GivesTo (came_to found s) found t into → GivesCaught s token found t (form.Value into place)

-- what follows is done unless the unit has returned, where it may have
abbrev pub open_rest : Bool → State → State
open_rest true s = put instruction.Rest (with_done s)
open_rest false s = s

-- a variable says that a fault was caught
abbrev pub with_flag : ℕ → State → State
with_flag flag s = put (instruction.Set flag (next_value s)) (with_value (value.Number (pos 1)) s)

-- a variable begins with 0
abbrev pub begin_at_zero : State → State
begin_at_zero s = put (instruction.Let (next_variable s) (next_value s)) (with_value (value.Number (pos 0)) (with_temporary s))

-- what is done where it says that one was begins
abbrev pub open_caught : ℕ → State → State
open_caught flag s = put (instruction.If (next_value s)) (with_value (value.Variable flag) s)

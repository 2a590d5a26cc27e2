-- What statements without a block become, over what their expressions do. (Our own.)
use Rattle.std.specs.Prelude.{ℕ, ◌≡◌, ◌==◌, ◌++◌, ◌∷◌, [], Bool, true, false, if◌then◌else◌, nat_lt, ℤ, pos, neg_ℤ, Option, Some, None, ◌⊎◌, codes}
use Rattle.std.specs.List.{slice_get}
use Rattle.swift_types.specs.declared.operator.Operator.{Operator}
use Rattle.swift_syntax.specs.declared.tree.Argument.{Argument}
use Rattle.swift_syntax.specs.declared.tree.Assigning.{Assigning}
use Rattle.swift_syntax.specs.declared.tree.CaseDecl.{CaseDecl}
use Rattle.swift_syntax.specs.declared.tree.Expr.{Expr}
use Rattle.swift_syntax.specs.declared.tree.ExprForm.TheVariants as expr
use Rattle.swift_syntax.specs.declared.tree.Into.{Into}
use Rattle.swift_syntax.specs.declared.tree.Into.TheVariants as goes
use Rattle.swift_syntax.specs.declared.tree.Receiver.{Receiver}
use Rattle.swift_syntax.specs.declared.tree.Receiver.TheVariants as receiver
use Rattle.swift_syntax.specs.declared.tree.StmtForm.{StmtForm}
use Rattle.swift_syntax.specs.declared.tree.StmtForm.TheVariants as form
use Rattle.swift_syntax.specs.declared.tree.ValueType.{ValueType}
use Rattle.swift_expressions.specs.Lowered.{Grows, Lowers}
use Rattle.swift_expressions.specs.Scopes.{IsFirst}
use Rattle.swift_expressions.specs.States.{Binds, IsDeclared, State, argument_at, bytes_at, covered, expr_at, form_at, named, next_value, next_variable, put, returned_inside, standing_of, value_in, with_fallback, with_value}
use Rattle.swift_expressions.specs.declared.code.Instruction.TheVariants as instruction
use Rattle.swift_expressions.specs.declared.code.Kind.{Kind}
use Rattle.swift_expressions.specs.declared.code.Kind.TheVariants as kinds
use Rattle.swift_expressions.specs.declared.code.TheConstants.{NONE}
use Rattle.swift_expressions.specs.declared.code.Value.TheVariants as value
use Rattle.swift_expressions.specs.declared.lowering.Fallback.TheVariants as fallbacks
use Rattle.swift_expressions.specs.declared.lowering.Returns.{Returns}
use Rattle.swift_expressions.specs.declared.lowering.Returns.TheVariants as returning
use Rattle.swift_expressions.specs.declared.typed.Typed.{Typed}
use Rattle.swift_lowering.specs.Assignments.{GoesTo, operator_of, read_of, set_of}
use Rattle.swift_lowering.specs.declared.assignment.Destination.{Destination}

-- what stands somewhere is read, combined with a value that is computed already, and set
abbrev pub changed : Operator → Destination → ℕ → State → State
changed o to right s =
    let read = with_value (read_of to) s in
    put (set_of to (next_value read)) (with_value (value.Binary o (next_value s) right) read)

-- what stands somewhere is read, turned round, and set
abbrev pub toggled : Destination → State → State
toggled to s =
    let read = with_value (read_of to) s in
    put (set_of to (next_value read)) (with_value (value.Not (next_value s)) read)

-- `x = e`, and `x += e`, which reads x after e.
pub data Assigns (s : State) (name : ℕ) (is_own : Bool) (place : ℕ) (u : State) : Option Operator → Type 0 where
  sets : {t : State} {found : Typed} (to : Destination) → Lowers s place t found → GoesTo t name is_own to → u ≡ put (set_of to found.value) t → Assigns s name is_own place u None
  changes : {t : State} {found : Typed} {o : Operator} (to : Destination) → Lowers s place t found → GoesTo t name is_own to → u ≡ changed o to found.value t → Assigns s name is_own place u (Some o)

-- A value is a variable, which gets a name.
pub record IsNamed (s : State) (place name variable : ℕ) (t : State) : Type 0 where
  pub is : value_in s place ≡ value.Variable variable
  pub duplicate : ℕ
  pub state : t ≡ named variable name duplicate s

-- A name for a value: the variable that holds it already, if that has no name; else one that begins here.
pub data Defines (s : State) (name : ℕ) (found : Typed) (is_var : Bool) (t : State) : Type 0 where
  as_it_is : {u : State} (variable : ℕ) → IsNamed s found.value name variable u → Binds u name (standing_of is_var) variable found.kind variable t → Defines s name found is_var t
  anew : {u v : State} → IsDeclared s name false u → v ≡ put (instruction.Let (next_variable s) found.value) u → Binds v name (standing_of is_var) (next_variable s) found.kind (next_variable s) t → Defines s name found is_var t

-- where a value is that is returned; nothing has no place
abbrev pub given_back : Kind → ℕ → ℕ
given_back kinds.Void place = NONE
given_back kinds.Int place = place
given_back kinds.Bool place = place
given_back kinds.Urgency place = place

-- a method returns; from within a group's block, as it notes
abbrev pub returned : ℕ → State → State
returned place s = put (instruction.Return place) (if nat_lt 0 s.groups then returned_inside s else s)

-- a value goes to a closure's variable, where it has one
abbrev pub result_set : ℕ → Kind → ℕ → State → State
result_set variable kinds.Void place s = s
result_set variable kinds.Int place s = if variable == NONE then s else put (instruction.Set variable place) s
result_set variable kinds.Bool place s = if variable == NONE then s else put (instruction.Set variable place) s
result_set variable kinds.Urgency place s = if variable == NONE then s else put (instruction.Set variable place) s

-- what a closure gives that stands in its method goes to its variable
abbrev pub result_given : Returns → Typed → State → State
result_given returning.Unit found s = s
result_given (returning.Closure variable blocks) found s = result_set variable found.kind found.value s

-- `return e`, once e is computed
abbrev pub given_by : Returns → Typed → State → State
given_by returning.Unit found s = returned (given_back found.kind found.value) s
given_by (returning.Closure variable blocks) found s = result_given (returning.Closure variable blocks) found s

-- `return` without a value
abbrev pub ended_by : Returns → State → State
ended_by returning.Unit s = returned NONE s
ended_by (returning.Closure variable blocks) s = s

-- What becomes of a value that is computed.
pub data GivesTo (s : State) (found : Typed) (t : State) : Into → Type 0 where
  nothing : t ≡ s → GivesTo s found t goes.Nothing
  constant : {name : ℕ} {wanted : Option ValueType} → Defines s name found false t → GivesTo s found t (goes.Let name wanted)
  variable : {name : ℕ} {wanted : Option ValueType} → Defines s name found true t → GivesTo s found t (goes.Var name wanted)
  assigned : {name : ℕ} (to : Destination) → GoesTo s name false to → t ≡ put (set_of to found.value) s → GivesTo s found t (goes.Assign name)
  goes_back : t ≡ given_by s.returns found s → GivesTo s found t goes.Return

-- A case of an enum of errors stands at a place of the tree, each with the bytes of a token.
pub record IsCaseAt (s : State) (of token place : ℕ) : Type 0 where
  pub declared : CaseDecl
  pub there : slice_get s.tree.cases.items place ≡ Some declared
  pub within : bytes_at s declared.of ≡ bytes_at s of
  pub spelled : bytes_at s declared.name ≡ bytes_at s token

-- The number of a case of an enum of errors: its place in the enum. Of several with one name it is the first.
pub record IsCaseNumber (s : State) (of token : ℕ) (number : ℤ) : Type 0 where
  pub place : ℕ
  pub first : IsFirst (IsCaseAt s of token) place
  pub declared : CaseDecl
  pub there : slice_get s.tree.cases.items place ≡ Some declared
  pub is : number ≡ pos declared.place

-- The number that an expression throws: that of a case, or -1 of a `CancellationError()`.
pub data IsThrown (s : State) (e : Expr) (number : ℤ) : Type 0 where
  a_case : {of : ℕ} → e.form ≡ expr.Member of → IsCaseNumber s of e.token number → IsThrown s e number
  a_cancellation : {from : Receiver} → e.form ≡ expr.Call from 0 → bytes_at s e.token ≡ codes "CancellationError" → number ≡ neg_ℤ (pos 1) → IsThrown s e number

-- `throw e`: the number of what is thrown
abbrev pub thrown : ℤ → State → State
thrown number s = put (instruction.Throw (next_value s)) (with_value (value.Number number) s)

-- A statement says something, where `print`, `precondition` or `assert` is called.
pub record IsSaid (s : State) (place : ℕ) : Type 0 where
  pub first : ℕ
  pub calls : form_at s place ≡ expr.Call receiver.Nobody first
  pub named : (bytes_at s (expr_at s place).token ≡ codes "print") ⊎ (bytes_at s (expr_at s place).token ≡ codes "precondition") ⊎ (bytes_at s (expr_at s place).token ≡ codes "assert")

-- what was put, where the same holds as somewhere else
abbrev pub as_set : State → State → State
as_set s t = record t { unit = s.unit; actor = s.actor; boundary = s.boundary; is_closure = s.is_closure; is_expectation = s.is_expectation; is_awaited = s.is_awaited; fallback = s.fallback; returns = s.returns; groups = s.groups }

-- `precondition` and `assert`: what has to hold is computed, where no `await` covers it, and then it has to hold. On which line is not said.
pub record Requires (s : State) (first : ℕ) (t : State) : Type 0 where
  pub argument : Argument
  pub there : argument_at s first ≡ Some argument
  pub u : State
  pub found : Typed
  pub lowers : Lowers (covered false s) argument.value u found
  pub line : ℕ
  pub state : t ≡ put (instruction.Require found.value line) (as_set s u)

-- An expression whose value is let go. A `try?` has 0 for the value of what ends with a fault. What `print` puts stands behind what was
-- there; more is not said of it here.
pub data LetsGo (s : State) (place : ℕ) (t : State) : Type 0 where
  printed : IsSaid s place → Grows s t → LetsGo s place t
  required : {from : Receiver} {first : ℕ} → IsSaid s place → form_at s place ≡ expr.Call from first → Requires s first t → LetsGo s place t
  caught : {u : State} {inner : ℕ} {found : Typed} → form_at s place ≡ expr.TryOptional inner → Lowers (with_fallback (fallbacks.Fault (next_value s)) (with_value (value.Number (pos 0)) s)) inner u found → t ≡ with_fallback fallbacks.None u → LetsGo s place t
  computed : {found : Typed} → Lowers s place t found → LetsGo s place t

-- whether a value is let go
abbrev pub is_let_go : Into → Bool
is_let_go goes.Nothing = true
is_let_go (goes.Let name wanted) = false
is_let_go (goes.Var name wanted) = false
is_let_go (goes.Assign name) = false
is_let_go goes.Return = false

-- What a statement without a block becomes, which stands at a token.
pub data DoesPlain (s : State) (token : ℕ) (t : State) : StmtForm → Type 0 where
  lets_go : {into : Into} {place : ℕ} → is_let_go into ≡ true → LetsGo s place t → DoesPlain s token t (form.Value into place)
  gives : {u : State} {into : Into} {place : ℕ} {found : Typed} → is_let_go into ≡ false → Lowers s place u found → GivesTo u found t into → DoesPlain s token t (form.Value into place)
  assigns : {how : Assigning} {is_own : Bool} {place : ℕ} → Assigns s token is_own place t (operator_of how) → DoesPlain s token t (form.Assign how is_own place)
  toggles : {is_own : Bool} (to : Destination) → GoesTo s token is_own to → t ≡ toggled to s → DoesPlain s token t (form.Toggle is_own)
  returns : t ≡ ended_by s.returns s → DoesPlain s token t form.Return
  throws : {place : ℕ} (number : ℤ) → IsThrown s (expr_at s place) number → t ≡ thrown number s → DoesPlain s token t (form.Throw place)

-- An assignment with an operator: its right side is computed first, and then one instruction sets what stands somewhere to that, read there
-- and then, combined with the right side's value.
pub record ReadsLate (s : State) (place : ℕ) (o : Operator) (u : State) : Type 0 where
  pub t : State
  pub found : Typed
  pub right : Lowers s place t found
  pub to : Destination
  pub last : ℕ
  pub left : ℕ
  pub puts : u.instructions ≡ t.instructions ++ set_of to last ∷ []
  pub combines : value_in u last ≡ value.Binary o left found.value
  pub reads : value_in u left ≡ read_of to

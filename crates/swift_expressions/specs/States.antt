-- What a lowering has put so far, and what decides what it puts next; and the steps that put something. (Our own.)
use Rattle.std.specs.Prelude.{ℕ, ◌≡◌, ◌==◌, if◌then◌else◌, Bool, true, false, List, [], ◌∷◌, ◌++◌, length, pos, Option, Some, None, IsNone, slice_index_or, slice_range, slice_set, nat_le, ◌&&◌, take}
use Rattle.std.specs.List.{slice_get}
use Rattle.swift_syntax.specs.declared.token.Token.{Token}
use Rattle.swift_syntax.specs.declared.tree.Argument.{Argument}
use Rattle.swift_syntax.specs.declared.tree.Expr.{Expr}
use Rattle.swift_syntax.specs.declared.tree.ExprForm.{ExprForm}
use Rattle.swift_syntax.specs.declared.tree.ExprForm.TheVariants as form
use Rattle.swift_syntax.specs.declared.tree.Stmt.{Stmt}
use Rattle.swift_syntax.specs.declared.tree.Tree.{Tree}
use Rattle.swift_expressions.specs.declared.code.Instruction.{Instruction}
use Rattle.swift_expressions.specs.declared.code.Instruction.TheVariants as instruction
use Rattle.swift_expressions.specs.declared.code.Kind.{Kind}
use Rattle.swift_expressions.specs.declared.code.Kind.TheVariants as kinds
use Rattle.swift_expressions.specs.declared.code.Operand.{Operand}
use Rattle.swift_expressions.specs.declared.code.Target.{Target}
use Rattle.swift_expressions.specs.declared.code.Target.TheVariants.{Nothing, Declare}
use Rattle.swift_expressions.specs.declared.code.TheConstants.{NONE}
use Rattle.swift_expressions.specs.declared.code.Unit as units
use Rattle.swift_expressions.specs.declared.code.UnitKind.{UnitKind}
use Rattle.swift_expressions.specs.declared.code.Value.{Value}
use Rattle.swift_expressions.specs.declared.code.Value.TheVariants as value
use Rattle.swift_expressions.specs.declared.code.Variable.{Variable}
use Rattle.swift_expressions.specs.declared.code.Wait.{Wait}
use Rattle.swift_expressions.specs.declared.lines.Spot.{Spot}
use Rattle.swift_expressions.specs.declared.lowering.Fallback.{Fallback}
use Rattle.swift_expressions.specs.declared.lowering.Fallback.TheVariants as fallbacks
use Rattle.swift_expressions.specs.declared.lowering.Lowering.{Lowering}
use Rattle.swift_expressions.specs.declared.lowering.Returns.{Returns}
use Rattle.swift_expressions.specs.declared.lowering.Returns.TheVariants as returning
use Rattle.swift_expressions.specs.declared.lowering.Setting.{Setting}
use Rattle.swift_expressions.specs.declared.scope.Binding.{Binding}
use Rattle.swift_expressions.specs.declared.scope.Standing.{Standing}
use Rattle.swift_expressions.specs.declared.scope.Standing.TheVariants as standings
use Rattle.swift_expressions.specs.declared.typed.Typed.{Typed}

-- What was put so far, and what decides what is put next: the file, the names in scope, and where the place stands that is lowered.
pub record State : Type 0 where
  pub text : List ℕ
  pub tokens : List Token
  pub tree : Tree
  pub instructions : List Instruction
  pub values : List Value
  pub operands : List Operand
  pub variables : List Variable
  pub units : List units.Unit
  pub scope : List Binding
  pub unit : ℕ
  pub actor : ℕ
  pub boundary : ℕ
  pub is_closure : Bool
  pub is_expectation : Bool
  pub is_awaited : Bool
  pub fallback : Fallback
  pub returns : Returns
  pub groups : ℕ

-- the state of a lowering
abbrev pub state_of : Lowering → State
state_of l = record {
  text = l.text.now;
  tokens = l.tokens.now;
  tree = l.tree.now.value;
  instructions = l.code.instructions.items;
  values = l.code.values.items;
  operands = l.code.operands.items;
  variables = l.code.variables.items;
  units = l.code.units.items;
  scope = l.scope.items;
  unit = l.setting.unit;
  actor = l.setting.actor;
  boundary = l.setting.boundary;
  is_closure = l.setting.is_closure;
  is_expectation = l.setting.is_expectation;
  is_awaited = l.setting.is_awaited;
  fallback = l.setting.fallback;
  returns = l.setting.returns;
  groups = l.setting.groups;
}

-- nothing of a file was put, and nothing is in scope
abbrev pub not_begun : List ℕ → List Token → Tree → State
not_begun text tokens tree = record {
  text = text;
  tokens = tokens;
  tree = tree;
  instructions = [];
  values = [];
  operands = [];
  variables = [];
  units = [];
  scope = [];
  unit = NONE;
  actor = NONE;
  boundary = 0;
  is_closure = false;
  is_expectation = false;
  is_awaited = false;
  fallback = fallbacks.None;
  returns = returning.Unit;
  groups = 0;
}

-- how a unit begins that may not wait and not throw
abbrev pub setting_for : ℕ → ℕ → Setting
setting_for unit actor = record {
  unit = unit;
  actor = actor;
  boundary = 0;
  is_async = false;
  is_throwing = false;
  catching = NONE;
  is_closure = false;
  is_expectation = false;
  is_awaited = false;
  is_tried = false;
  fallback = fallbacks.None;
  result = None;
  returns = returning.Unit;
  has_thrown = false;
  block_start = 0;
  blocks = 0;
  loops = 0;
  groups = 0;
}

-- an expression that was looked for
abbrev pub or_missing : Option Expr → Expr
or_missing (Some e) = e
or_missing None = record { form = form.Missing; token = 0 }

-- the expression at a place of the tree; none where there is no such place
abbrev pub expr_at : State → ℕ → Expr
expr_at s place = or_missing (slice_get s.tree.exprs.items place)

-- what the expression at a place is
abbrev pub form_at : State → ℕ → ExprForm
form_at s place = (expr_at s place).form

-- the argument at a place of the tree; there is none at 0
abbrev pub argument_at : State → ℕ → Option Argument
argument_at s place = if place == 0 then None else slice_get s.tree.arguments.items place

-- the statement at a place of the tree; there is none at 0
abbrev pub stmt_at : State → ℕ → Option Stmt
stmt_at s place = if place == 0 then None else slice_get s.tree.stmts.items place

-- the bytes of a token that was looked for
abbrev pub bytes_in : List ℕ → Option Token → List ℕ
bytes_in text None = []
bytes_in text (Some t) = if nat_le t.from t.to && nat_le t.to (length text) then slice_range text t.from t.to else []

-- the bytes of the token at a place; none where there is no such token
abbrev pub bytes_at : State → ℕ → List ℕ
bytes_at s place = bytes_in s.text (slice_get s.tokens place)

-- the value at a place; 0 where there is no such place
abbrev pub value_in : State → ℕ → Value
value_in s place = slice_index_or s.values place (value.Number (pos 0))

-- one more instruction, behind the others
abbrev pub put : Instruction → State → State
put i s = record s { instructions = s.instructions ++ i ∷ [] }

-- the place that the next value gets
abbrev pub next_value : State → ℕ
next_value s = length s.values

-- one more value, behind the others
abbrev pub with_value : Value → State → State
with_value v s = record s { values = s.values ++ v ∷ [] }

-- the place that the next variable gets
abbrev pub next_variable : State → ℕ
next_variable s = length s.variables

-- one more variable, behind the others
abbrev pub with_variable : Variable → State → State
with_variable v s = record s { variables = s.variables ++ v ∷ [] }

-- one more variable of the unit, without a name
abbrev pub with_temporary : State → State
with_temporary s = with_variable (record { unit = s.unit; token = 0; duplicate = 0; is_param = false }) s

-- one more name in scope, inside of the others
abbrev pub in_scope : Binding → State → State
in_scope b s = record s { scope = s.scope ++ b ∷ [] }

-- the names in scope end from a place on
abbrev pub left_to : ℕ → State → State
left_to from s = record s { scope = take from s.scope }

-- A variable of the unit is put behind the others. How many of its name stand before it is not said.
pub record IsDeclared (s : State) (token : ℕ) (is_param : Bool) (t : State) : Type 0 where
  pub duplicate : ℕ
  pub state : t ≡ with_variable (record { unit = s.unit; token = token; duplicate = duplicate; is_param = is_param }) s

-- A name that nobody has awaited comes into scope, inside of the others.
pub record Binds (s : State) (token : ℕ) (standing : Standing) (variable : ℕ) (kind : Kind) (count : ℕ) (t : State) : Type 0 where
  pub binding : Binding
  pub state : t ≡ in_scope binding s
  pub named : binding.token ≡ token
  pub stands : binding.standing ≡ standing
  pub place : binding.variable ≡ variable
  pub type_of : binding.kind ≡ kind
  pub counts : binding.count ≡ count
  pub unused : binding.is_used ≡ false

-- a variable that was looked for has a name
abbrev pub renamed : List Variable → ℕ → ℕ → ℕ → Option Variable → List Variable
renamed variables place token duplicate None = variables
renamed variables place token duplicate (Some v) = slice_set variables place (record v { token = token; duplicate = duplicate })

-- the variable at a place has the name of a token, behind so many others of that name
abbrev pub named : ℕ → ℕ → ℕ → State → State
named place token duplicate s = record s { variables = renamed s.variables place token duplicate (slice_get s.variables place) }

-- a unit that a closure or a method becomes, behind the others
abbrev pub with_unit : units.Unit → State → State
with_unit u s = record s { units = s.units ++ u ∷ [] }

-- A unit begins at a token, without instructions so far. On which line that stands is not said.
pub record IsBegun (s : State) (kind : UnitKind) (actor method token : ℕ) (t : State) : Type 0 where
  pub spot : Spot
  pub state : t ≡ with_unit (record { kind = kind; actor = actor; from = 0; to = 0; needs_done = false; returns_inside = false; token = token; end = token; method = method; spot = spot }) s

-- a unit that was looked for notes that it returns from within a group's block
abbrev pub noted_inside : List units.Unit → ℕ → Option units.Unit → List units.Unit
noted_inside all place None = all
noted_inside all place (Some u) = slice_set all place (record u { returns_inside = true })

-- the unit returns from within a group's block
abbrev pub returned_inside : State → State
returned_inside s = record s { units = noted_inside s.units s.unit (slice_get s.units s.unit) }

-- a unit that was looked for notes that something may follow a `return`
abbrev pub noted_done : List units.Unit → ℕ → Option units.Unit → List units.Unit
noted_done all place None = all
noted_done all place (Some u) = slice_set all place (record u { needs_done = true })

-- something of the unit may follow a `return`
abbrev pub with_done : State → State
with_done s = record s { units = noted_done s.units s.unit (slice_get s.units s.unit) }

-- a group that was looked for notes that a child may have been left out
abbrev pub noted_partial : List Binding → ℕ → Option Binding → List Binding
noted_partial scope place None = scope
noted_partial scope place (Some b) = slice_set scope place (record b { is_partial = true })

-- a child may have been left out of the group in scope at a place
abbrev pub with_partial : ℕ → State → State
with_partial place s = record s { scope = noted_partial s.scope place (slice_get s.scope place) }

-- what a value is called
abbrev pub standing_of : Bool → Standing
standing_of true = standings.Variable
standing_of false = standings.Constant

-- `await` covers what comes now, or does not
abbrev pub covered : Bool → State → State
covered is s = record s { is_awaited = is }

-- what stands for the value of the next wait
abbrev pub with_fallback : Fallback → State → State
with_fallback f s = record s { fallback = f }

-- a value that a call hands over, behind the one at a place, if there is one
abbrev pub linked : List Operand → ℕ → ℕ → Option Operand → List Operand
linked operands last place None = operands
linked operands last place (Some before) = slice_set operands last (record before { next = place })

-- one more operand, behind the one at a place
abbrev pub with_operand : Typed → ℕ → State → State
with_operand given last s = record s { operands = linked s.operands last (length s.operands) (slice_get s.operands last) ++ record { value = given.value; kind = given.kind; next = NONE } ∷ [] }

-- where a result goes: to a variable that begins there, unless it is nothing
abbrev pub target_of : Kind → State → Target
target_of kinds.Void s = Nothing
target_of kinds.Int s = Declare (next_variable s)
target_of kinds.Bool s = Declare (next_variable s)
target_of kinds.Urgency s = Declare (next_variable s)

-- with the variable that a result goes to
abbrev pub with_target : Kind → State → State
with_target kinds.Void s = s
with_target kinds.Int s = with_temporary s
with_target kinds.Bool s = with_temporary s
with_target kinds.Urgency s = with_temporary s

-- how a result is read that went to a variable
abbrev pub result_of : Kind → State → Value
result_of kinds.Void s = value.Number (pos 0)
result_of kinds.Int s = value.Variable (next_variable s)
result_of kinds.Bool s = value.Variable (next_variable s)
result_of kinds.Urgency s = value.Variable (next_variable s)

-- the value that stands for the result of a wait that ends with a fault, or no place
abbrev pub fault_of : Fallback → ℕ
fault_of fallbacks.None = NONE
fault_of (fallbacks.Fault v) = v
fault_of (fallbacks.Nil v) = NONE

-- whether it is one for a fault
abbrev pub is_fault : Fallback → Bool
is_fault fallbacks.None = false
is_fault (fallbacks.Fault v) = true
is_fault (fallbacks.Nil v) = false

-- a wait by itself, which takes what stands for its value
abbrev pub waited : Wait → Kind → State → State
waited what kind s = put (instruction.Wait (target_of kind s) what (fault_of s.fallback)) (with_target kind (with_fallback fallbacks.None s))

-- A lowering comes to a state, unless a refusal is noted.
abbrev pub Becomes : Lowering → State → Type 0
Becomes after s = IsNone after.refused → state_of after ≡ s

-- Nothing more is put but this value, which is what is found.
pub record Gives (s : State) (v : Value) (kind : Kind) (t : State) (found : Typed) : Type 0 where
  pub state : t ≡ with_value v s
  pub place : found.value ≡ next_value s
  pub type_of : found.kind ≡ kind

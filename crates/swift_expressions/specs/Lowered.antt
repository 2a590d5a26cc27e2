-- What an expression becomes: a value, and the instructions before it. What Swift computes first comes first. (Our own.)
use Rattle.std.specs.Prelude.{ℕ, zero, ◌≡◌, ◌==◌, ◌++◌, Bool, true, false, not, ◌&&◌, ◌||◌, if◌then◌else◌, suc, ℤ, pos, neg_ℤ, int_lt, List, length, Option, Some, None, codes, slice_set}
use Rattle.std.specs.List.{slice_get}
use Rattle.swift_types.specs.declared.operator.Operator.{Operator}
use Rattle.swift_types.specs.declared.operator.Operator.TheVariants as operators
use Rattle.swift_types.specs.declared.priority.Priority.{Priority}
use Rattle.swift_types.specs.Priority.{rank}
use Rattle.swift_syntax.specs.Expressions.{after}
use Rattle.swift_syntax.specs.declared.tree.Argument.{Argument}
use Rattle.swift_syntax.specs.declared.tree.ConstantDecl.{ConstantDecl}
use Rattle.swift_syntax.specs.declared.tree.ExprForm.{ExprForm}
use Rattle.swift_syntax.specs.declared.tree.ExprForm.TheVariants as form
use Rattle.swift_syntax.specs.declared.tree.FieldDecl.{FieldDecl}
use Rattle.swift_syntax.specs.declared.tree.FieldStart.{FieldStart}
use Rattle.swift_syntax.specs.declared.tree.FieldStart.TheVariants as starts
use Rattle.swift_syntax.specs.declared.tree.LocalDecl.{LocalDecl}
use Rattle.swift_syntax.specs.declared.tree.MethodDecl.{MethodDecl}
use Rattle.swift_syntax.specs.declared.tree.Receiver.{Receiver}
use Rattle.swift_syntax.specs.declared.tree.ValueType.{ValueType}
use Rattle.swift_syntax.specs.declared.tree.ValueType.TheVariants as types
use Rattle.swift_expressions.specs.declared.call.Called.{Called}
use Rattle.swift_expressions.specs.declared.call.Called.TheVariants as callees
use Rattle.swift_expressions.specs.declared.code.Instruction.{Instruction}
use Rattle.swift_expressions.specs.declared.code.Instruction.TheVariants as instruction
use Rattle.swift_expressions.specs.declared.code.Kind.{Kind}
use Rattle.swift_expressions.specs.declared.code.Kind.TheVariants as kinds
use Rattle.swift_expressions.specs.declared.code.Target.TheVariants.{Nothing}
use Rattle.swift_expressions.specs.declared.code.TheConstants.{NONE}
use Rattle.swift_expressions.specs.declared.code.Value.{Value}
use Rattle.swift_expressions.specs.declared.code.Value.TheVariants as value
use Rattle.swift_expressions.specs.declared.code.Wait.{Wait}
use Rattle.swift_expressions.specs.declared.code.Wait.TheVariants as waiting
use Rattle.swift_expressions.specs.declared.effect.TheConstants.{DEPTH}
use Rattle.swift_expressions.specs.declared.lowering.Fallback.{Fallback}
use Rattle.swift_expressions.specs.declared.lowering.Fallback.TheVariants as fallbacks
use Rattle.swift_expressions.specs.declared.operands.Operands.{Operands}
use Rattle.swift_expressions.specs.declared.scope.Binding.{Binding}
use Rattle.swift_expressions.specs.declared.scope.Standing.{Standing}
use Rattle.swift_expressions.specs.declared.scope.Standing.TheVariants as standings
use Rattle.swift_expressions.specs.declared.typed.Typed.{Typed}
use Rattle.swift_expressions.specs.Scopes.{IsCalled, IsConstantAt, IsFieldAt, IsFieldOf, IsFirst, IsFree, IsGlobal, IsInnermost, IsInstanceAt, IsLocalAt, IsPriority}
use Rattle.swift_expressions.specs.States.{Gives, State, argument_at, bytes_at, covered, expr_at, fault_of, form_at, is_fault, next_value, next_variable, put, result_of, target_of, value_in, waited, with_fallback, with_operand, with_target, with_temporary, with_value}

-- whether an expression does something, by what it is; of its parts by themselves
abbrev pub acts_by : (ℕ → Bool) → ExprForm → Bool
acts_by deeper (form.Call r a) = true
acts_by deeper (form.Await e) = true
acts_by deeper (form.TryOptional e) = true
acts_by deeper (form.Choice t h f) = true
acts_by deeper (form.Member of) = true
acts_by deeper (form.Negate e) = deeper e
acts_by deeper (form.Not e) = deeper e
acts_by deeper (form.Try e) = deeper e
acts_by deeper (form.Binary o l r) = deeper l || deeper r
acts_by deeper (form.Both l r) = deeper l || deeper r
acts_by deeper (form.Otherwise l r) = deeper l || deeper r
acts_by deeper form.Missing = false
acts_by deeper (form.Number n) = false
acts_by deeper (form.Truth b) = false
acts_by deeper form.Text = false
acts_by deeper form.Name = false
acts_by deeper form.OwnMember = false
acts_by deeper form.Case = false

-- whether an expression does something: calls, waits or chooses, itself or in a part; one that nests deeper than this is taken to
unfoldable pub is_acting_within : State → ℕ → ℕ → Bool
is_acting_within s zero place = true
is_acting_within s (suc depth) place = acts_by (is_acting_within s depth) (form_at s place)

-- whether an expression itself becomes more than a value
abbrev pub is_acting : State → ℕ → Bool
is_acting s place = is_acting_within s DEPTH place

-- whether an expression becomes more than a value; a name under an `await` may. In an expectation all are values
abbrev pub acts : State → ℕ → Bool
acts s place = not s.is_expectation && (is_acting s place || s.is_awaited)

-- whether the right operand of an operator is not always computed, and does something
abbrev pub is_cut_short : State → Operator → ℕ → Bool
is_cut_short s operators.And right = acts s right
is_cut_short s operators.Or right = acts s right
is_cut_short s operators.Plus right = false
is_cut_short s operators.Minus right = false
is_cut_short s operators.Times right = false
is_cut_short s operators.Equal right = false
is_cut_short s operators.Unequal right = false
is_cut_short s operators.Less right = false
is_cut_short s operators.AtMost right = false
is_cut_short s operators.Greater right = false
is_cut_short s operators.AtLeast right = false

-- the type of what an operator gives, of operands of a type
abbrev pub kind_by : Operator → Kind → Kind
kind_by operators.Plus k = k
kind_by operators.Minus k = k
kind_by operators.Times k = k
kind_by operators.And k = k
kind_by operators.Or k = k
kind_by operators.Equal k = kinds.Bool
kind_by operators.Unequal k = kinds.Bool
kind_by operators.Less k = kinds.Bool
kind_by operators.AtMost k = kinds.Bool
kind_by operators.Greater k = kinds.Bool
kind_by operators.AtLeast k = kinds.Bool

-- whether nothing can change a value any more: a number, or a variable of the method
abbrev pub is_settled : Value → Bool
is_settled (value.Number n) = true
is_settled (value.Variable v) = true
is_settled (value.Field f) = false
is_settled (value.Member i f) = false
is_settled (value.Local l) = false
is_settled value.Priority = false
is_settled value.Cancelled = false
is_settled (value.Negate v) = false
is_settled (value.Not v) = false
is_settled (value.Binary o l r) = false

-- A value that nothing can change stays as it is; any other is read here, into a variable.
pub data Keeps (s : State) (given : Typed) (t : State) (found : Typed) : Type 0 where
  settled : is_settled (value_in s given.value) ≡ true → t ≡ s → found ≡ given → Keeps s given t found
  read : is_settled (value_in s given.value) ≡ false → Gives (put (instruction.Let (next_variable s) given.value) (with_temporary s)) (value.Variable (next_variable s)) given.kind t found → Keeps s given t found

-- It is kept where something may change it before it is used.
pub data KeepsIf : Bool → State → Typed → State → Typed → Type 0 where
  kept : {s t : State} {given found : Typed} → Keeps s given t found → KeepsIf true s given t found
  as_it_is : {s : State} {given : Typed} → KeepsIf false s given s given

-- A wait stands by itself, and what it gives is read from a variable.
abbrev pub Waits : State → Wait → Kind → State → Typed → Type 0
Waits s what kind t found = Gives (waited what kind s) (result_of kind s) kind t found

-- the test of `a && b` and `a || b`, by what is known so far: whether b is still computed
abbrev pub with_open_test : Operator → ℕ → State → State
with_open_test operators.Or so_far s = put (instruction.If (next_value s)) (with_value (value.Not so_far) s)
with_open_test _ so_far s = put (instruction.If so_far) s

-- `a && b`, once a is computed: `let m = a; if m {`, and `if !m {` of `||`
abbrev pub open_shortcut : Operator → Typed → State → State
open_shortcut o first s = with_open_test o (next_value s) (with_value (value.Variable (next_variable s)) (put (instruction.Let (next_variable s) first.value) (with_temporary s)))

-- once b is computed: `m = b; }`
abbrev pub close_shortcut : ℕ → Typed → State → State
close_shortcut variable second s = put instruction.End (put (instruction.Set variable second.value) s)

-- what is known then
abbrev pub shortcut_value : State → Typed
shortcut_value s = record { value = next_value s; kind = kinds.Bool }

-- `test ? a : b`, once the test is computed: `let m = 0; if test {`
abbrev pub open_choice : Typed → State → State
open_choice test s = put (instruction.If test.value) (put (instruction.Let (next_variable s) (next_value s)) (with_value (value.Number (pos 0)) (with_temporary s)))

-- once a is computed: `m = a; } else {`
abbrev pub turn_choice : ℕ → Typed → State → State
turn_choice variable first s = put instruction.Else (put (instruction.Set variable first.value) s)

-- what is awaited in a `try?`
abbrev pub caught_by : ℕ → ExprForm → ℕ
caught_by place (form.TryOptional inner) = inner
caught_by place _ = place

-- what stands for the value on the left of `??`: where a `try?` ends with a fault, and else where a group has no child left
abbrev pub fallback_by : ℕ → ExprForm → Fallback
fallback_by v (form.TryOptional inner) = fallbacks.Fault v
fallback_by v _ = fallbacks.Nil v

-- no operands
abbrev pub no_operands : Operands
no_operands = record { first = NONE; last = NONE; count = 0 }

-- the place of the first operand, where one more comes
abbrev pub first_of : ℕ → ℕ → ℕ → ℕ
first_of count first place = if count == 0 then place else first

-- operands, and one more at this place
abbrev pub and_one : Operands → ℕ → Operands
and_one so_far place = record { first = first_of so_far.count so_far.first place; last = place; count = after so_far.count }

-- the type of a declaration
abbrev pub kind_in : ValueType → Kind
kind_in types.Int = kinds.Int
kind_in types.Bool = kinds.Bool
kind_in types.Void = kinds.Void

-- Instructions that count the children of a group, in a variable
abbrev pub counted : Operator → ℕ → State → State
counted o count s =
    let read = with_value (value.Variable count) s in
    let one = with_value (value.Number (pos 1)) read in
    put (instruction.Set count (next_value one)) (with_value (value.Binary o (next_value s) (next_value read)) one)

-- the value that says whether a group's count has a child left, behind those that were there
abbrev pub with_child_test : ℕ → State → State
with_child_test count s =
    let read = with_value (value.Variable count) s in
    let none = with_value (value.Number (pos 0)) read in
    with_value (value.Binary operators.Greater (next_value s) (next_value read)) none

-- the place of that value
abbrev pub child_test : ℕ → State → ℕ
child_test count s = next_value (with_value (value.Number (pos 0)) (with_value (value.Variable count) s))

-- whether a call of a method of the own actor, or of a function, is a wait: where a `try?` covers it, and of an `async` function, which runs
-- outside of its caller's actor. Any other is put in where it is called
abbrev pub is_left : State → MethodDecl → Bool
is_left s declared = is_fault s.fallback || (declared.is_async && declared.actor == NONE)

-- A call of a method of the own actor, or of a function, with its operands.
pub data CallsOwn (s : State) (place : ℕ) (declared : MethodDecl) (given : Operands) (token : ℕ) (t : State) (found : Typed) : Type 0 where
  waits : is_left s declared ≡ true → Waits s (waiting.Own place given.first) (kind_in declared.result) t found → CallsOwn s place declared given token t found
  put_in : is_left s declared ≡ false → Gives (put (instruction.Inline (target_of (kind_in declared.result) s) place given.first token) (with_target (kind_in declared.result) s)) (result_of (kind_in declared.result) s) (kind_in declared.result) t found → CallsOwn s place declared given token t found

-- the name in scope at a place is awaited
abbrev pub marked : List Binding → ℕ → Option Binding → List Binding
marked scope place None = scope
marked scope place (Some b) = slice_set scope place (record b { is_used = true })

-- with the name in scope at a place awaited
abbrev pub used : ℕ → State → State
used place s = record s { scope = marked s.scope place (slice_get s.scope place) }

-- the turn ends here, where that is so
abbrev pub yielding : Bool → State → State
yielding true s = put instruction.Yield s
yielding false s = s

-- the count of an `async let`, where it has one, has a child less
abbrev pub counted_child : Binding → State → State
counted_child b s = if b.count == b.variable then s else counted operators.Minus b.count s

-- whether what a name in scope stands for is a value
abbrev pub holds_value : Standing → Bool
holds_value standings.Constant = true
holds_value standings.Variable = true
holds_value standings.Task = false
holds_value standings.Group = false
holds_value standings.Child = false

-- the number of a truth value
abbrev pub number_of : Bool → ℤ
number_of true = pos 1
number_of false = pos 0

-- a number with its sign the other way round; the least one has none, and no token spells it: 0 stands for it
abbrev pub opposite : ℤ → ℤ
opposite n = if int_lt (neg_ℤ (pos 9223372036854775808)) n then neg_ℤ n else pos 0

-- the number of what a `-` stands before; 0 where that is no number
abbrev pub number_below : ExprForm → ℤ
number_below (form.Number n) = opposite n
number_below _ = pos 0

-- the number of a literal, by what it is; 0 of what is none
abbrev pub number_by : State → ExprForm → ℤ
number_by s (form.Number n) = n
number_by s (form.Truth b) = number_of b
number_by s (form.Negate inner) = number_below (form_at s inner)
number_by s _ = pos 0

-- the type of a literal, by what it is
abbrev pub kind_by_form : ExprForm → Kind
kind_by_form (form.Truth b) = kinds.Bool
kind_by_form _ = kinds.Int

-- the number of the literal at a place
abbrev pub literal_number : State → ℕ → ℤ
literal_number s place = number_by s (form_at s place)

-- its type
abbrev pub literal_kind : State → ℕ → Kind
literal_kind s place = kind_by_form (form_at s place)

-- the type that a declaration gives, or else another one
abbrev pub kind_or : Option ValueType → Kind → Kind
kind_or (Some v) k = kind_in v
kind_or None k = k

-- the type of what a field begins with
abbrev pub kind_at_start : State → FieldStart → Kind
kind_at_start s (starts.Value place) = literal_kind s place
kind_at_start s starts.None = kinds.Int

-- the type of a field that was looked for
abbrev pub kind_of_field : State → Option FieldDecl → Kind
kind_of_field s (Some d) = kind_or d.value_type (kind_at_start s d.start)
kind_of_field s None = kinds.Int

-- the type of the field at a place: the one that it gives, or else that of its literal
abbrev pub field_kind : State → ℕ → Kind
field_kind s place = kind_of_field s (slice_get s.tree.fields.items place)

-- the type of a task local that was looked for
abbrev pub kind_of_local : State → Option LocalDecl → Kind
kind_of_local s (Some d) = kind_or d.value_type (literal_kind s d.value)
kind_of_local s None = kinds.Int

-- the type of the task local at a place, as that of a field
abbrev pub local_kind : State → ℕ → Kind
local_kind s place = kind_of_local s (slice_get s.tree.locals.items place)

-- the literal of a constant that was looked for
abbrev pub literal_of : Option ConstantDecl → ℕ
literal_of (Some d) = d.value
literal_of None = 0

-- the literal of the constant at a place
abbrev pub constant_literal : State → ℕ → ℕ
constant_literal s place = literal_of (slice_get s.tree.constants.items place)

-- What a field of an instance becomes: a wait for what it is, or, where it never changes, the number that it begins with.
pub data ReadsOther (s : State) (instance token : ℕ) (t : State) (found : Typed) : Type 0 where
  changing : {d : FieldDecl} (field : ℕ) → IsFieldOf s instance token field → slice_get s.tree.fields.items field ≡ Some d → d.is_var ≡ true → Waits s (waiting.Getter instance field) (field_kind s field) t found → ReadsOther s instance token t found
  fixed : {d : FieldDecl} {begins : ℕ} (field : ℕ) → IsFieldOf s instance token field → slice_get s.tree.fields.items field ≡ Some d → d.is_var ≡ false → d.start ≡ starts.Value begins → Gives s (value.Number (literal_number s begins)) (literal_kind s begins) t found → ReadsOther s instance token t found

-- What a member becomes. `self.x`: the first field of the own actor of that spelling. `of.x` in an expectation: the field of an instance at the
-- end. Elsewhere, where `of` is in scope: the value of that task, which is waited for; where it is not: what Swift's `Task` has, or the first
-- such task local, or, where there is none, a field of an instance. Whether the turn ends before a task is waited for is not said here.
pub data Names (s : State) (token : ℕ) (t : State) (found : Typed) : ExprForm → Type 0 where
  own_field : {field : ℕ} → IsFirst (IsFieldAt s s.actor token) field → Gives s (value.Field field) (field_kind s field) t found → Names s token t found form.OwnMember
  at_end : {of instance field : ℕ} → s.is_expectation ≡ true → IsFirst (IsInstanceAt s of) instance → IsFieldOf s instance token field → Gives s (value.Member instance field) (field_kind s field) t found → Names s token t found (form.Member of)
  task : {of : ℕ} {b : Binding} (place : ℕ) (yields : Bool) → s.is_expectation ≡ false → IsInnermost s of place → slice_get s.scope place ≡ Some b → b.standing ≡ standings.Task → bytes_at s token ≡ codes "value" → Waits (yielding yields (used place s)) (waiting.Task b.variable) b.kind t found → Names s token t found (form.Member of)
  cancelled : {of : ℕ} → s.is_expectation ≡ false → IsFree s of → bytes_at s of ≡ codes "Task" → bytes_at s token ≡ codes "isCancelled" → Gives s value.Cancelled kinds.Bool t found → Names s token t found (form.Member of)
  urgency : {of : ℕ} → s.is_expectation ≡ false → IsFree s of → bytes_at s of ≡ codes "Task" → bytes_at s token ≡ codes "currentPriority" → Gives s value.Priority kinds.Urgency t found → Names s token t found (form.Member of)
  local : {of place : ℕ} → s.is_expectation ≡ false → IsGlobal s of → IsFirst (IsLocalAt s of token) place → Gives s (value.Local place) (local_kind s place) t found → Names s token t found (form.Member of)
  another : {of instance : ℕ} → s.is_expectation ≡ false → IsGlobal s of → ((place : ℕ) → IsLocalAt s of token place → ⊥) → IsFirst (IsInstanceAt s of) instance → ReadsOther s instance token t found → Names s token t found (form.Member of)

-- What a name becomes that stands alone. It means the innermost name in scope of its spelling: a value, or the child of an `async let`, which
-- is waited for. Where there is none it means the first field of the own actor of that spelling; where that has none, the first global
-- constant, and is the number of its literal then.
pub data Means (s : State) (token : ℕ) (t : State) (found : Typed) : Type 0 where
  a_value : {b : Binding} (place : ℕ) → IsInnermost s token place → slice_get s.scope place ≡ Some b → holds_value b.standing ≡ true → Gives s (value.Variable b.variable) b.kind t found → Means s token t found
  a_child : {b : Binding} {u : State} (place : ℕ) → IsInnermost s token place → slice_get s.scope place ≡ Some b → b.standing ≡ standings.Child → Waits (used place s) (waiting.Next b.variable) b.kind u found → t ≡ counted_child b u → Means s token t found
  a_field : (place : ℕ) → IsFree s token → IsFirst (IsFieldAt s s.actor token) place → Gives s (value.Field place) (field_kind s place) t found → Means s token t found
  a_constant : (place : ℕ) → IsFree s token → ((field : ℕ) → IsFieldAt s s.actor token field → ⊥) → IsFirst (IsConstantAt s token) place → Gives s (value.Number (literal_number s (constant_literal s place))) (literal_kind s (constant_literal s place)) t found → Means s token t found

-- What an expression without parts becomes, which stands at a token.
pub data IsLeaf (s : State) (token : ℕ) : ExprForm → State → Typed → Type 0 where
  number : {n : ℤ} {t : State} {found : Typed} → Gives s (value.Number n) kinds.Int t found → IsLeaf s token (form.Number n) t found
  truth : {b : Bool} {t : State} {found : Typed} → Gives s (value.Number (number_of b)) kinds.Bool t found → IsLeaf s token (form.Truth b) t found
  priority : {t : State} {found : Typed} (p : Priority) → IsPriority s token p → Gives s (value.Number (pos (rank p))) kinds.Urgency t found → IsLeaf s token form.Case t found
  name : {t : State} {found : Typed} → Means s token t found → IsLeaf s token form.Name t found
  own_member : {t : State} {found : Typed} → Names s token t found form.OwnMember → IsLeaf s token form.OwnMember t found
  member : {of : ℕ} {t : State} {found : Typed} → Names s token t found (form.Member of) → IsLeaf s token (form.Member of) t found

-- `Task.sleep`: a turn ends, and a cancelled task ends with a fault, unless a `try?` covers it
abbrev pub slept : State → State
slept s = if is_fault s.fallback then put instruction.Yield (with_fallback fallbacks.None s) else put instruction.Check (put instruction.Yield (with_fallback fallbacks.None s))

-- `Task.checkCancellation`, unless a `try?` covers it
abbrev pub checked : State → State
checked s = if fault_of s.fallback == NONE then put instruction.Check (with_fallback fallbacks.None s) else with_fallback fallbacks.None s

-- `group.next()`: `let m = fallback; if count > 0 {`
abbrev pub open_next : ℕ → ℕ → State → State
open_next count fallback s =
    let begun = put (instruction.Let (next_variable s) fallback) (with_temporary (with_fallback fallbacks.None s)) in
    put (instruction.If (child_test count begun)) (with_child_test count begun)

-- once the next result has come: `count = count - 1; m = next; }`
abbrev pub close_next : ℕ → ℕ → Typed → State → State
close_next count variable next s = put instruction.End (put (instruction.Set variable next.value) (counted operators.Minus count s))

-- `group.waitForAll()`: `while count > 0 { await next group; count = count - 1; }`
abbrev pub waited_for_all : Binding → State → State
waited_for_all b s = put instruction.End (counted operators.Minus b.count (put (instruction.Wait Nothing (waiting.Next b.variable) NONE) (put (instruction.While (child_test b.count s)) (with_child_test b.count s))))

-- What is called, with its operands. Whether the turn ends before a task or a group is cancelled is not said here.
pub data Calls (s : State) (given : Operands) (token : ℕ) (t : State) (found : Typed) : Called → Type 0 where
  own : {place : ℕ} {declared : MethodDecl} → slice_get s.tree.methods.items place ≡ Some declared → CallsOwn s place declared given token t found → Calls s given token t found (callees.Own place)
  other : {instance place : ℕ} {declared : MethodDecl} → slice_get s.tree.methods.items place ≡ Some declared → Waits s (waiting.Method instance place given.first) (kind_in declared.result) t found → Calls s given token t found (callees.Other instance place)
  yield : Gives (put instruction.Yield s) (value.Number (pos 0)) kinds.Void t found → Calls s given token t found callees.Yield
  sleep : Gives (slept s) (value.Number (pos 0)) kinds.Void t found → Calls s given token t found callees.Sleep
  check : Gives (checked s) (value.Number (pos 0)) kinds.Void t found → Calls s given token t found callees.Check
  cancel : {variable : ℕ} (yields : Bool) → Gives (put (instruction.Cancel variable) (yielding yields s)) (value.Number (pos 0)) kinds.Void t found → Calls s given token t found (callees.Cancel variable)
  next : {place v : ℕ} {b : Binding} {u : State} {one : Typed} → slice_get s.scope place ≡ Some b → s.fallback ≡ fallbacks.Nil v → Waits (open_next b.count v s) (waiting.Next b.variable) b.kind u one → Gives (used place (close_next b.count (next_variable s) one u)) (value.Variable (next_variable s)) b.kind t found → Calls s given token t found (callees.Next place)
  all : {place : ℕ} {b : Binding} → slice_get s.scope place ≡ Some b → Gives (used place (waited_for_all b s)) (value.Number (pos 0)) kinds.Void t found → Calls s given token t found (callees.WaitForAll place)

-- whether an argument is followed by another one
abbrev pub has_next : Argument → Bool
has_next a = not (a.next == 0)

-- whether what is called takes values
abbrev pub takes_values : Called → Bool
takes_values (callees.Own place) = true
takes_values (callees.Other instance place) = true
takes_values callees.Nothing = false
takes_values callees.Yield = false
takes_values callees.Sleep = false
takes_values callees.Check = false
takes_values (callees.Next place) = false
takes_values (callees.WaitForAll place) = false
takes_values (callees.Cancel variable) = false

mutual
  -- What the expression at a place becomes.
  pub data Lowers : State → ℕ → State → Typed → Type 0 where
    leaf : {s t : State} {p : ℕ} {found : Typed} → IsLeaf s (expr_at s p).token (form_at s p) t found → Lowers s p t found
    call : {s t u : State} {p : ℕ} {receiver : Receiver} {first : ℕ} {given : Operands} {found : Typed} (what : Called) → form_at s p ≡ form.Call receiver first → IsCalled s (expr_at s p).token receiver what → HandsIf (takes_values what) s first t given → Calls t given (expr_at s p).token u found what → Lowers s p u found
    negated : {s t u : State} {p q : ℕ} {inner found : Typed} → form_at s p ≡ form.Negate q → Lowers s q t inner → Gives t (value.Negate inner.value) kinds.Int u found → Lowers s p u found
    inverted : {s t u : State} {p q : ℕ} {inner found : Typed} → form_at s p ≡ form.Not q → Lowers s q t inner → Gives t (value.Not inner.value) kinds.Bool u found → Lowers s p u found
    binary : {s t u v w : State} {p l r : ℕ} {o : Operator} {first second found : Typed} (kept : Typed) → form_at s p ≡ form.Binary o l r → is_cut_short s o r ≡ false → Lowers s l t first → KeepsIf (acts s r) t first u kept → Lowers u r v second → Gives v (value.Binary o kept.value second.value) (kind_by o kept.kind) w found → Lowers s p w found
    shortcut : {s t u v w : State} {p l r : ℕ} {o : Operator} {first second found : Typed} → form_at s p ≡ form.Binary o l r → is_cut_short s o r ≡ true → Lowers s l t first → u ≡ open_shortcut o first t → Lowers (covered false u) r v second → w ≡ close_shortcut (next_variable t) second (covered u.is_awaited v) → found ≡ shortcut_value t → Lowers s p w found
    comma : {s t u v w : State} {p l r : ℕ} {first second found : Typed} → form_at s p ≡ form.Both l r → Lowers s l t first → u ≡ open_shortcut operators.And first t → Lowers (covered false u) r v second → w ≡ close_shortcut (next_variable t) second (covered u.is_awaited v) → found ≡ shortcut_value t → Lowers s p w found
    choice : {s t u v w x y : State} {p c a b : ℕ} {test first second found : Typed} → form_at s p ≡ form.Choice c a b → Lowers s c t test → u ≡ open_choice test t → Lowers u a v first → w ≡ turn_choice (next_variable t) first v → Lowers w b x second → Gives (close_shortcut (next_variable t) second x) (value.Variable (next_variable t)) first.kind y found → Lowers s p y found
    awaited : {s t : State} {p q : ℕ} {found : Typed} → form_at s p ≡ form.Await q → Lowers (covered true s) q t found → Lowers s p (covered s.is_awaited t) found
    tried : {s t : State} {p q : ℕ} {found : Typed} → form_at s p ≡ form.Try q → Lowers s q t found → Lowers s p t found
    otherwise : {s t u : State} {p l r : ℕ} {instead found : Typed} → form_at s p ≡ form.Otherwise l r → Lowers s r t instead → Lowers (with_fallback (fallback_by instead.value (form_at t l)) t) (caught_by l (form_at s l)) u found → Lowers s p u found

  -- What the arguments of a call become, from a place on, behind the operands so far: each once, from left to right, and kept where another
  -- one follows. At most so many follow.
  pub data Hands : ℕ → State → ℕ → Operands → State → Operands → Type 0 where
    spent : {s : State} {p : ℕ} {found : Operands} → Hands zero s p found s found
    no_more : {n : ℕ} {s : State} {p : ℕ} {found : Operands} → argument_at s p ≡ None → Hands n s p found s found
    one_more : {m n : ℕ} {s t v w : State} {p : ℕ} {a : Argument} {so_far found : Operands} {given : Typed} (u : State) (kept : Typed) → n ≡ suc m → argument_at s p ≡ Some a → Lowers s a.value t given → KeepsIf (has_next a) t given u kept → v ≡ with_operand kept so_far.last u → Hands m v a.next (and_one so_far (length u.operands)) w found → Hands n s p so_far w found

  -- What is handed to what takes values.
  pub data HandsIf : Bool → State → ℕ → State → Operands → Type 0 where
    values : {s t : State} {first : ℕ} {given : Operands} → Hands (length s.tree.arguments.items) s first no_operands t given → HandsIf true s first t given
    nothing : {s : State} {first : ℕ} → HandsIf false s first s no_operands

-- What was put stays, in its order, and what comes stands behind it. The file stays.
pub record Grows (s t : State) : Type 0 where
  pub instructions : List Instruction
  pub values : List Value
  pub behind : t.instructions ≡ s.instructions ++ instructions
  pub valued : t.values ≡ s.values ++ values
  pub tree : t.tree ≡ s.tree

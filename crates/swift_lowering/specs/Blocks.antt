-- What statements with a block become, and the statements of a block, in order. (Our own.)
use Rattle.std.specs.Prelude.{ℕ, zero, suc, ◌≡◌, ◌==◌, ◌^◌, ◌-◌, Bool, true, false, if◌then◌else◌, pos, int_le, length, Option, Some, None, codes}
use Rattle.std.specs.List.{slice_get}
use Rattle.swift_types.specs.declared.operator.Operator.{Operator}
use Rattle.swift_types.specs.declared.operator.Operator.TheVariants as operators
use Rattle.swift_types.specs.declared.priority.Priority.{Priority}
use Rattle.swift_syntax.specs.Expressions.{after}
use Rattle.swift_syntax.specs.declared.tree.Into.{Into}
use Rattle.swift_syntax.specs.declared.tree.Stmt.{Stmt}
use Rattle.swift_syntax.specs.declared.tree.StmtForm.TheVariants as form
use Rattle.swift_syntax.specs.declared.tree.TaskForm.{TaskForm}
use Rattle.swift_syntax.specs.declared.tree.ValueType.{ValueType}
use Rattle.swift_expressions.specs.Lowered.{Lowers, child_test, counted, kind_in, used, with_child_test, yielding}
use Rattle.swift_expressions.specs.Scopes.{IsInnermost, IsPriority}
use Rattle.swift_expressions.specs.States.{Binds, Gives, IsDeclared, State, bytes_at, left_to, named, next_value, next_variable, put, stmt_at, value_in, with_done, with_partial, with_temporary, with_value}
use Rattle.swift_expressions.specs.declared.code.Callee.{Callee}
use Rattle.swift_expressions.specs.declared.code.Callee.TheVariants as callees
use Rattle.swift_expressions.specs.declared.code.Instruction.TheVariants as instruction
use Rattle.swift_expressions.specs.declared.code.Kind.{Kind}
use Rattle.swift_expressions.specs.declared.code.Kind.TheVariants as kinds
use Rattle.swift_expressions.specs.declared.code.Target.TheVariants.{Nothing, Declare}
use Rattle.swift_expressions.specs.declared.code.TheConstants.{NONE}
use Rattle.swift_expressions.specs.declared.code.Value.{Value}
use Rattle.swift_expressions.specs.declared.code.Value.TheVariants as value
use Rattle.swift_expressions.specs.declared.code.Wait.TheVariants as waiting
use Rattle.swift_expressions.specs.declared.scope.Binding.{Binding}
use Rattle.swift_expressions.specs.declared.scope.Standing.TheVariants as standings
use Rattle.swift_expressions.specs.declared.typed.Typed.{Typed}
use Rattle.swift_lowering.specs.Alone.{IsLone}
use Rattle.swift_lowering.specs.Catching.{Catches, GivesCaught, begin_at_zero, caught_wait, is_lone_wait, open_caught, open_rest, with_flag}
use Rattle.swift_lowering.specs.Closures.{IsDirect, IsGiven, IsOfChild, IsOfTask, OpensClosure}
use Rattle.swift_lowering.specs.Groups.{BeginsBind, BeginsGroup, GivesClosed, entered, result_variable, with_result}
use Rattle.swift_lowering.specs.Returning.{has_rest, leaves_early, may_return}
use Rattle.swift_lowering.specs.Statements.{DoesPlain, as_set, result_given}
use Rattle.swift_lowering.specs.Units.{unit_ended}
use Rattle.swift_lowering.specs.declared.closure.ClosureBody.{ClosureBody}

-- A test of a statement is computed, and its value has this place.
pub record Tests (s : State) (place : ℕ) (t : State) (value : ℕ) : Type 0 where
  pub found : Typed
  pub lowers : Lowers s place t found
  pub is : value ≡ found.value

-- whether a value is a number
abbrev pub is_number : Value → Bool
is_number (value.Number n) = true
is_number _ = false

-- whether two values are numbers of which the first is not above the second
abbrev pub are_in_order : Value → Value → Bool
are_in_order (value.Number first) (value.Number last) = int_le first last
are_in_order (value.Number first) _ = false
are_in_order _ _ = false

-- The end of a range is computed once: the body of the loop may assign the variable that it is.
pub data Fixes (s : State) (given : Typed) (t : State) (found : Typed) : Type 0 where
  number : is_number (value_in s given.value) ≡ true → t ≡ s → found ≡ given → Fixes s given t found
  computed : is_number (value_in s given.value) ≡ false → Gives (put (instruction.Let (next_variable s) given.value) (with_temporary s)) (value.Variable (next_variable s)) given.kind t found → Fixes s given t found

-- where a range ends before it begins, an overflow traps
abbrev pub trapped : ℕ → ℕ → State → State
trapped here last s =
    let opened = put (instruction.If (next_value s)) (with_value (value.Binary operators.Greater here last) s) in
    let most = with_value (value.Number (pos (2 ^ 63 - 1))) opened in
    let one = with_value (value.Number (pos 1)) most in
    let over = with_value (value.Binary operators.Plus (next_value opened) (next_value most)) one in
    put instruction.End (put (instruction.Let (next_variable over) (next_value one)) (with_temporary over))

-- nothing has to be asked of two numbers that are in order
abbrev pub trapped_unless : Bool → ℕ → ℕ → State → State
trapped_unless true here last s = s
trapped_unless false here last s = trapped here last s

-- the test of a range
abbrev pub range_test : Bool → Operator
range_test true = operators.AtMost
range_test false = operators.Less

-- `while` a value that is computed here holds
abbrev pub with_while : Value → State → State
with_while v s = put (instruction.While (next_value s)) (with_value v s)

-- The head of a `for`: its first number goes to a variable, and its last one is computed once; then the range is tested, by both.
pub data Counts (s : State) (from to : ℕ) (is_closed : Bool) (counter : ℕ) (t : State) : Type 0 where
  counts : {a b c d e : State} {first last end here : Typed} → Lowers s from a first → b ≡ put (instruction.Let (next_variable a) first.value) (with_temporary a) → Lowers b to c last → Fixes c last d end → Gives d (value.Variable (next_variable a)) kinds.Int e here → t ≡ with_while (value.Binary (range_test is_closed) here.value end.value) (trapped_unless (are_in_order (value_in e first.value) (value_in e end.value)) here.value end.value e) → counter ≡ next_variable a → Counts s from to is_closed counter t

-- A variable gets a name, unless it has one.
pub data Renames (s : State) (variable name : ℕ) (t : State) : Type 0 where
  renamed : (duplicate : ℕ) → t ≡ named variable name duplicate s → Renames s variable name t
  as_it_was : t ≡ s → Renames s variable name t

-- The counter of a loop has a name in its body, unless that is `_`.
pub data NamesCounter (s : State) (name counter : ℕ) (t : State) : Type 0 where
  unnamed : bytes_at s name ≡ codes "_" → t ≡ s → NamesCounter s name counter t
  by_name : {u : State} → Renames s counter name u → Binds u name standings.Constant counter kinds.Int counter t → NamesCounter s name counter t

-- something of the unit follows a `return`, where that is so
abbrev pub done_where : Bool → State → State
done_where true s = with_done s
done_where false s = s

-- what follows is done unless the unit has returned, where it may have
abbrev pub rest_where : Bool → State → State
rest_where true s = put instruction.Rest s
rest_where false s = s

-- the end of that
abbrev pub end_where : Bool → State → State
end_where true s = put instruction.End s
end_where false s = s

-- `while`, by a value that was computed before it and will be again: it goes to a variable
abbrev pub open_while : ℕ → State → State
open_while test s = with_while (value.Variable (next_variable s)) (put (instruction.Let (next_variable s) test) (with_temporary s))

-- `guard`, by its test: what is done where that does not hold
abbrev pub open_guard : ℕ → State → State
open_guard test s = put (instruction.If (next_value s)) (with_value (value.Not test) s)

-- the test was computed again, at the end of the body
abbrev pub close_while : ℕ → ℕ → Bool → State → State
close_while variable again may s = put instruction.End (end_where may (put (instruction.Set variable again) s))

-- a group's count says whether a child is left, and a loop begins while one is
abbrev pub open_results : Binding → State → State
open_results b s = put (instruction.While (child_test b.count s)) (with_child_test b.count s)

-- The next result of a group goes to a variable, which begins there.
pub record IsNext (s : State) (b : Binding) (name : ℕ) (t : State) : Type 0 where
  pub u : State
  pub declared : IsDeclared s name false u
  pub state : t ≡ counted operators.Minus b.count (put (instruction.Wait (Declare (next_variable s)) (waiting.Next b.variable) NONE) u)

-- The innermost name in scope with the bytes of a token stands at a place, and is that of a group.
pub record IsGroupAt (s : State) (token place : ℕ) (b : Binding) : Type 0 where
  pub named : IsInnermost s token place
  pub there : slice_get s.scope place ≡ Some b
  pub is : b.standing ≡ standings.Group

-- The head of a loop over the results of a group: while the group's count says that a child is left, the next result is waited for.
pub data TakesResults (s : State) (group name : ℕ) (t : State) : Type 0 where
  of_nothing : {b : Binding} (place : ℕ) → IsGroupAt s group place b → t ≡ counted operators.Minus b.count (put (instruction.Wait Nothing (waiting.Next b.variable) NONE) (open_results b (used place s))) → TakesResults s group name t
  without_name : {b : Binding} (place : ℕ) → IsGroupAt s group place b → bytes_at s name ≡ codes "_" → IsNext (open_results b (used place s)) b 0 t → TakesResults s group name t
  with_name : {b : Binding} {u : State} (place : ℕ) → IsGroupAt s group place b → IsNext (open_results b (used place s)) b name u → Binds u name standings.Constant (next_variable s) b.kind (next_variable s) t → TakesResults s group name t

-- How urgent a task is by itself: as the token says that names a priority; where there is none, nothing is said.
abbrev pub IsUrgency : State → ℕ → Option Priority → Type 0
IsUrgency s token None = token ≡ 0
IsUrgency s token (Some p) = IsPriority s token p

-- A task begins, which its name stands for.
pub record MakesTask (s : State) (name : ℕ) (what : TaskForm) (callee : Callee) (t : State) : Type 0 where
  pub u : State
  pub priority : Option Priority
  pub kind : Kind
  pub declared : IsDeclared s name false u
  pub urgent : IsUrgency u what.priority priority
  pub binds : Binds (put (instruction.Make (next_variable s) what.is_detached callee priority) u) name standings.Task (next_variable s) kind (next_variable s) t

-- a child that may be left out may be missing from its group; any other is counted
abbrev pub counted_in : Bool → ℕ → Binding → State → State
counted_in true place b s = with_partial place s
counted_in false place b s = counted operators.Plus b.count s

-- A child begins of the group that a token names.
pub record AddsTask (s : State) (token : ℕ) (is_only : Bool) (callee : Callee) (t : State) : Type 0 where
  pub place : ℕ
  pub b : Binding
  pub there : IsGroupAt s token place b
  pub state : t ≡ counted_in is_only place b (put (instruction.Add b.variable is_only callee None) s)

-- a variable that says whether the child of an `async let` is left, where its scope may be left before that is awaited
abbrev pub with_child_count : Bool → State → State
with_child_count true s = put (instruction.Let (next_variable s) (next_value s)) (with_value (value.Number (pos 1)) (with_temporary s))
with_child_count false s = s

-- that variable, or else the child's own
abbrev pub child_count : Bool → ℕ → State → ℕ
child_count true variable s = next_variable s
child_count false variable s = variable

-- so many groups of `async let` are open
abbrev pub in_groups : ℕ → State → State
in_groups n s = record s { groups = n }

-- one more
abbrev pub begins_group : State → State
begins_group s = in_groups (after s.groups) s

-- one fewer
abbrev pub ends_group : State → State
ends_group s = in_groups (s.groups - 1) s

-- The group of an `async let` begins, with its child, which its name stands for.
pub record BeginsChild (s : State) (token : ℕ) (is_left_early : Bool) (callee : Callee) (variable count : ℕ) (t : State) : Type 0 where
  pub u : State
  pub v : State
  pub kind : Kind
  pub declared : IsDeclared s token false u
  pub is : variable ≡ next_variable s
  pub counts : count ≡ child_count is_left_early variable u
  pub binds : Binds (put (instruction.Add variable false callee None) (put (instruction.Group variable) (with_child_count is_left_early u))) token standings.Child variable kind count v
  pub state : t ≡ begins_group v

-- a child that is not awaited may begin before it is cancelled: where a variable says whether it is left, by that
abbrev pub child_begun : Bool → ℕ → ℕ → State → State
child_begun yields variable count s = if count == variable then yielding yields s else put instruction.End (put instruction.Yield (put (instruction.If (child_test count s)) (with_child_test count s)))

-- The group of an `async let` ends: what is left of it is cancelled, and waited for. Whether the turn ends before that, where no variable
-- says it, is not said.
pub record EndsChild (s : State) (variable count : ℕ) (t : State) : Type 0 where
  pub yields : Bool
  pub state : t ≡ ends_group (put instruction.End (put (instruction.Cancel variable) (child_begun yields variable count s)))

mutual
  -- What a statement becomes.
  pub data Does : State → Stmt → State → Type 0 where
    plain : {s t : State} {stmt : Stmt} → DoesPlain s stmt.token t stmt.form → Does s stmt t
    conditional : {s t u v w : State} {stmt : Stmt} {test held failed value : ℕ} → stmt.form ≡ form.If test held failed → Tests s test t value → DoesBlock (put (instruction.If value) t) held u → DoesElse u failed v → w ≡ put instruction.End v → Does s stmt w
    guarded : {s t u v : State} {stmt : Stmt} {test body value : ℕ} → stmt.form ≡ form.Guard test body → Tests s test t value → DoesBlock (open_guard value t) body u → v ≡ put instruction.End u → Does s stmt v
    while_value : {s t u v : State} {stmt : Stmt} {test body value : ℕ} → stmt.form ≡ form.While test body → Tests s test t value → length t.instructions ≡ length s.instructions → Repeats (put (instruction.While value) t) body u → v ≡ put instruction.End u → Does s stmt v
    while_again : {s t u v w : State} {stmt : Stmt} {test body value again : ℕ} → stmt.form ≡ form.While test body → Tests s test t value → Repeats (open_while value t) body u → Tests (rest_where (may_return u body) u) test v again → w ≡ close_while (next_variable t) again (may_return v body) v → Does s stmt w
    for_range : {s t u : State} {stmt : Stmt} {from to body counter : ℕ} {is_closed : Bool} → stmt.form ≡ form.For from to is_closed body → Counts s from to is_closed counter t → CountsOn t stmt.token counter body u → Does s stmt u
    for_results : {s t : State} {stmt : Stmt} {group body : ℕ} {is_tried : Bool} → stmt.form ≡ form.ForAwait group is_tried body → LoopsOver s group stmt.token body t → Does s stmt t
    while_results : {s t : State} {stmt : Stmt} {group body : ℕ} {is_tried : Bool} → stmt.form ≡ form.WhileNext group is_tried body → LoopsOver s group stmt.token body t → Does s stmt t
    makes_task : {s t u : State} {stmt : Stmt} {name : ℕ} {what : TaskForm} {body : ClosureBody} {callee : Callee} → stmt.form ≡ form.Task name what → IsOfTask s stmt what body → Encloses s body t callee → MakesTask t name what callee u → Does s stmt u
    adds_task : {s t u : State} {stmt : Stmt} {is_only : Bool} {what : TaskForm} {body : ClosureBody} {callee : Callee} → stmt.form ≡ form.AddTask is_only what → IsOfTask s stmt what body → Encloses s body t callee → AddsTask t stmt.token is_only callee u → Does s stmt u
    catches_one : {s t u v w : State} {stmt one : Stmt} {body instead place : ℕ} {found : Typed} → stmt.form ≡ form.DoCatch body instead → stmt_at s body ≡ Some one → one.next ≡ 0 → caught_wait s one.form ≡ Some place → Catches s place stmt.token t found → DoesBlock t instead u → GivesCaught u one.token found v one.form → w ≡ put instruction.End v → Does s stmt w
    catches_several : {s t u v : State} {stmt : Stmt} {body instead : ℕ} → stmt.form ≡ form.DoCatch body instead → is_lone_wait s (stmt_at s body) ≡ false → AttemptsBlock (begin_at_zero s) (next_variable s) stmt.token body t → DoesBlock (open_caught (next_variable s) t) instead u → v ≡ put instruction.End u → Does s stmt v
    groups : {s t u v w x : State} {stmt : Stmt} {into : Into} {found : ValueType} {is_throwing : Bool} {body : ℕ} → stmt.form ≡ form.Group into found is_throwing body → t ≡ with_result into s → BeginsGroup t stmt.token (kind_in found) u → DoesClosed u body (result_variable into s) v → w ≡ left_to (length s.scope) (put instruction.End v) → GivesClosed w into (result_variable into s) x → Does s stmt x
    binds : {s t u v w x : State} {stmt : Stmt} {into : Into} {of given body : ℕ} → stmt.form ≡ form.Bind into of given body → t ≡ with_result into s → BeginsBind t of stmt.token given u → DoesClosed u body (result_variable into s) v → w ≡ left_to (length s.scope) (put instruction.End v) → GivesClosed w into (result_variable into s) x → Does s stmt x

  -- What the statements of a block become, from a place on, in order; at most so many are looked at. What follows one that may return is done
  -- unless it has. What follows an `async let` stands in the group of its child.
  pub data DoesAll : ℕ → State → ℕ → State → Type 0 where
    spent : {s : State} {p : ℕ} → DoesAll zero s p s
    no_more : {n : ℕ} {s : State} {p : ℕ} → stmt_at s p ≡ None → DoesAll n s p s
    one_more : {m n : ℕ} {s t u : State} {p : ℕ} {stmt : Stmt} → n ≡ suc m → stmt_at s p ≡ Some stmt → Does s stmt t → has_rest t stmt ≡ false → DoesAll m t stmt.next u → DoesAll n s p u
    unless_returned : {n : ℕ} {s t u v w : State} {p : ℕ} {stmt : Stmt} → stmt_at s p ≡ Some stmt → Does s stmt t → has_rest t stmt ≡ true → u ≡ put instruction.Rest (with_done t) → DoesAll (length u.tree.stmts.items) u stmt.next v → w ≡ put instruction.End v → DoesAll n s p w
    child : {n : ℕ} {s u v w : State} {p : ℕ} {stmt : Stmt} {wanted : Option ValueType} {given variable count : ℕ} → stmt_at s p ≡ Some stmt → stmt.form ≡ form.AsyncLet wanted given → StartsChild s stmt given variable count u → DoesAll (length u.tree.stmts.items) u stmt.next v → EndsChild v variable count w → DoesAll n s p w

  -- What the closure of an `async let` becomes, and then its child begins.
  pub data StartsChild : State → Stmt → ℕ → ℕ → ℕ → State → Type 0 where
    started : {s t u : State} {stmt : Stmt} {given variable count : ℕ} {body : ClosureBody} {callee : Callee} → IsOfChild stmt given body → Encloses s body t callee → BeginsChild t stmt.token (leaves_early t stmt.next) callee variable count u → StartsChild s stmt given variable count u

  -- What a closure becomes, and what a task runs then: a method that is all that it calls, or a unit of its own.
  pub data Encloses : State → ClosureBody → State → Callee → Type 0 where
    hands_over : {s t : State} {body : ClosureBody} {callee : Callee} → IsDirect s body.value t callee → Encloses s body t callee
    as_unit : {s t u v : State} {body : ClosureBody} {operand : ℕ} → OpensClosure s body operand t → Says t body u → v ≡ as_set s (left_to (length s.scope) (unit_ended (length s.units) (length s.instructions) (body.to - 1) u)) → Encloses s body v (callees.Unit (length s.units) operand)

  -- What the statements of a closure become, or its value where it says nothing else.
  pub data Says : State → ClosureBody → State → Type 0 where
    statements : {s t : State} {body : ClosureBody} → body.value ≡ 0 → DoesAll (length s.tree.stmts.items) s body.first t → Says s body t
    value_alone : {s t : State} {body : ClosureBody} → (body.value ≡ 0 → ⊥) → IsGiven s body.value t → Says s body t

  -- What the block of a group or a binding becomes, which gives its value to a variable.
  pub data DoesClosed : State → ℕ → ℕ → State → Type 0 where
    closed : {s t u : State} {first variable : ℕ} (blocks : ℕ) → SaysClosed (entered variable blocks s) first t → u ≡ as_set s t → DoesClosed s first variable u

  -- What it says: its statements, or its value where it says nothing else.
  pub data SaysClosed : State → ℕ → State → Type 0 where
    one_value : {s t u : State} {first place : ℕ} {found : Typed} → IsLone s first place → (place ≡ 0 → ⊥) → Lowers s place t found → u ≡ result_given t.returns found t → SaysClosed s first u
    as_block : {s t : State} {first : ℕ} → IsLone s first 0 → DoesBlock s first t → SaysClosed s first t

  -- What a block becomes: its names end with it.
  pub data DoesBlock : State → ℕ → State → Type 0 where
    whole : {s t u : State} {first : ℕ} → DoesAll (length s.tree.stmts.items) s first t → u ≡ left_to (length s.scope) t → DoesBlock s first u

  -- What an `else` becomes, if there is one.
  pub data DoesElse : State → ℕ → State → Type 0 where
    no_block : {s : State} {first : ℕ} → first ≡ zero → DoesElse s first s
    other : {s t : State} {first : ℕ} → DoesBlock (put instruction.Else s) first t → DoesElse s first t

  -- What the body of a loop becomes. What follows a `return` in it is done unless the unit has returned.
  pub data Repeats : State → ℕ → State → Type 0 where
    loop_body : {s t : State} {first : ℕ} → DoesBlock (done_where (may_return s first) s) first t → Repeats s first t

  -- What is done for each number of a range, whose counter has a name in the body.
  pub data CountsOn : State → ℕ → ℕ → ℕ → State → Type 0 where
    count_on : {s t u v : State} {name counter body : ℕ} → NamesCounter s name counter t → Repeats t body u → v ≡ left_to (length s.scope) (put instruction.End (counted operators.Plus counter u)) → CountsOn s name counter body v

  -- What is done for each result of a group.
  pub data LoopsOver : State → ℕ → ℕ → ℕ → State → Type 0 where
    loop_over : {s t u v : State} {group name body : ℕ} → TakesResults s group name t → Repeats t body u → v ≡ left_to (length s.scope) (put instruction.End u) → LoopsOver s group name body v

  -- What the statements of a `do` become, from a place on, in order; at most so many are looked at. What follows a wait is done where no fault
  -- of it was caught; a variable says that one was.
  pub data AttemptsAll : ℕ → State → ℕ → ℕ → ℕ → State → Type 0 where
    none_left : {s : State} {flag token p : ℕ} → AttemptsAll zero s flag token p s
    at_end : {n : ℕ} {s : State} {flag token p : ℕ} → stmt_at s p ≡ None → AttemptsAll n s flag token p s
    one_done : {m n : ℕ} {s t u : State} {flag token p : ℕ} {stmt : Stmt} → n ≡ suc m → stmt_at s p ≡ Some stmt → caught_wait s stmt.form ≡ None → Does s stmt t → has_rest t stmt ≡ false → AttemptsAll m t flag token stmt.next u → AttemptsAll n s flag token p u
    rest_unless_returned : {n : ℕ} {s t u v w : State} {flag token p : ℕ} {stmt : Stmt} → stmt_at s p ≡ Some stmt → caught_wait s stmt.form ≡ None → Does s stmt t → has_rest t stmt ≡ true → u ≡ open_rest true t → AttemptsAll (length u.tree.stmts.items) u flag token stmt.next v → w ≡ put instruction.End v → AttemptsAll n s flag token p w
    rest_unless_caught : {n : ℕ} {s t u q v w : State} {flag token p place : ℕ} {stmt : Stmt} {found : Typed} → stmt_at s p ≡ Some stmt → caught_wait s stmt.form ≡ Some place → Catches s place token t found → GivesCaught (with_flag flag t) stmt.token found u stmt.form → q ≡ open_rest (has_rest u stmt) u → AttemptsAll (length q.tree.stmts.items) q flag token stmt.next v → w ≡ put instruction.End (end_where (has_rest u stmt) v) → AttemptsAll n s flag token p w

  -- What the block of a `do` becomes: its names end with it.
  pub data AttemptsBlock : State → ℕ → ℕ → ℕ → State → Type 0 where
    attempted : {s t u : State} {flag token first : ℕ} → AttemptsAll (length s.tree.stmts.items) s flag token first t → u ≡ left_to (length s.scope) t → AttemptsBlock s flag token first u

-- What of an expression or an action has no plain Swift. (Own.)
use Rattle.std.specs.Prelude.{◌≡◌, ◌||◌, ℕ, pos, Bool, true, false, not, int_lt, List, [], ◌∷◌, map, bytes_eq, Option, Some, None}
use Rattle.std.specs.List.{list_any}
use Rattle.swift_types.specs.declared.operator.Operator.TheVariants as op
use Rattle.swift_types.specs.declared.priority.Priority.{Priority}
use Rattle.script_grammar.specs.Tree.{ExprTree, Number, Named, Local, OwnPriority, IsCancelled, Negated, Inverted, Both, CallTree, AwaitedTree, Called, TaskOf, NextOf, WaitTree, ValueTree, Computed, Waited, AddTree, ActionTree, Let, LetTask, Assign, Await, Makes, Adds, Cancel, Return, Throw, Check, Yield, BlockTree, DeclTree, Executes, Binds, Acts, Roots, text_of, view_decl}
use Rattle.plain_parts.specs.Flow.{Wait, call_of, has}
use Rattle.plain_forms.specs.declared.form.Form.{Form}
use Rattle.plain_forms.specs.declared.form.Form.TheVariants as form
use Rattle.plain_forms.specs.declared.walk.FoundForm.{FoundForm}
use Rattle.plain_forms.specs.declared.walk.Walk.{Walk}
use Rattle.plain_forms.specs.declared.walk.Place.{Place}

-- the earlier of two forms
abbrev pub earlier : Option Form → Option Form → Option Form
earlier None later = later
earlier (Some f) later = Some f

-- a form, where this is not so
abbrev pub unless : Bool → Form → Option Form
unless true f = None
unless false f = Some f

-- the form that was found, without its place
abbrev pub told_form : Option FoundForm → Option Form
told_form None = None
told_form (Some f) = Some f.form

-- what a walk has found
abbrev pub form_of : Walk → Option Form
form_of w = told_form w.found

-- A walk goes on over a part in which this is the first form.
abbrev pub Finds : Walk → Walk → Option Form → Type 0
Finds p q o = form_of q ≡ earlier (form_of p) o

-- What a statement stands in: the script, its actor, the parameters of its method, and whether a group is around it.
pub record PlaceTree : Type 0 where
  pub decls : List DeclTree
  pub actor : List ℕ
  pub params : List (List ℕ)
  pub in_group : Bool

-- the same of the code
abbrev pub view_place : Place → PlaceTree
view_place p = record { decls = map view_decl p.decls.now; actor = p.actor.now.text.items; params = map text_of p.params.now; in_group = p.in_group }

-- whether a test asks whether the task is cancelled
abbrev pub asks : ExprTree → Bool
asks (Number n) = false
asks (Named w) = false
asks (Local w) = false
asks OwnPriority = false
asks IsCancelled = true
asks (Negated a) = false
asks (Inverted a) = asks a
asks (Both op.Or a b) = asks a || asks b
asks (Both op.And a b) = asks a || asks b
asks (Both op.Equal a b) = false
asks (Both op.Unequal a b) = false
asks (Both op.Less a b) = false
asks (Both op.AtMost a b) = false
asks (Both op.Greater a b) = false
asks (Both op.AtLeast a b) = false
asks (Both op.Plus a b) = false
asks (Both op.Minus a b) = false
asks (Both op.Times a b) = false

-- whether an expression is a number below 100, which a case stands for
abbrev pub is_failure : ExprTree → Bool
is_failure (Number n) = int_lt n (pos 100)
is_failure (Named w) = false
is_failure (Local w) = false
is_failure OwnPriority = false
is_failure IsCancelled = false
is_failure (Negated a) = false
is_failure (Inverted a) = false
is_failure (Both o a b) = false

-- whether an expression is a name
abbrev pub is_name : List ℕ → ExprTree → Bool
is_name w (Number n) = false
is_name w (Named v) = bytes_eq w v
is_name w (Local v) = false
is_name w OwnPriority = false
is_name w IsCancelled = false
is_name w (Negated a) = false
is_name w (Inverted a) = false
is_name w (Both o a b) = false

-- whether a value is a name
abbrev pub is_itself : List ℕ → ValueTree → Bool
is_itself w (Computed e) = is_name w e
is_itself w (Waited x) = false

-- whether two names are one
abbrev pub is_named : List ℕ → List ℕ → Bool
is_named w v = bytes_eq v w

-- whether a name is a parameter
abbrev pub is_param : PlaceTree → List ℕ → Bool
is_param p w = list_any (is_named w) p.params

-- whether a declaration is a root of this name
abbrev pub is_root_of : List ℕ → DeclTree → Bool
is_root_of w (Executes x) = false
is_root_of w (Binds l) = false
is_root_of w (Acts a) = false
is_root_of w (Roots r) = bytes_eq r.name w

-- whether a root has this name
abbrev pub is_root : PlaceTree → List ℕ → Bool
is_root p w = list_any (is_root_of w) p.decls

-- whether an expression is a number, perhaps with `-` before it
abbrev pub is_numeral : ExprTree → Bool
is_numeral (Number n) = true
is_numeral (Named w) = false
is_numeral (Local w) = false
is_numeral OwnPriority = false
is_numeral IsCancelled = false
is_numeral (Negated a) = is_numeral a
is_numeral (Inverted a) = false
is_numeral (Both o a b) = false

-- whether an expression is a number with `-` before it
abbrev pub is_negative : ExprTree → Bool
is_negative (Number n) = false
is_negative (Named w) = false
is_negative (Local w) = false
is_negative OwnPriority = false
is_negative IsCancelled = false
is_negative (Negated a) = is_numeral a
is_negative (Inverted a) = false
is_negative (Both o a b) = false

-- the first form of an expression that is wanted as a number
abbrev pub number_form : ExprTree → Option Form
number_form (Number n) = None
number_form (Named w) = None
number_form (Local w) = Some form.TaskLocal
number_form OwnPriority = Some form.Priority
number_form IsCancelled = Some form.TestAsNumber
number_form (Negated a) = earlier (unless (not (is_negative a)) form.MinusTwice) (number_form a)
number_form (Inverted a) = Some form.TestAsNumber
number_form (Both op.Or a b) = Some form.TestAsNumber
number_form (Both op.And a b) = Some form.TestAsNumber
number_form (Both op.Equal a b) = Some form.TestAsNumber
number_form (Both op.Unequal a b) = Some form.TestAsNumber
number_form (Both op.Less a b) = Some form.TestAsNumber
number_form (Both op.AtMost a b) = Some form.TestAsNumber
number_form (Both op.Greater a b) = Some form.TestAsNumber
number_form (Both op.AtLeast a b) = Some form.TestAsNumber
number_form (Both op.Plus a b) = earlier (number_form a) (number_form b)
number_form (Both op.Minus a b) = earlier (number_form a) (number_form b)
number_form (Both op.Times a b) = earlier (number_form a) (number_form b)

-- the first form of an expression that is wanted as a test: a number is one that is not 0
abbrev pub test_form : ExprTree → Option Form
test_form (Number n) = None
test_form (Named w) = None
test_form (Local w) = Some form.TaskLocal
test_form OwnPriority = Some form.Priority
test_form IsCancelled = None
test_form (Negated a) = number_form (Negated a)
test_form (Inverted a) = test_form a
test_form (Both op.Or a b) = earlier (test_form a) (earlier (unless (not (asks b)) form.CancelledRight) (test_form b))
test_form (Both op.And a b) = earlier (test_form a) (earlier (unless (not (asks b)) form.CancelledRight) (test_form b))
test_form (Both op.Equal a b) = earlier (number_form a) (number_form b)
test_form (Both op.Unequal a b) = earlier (number_form a) (number_form b)
test_form (Both op.Less a b) = earlier (number_form a) (number_form b)
test_form (Both op.AtMost a b) = earlier (number_form a) (number_form b)
test_form (Both op.Greater a b) = earlier (number_form a) (number_form b)
test_form (Both op.AtLeast a b) = earlier (number_form a) (number_form b)
test_form (Both op.Plus a b) = earlier (number_form a) (number_form b)
test_form (Both op.Minus a b) = earlier (number_form a) (number_form b)
test_form (Both op.Times a b) = earlier (number_form a) (number_form b)

-- of several numbers
abbrev pub numbers_form : List ExprTree → Option Form
numbers_form [] = None
numbers_form (e ∷ es) = earlier (number_form e) (numbers_form es)

-- of a call
abbrev pub call_form : CallTree → Option Form
call_form c = numbers_form c.args

-- of what is waited for, with a value in place of a fault where the flag says so
abbrev pub awaited_form : PlaceTree → Bool → AwaitedTree → Option Form
awaited_form p b (Called c) = earlier (unless (not (bytes_eq c.actor p.actor)) form.OwnCall) (call_form c)
awaited_form p b (TaskOf w) = unless (not (is_root p w)) form.RootByName
awaited_form p b (NextOf w) = unless (not b) form.NextElse

-- whether there is a value in place of a fault
abbrev pub is_there : Option ExprTree → Bool
is_there None = false
is_there (Some e) = true

-- of that value
abbrev pub other_form : Option ExprTree → Option Form
other_form None = None
other_form (Some e) = number_form e

-- of a wait
abbrev pub wait_form : PlaceTree → WaitTree → Option Form
wait_form p w = earlier (awaited_form p (is_there w.other) w.for) (other_form w.other)

-- of a value
abbrev pub value_form : PlaceTree → ValueTree → Option Form
value_form p (Computed e) = number_form e
value_form p (Waited w) = wait_form p w

-- of a name that is set
abbrev pub assign_form : PlaceTree → List ℕ → ValueTree → Option Form
assign_form p w v = earlier (unless (not (is_param p w)) form.ParameterSet) (earlier (unless (not (is_itself w v)) form.SetToItself) (value_form p v))

-- whether no priority is given
abbrev pub is_free : Option Priority → Bool
is_free None = true
is_free (Some q) = false

-- of a child
abbrev pub add_form : AddTree → Option Form
add_form a = earlier (unless (not a.unless) form.AddWord) (earlier (unless (is_free a.priority) form.AddWord) (call_form a.call))

-- of a number that is returned
abbrev pub return_form : PlaceTree → ExprTree → Option Form
return_form p e = earlier (unless (not p.in_group) form.ReturnInGroup) (number_form e)

-- of an action, before the statements that follow it
abbrev pub action_form : PlaceTree → ActionTree → BlockTree → Option Form
action_form p (Let w v) b = value_form p v
action_form p (LetTask w m) b = earlier (unless (has b (Wait w)) form.NotAwaited) (call_form (call_of m))
action_form p (Assign w v) b = assign_form p w v
action_form p (Await w) b = wait_form p w
action_form p (Makes m) b = Some form.NotAwaited
action_form p (Adds a) b = add_form a
action_form p (Cancel w) b = unless (not (is_root p w)) form.RootByName
action_form p (Return e) b = return_form p e
action_form p (Throw e) b = unless (is_failure e) form.Thrown
action_form p Check b = None
action_form p Yield b = None

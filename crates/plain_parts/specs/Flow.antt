-- What statements do with a name, and whether they end the method. (Own.)
use Rattle.std.specs.Prelude.{◌&&◌, ◌||◌, ℕ, ℤ, Bool, true, false, not, int_lt, List, bytes_eq, Option, Some, None}
use Rattle.script_grammar.specs.Tree.{ExprTree, Number, Named, Local, OwnPriority, IsCancelled, Negated, Inverted, Both, CallTree, AwaitedTree, Called, TaskOf, NextOf, WaitTree, ValueTree, Computed, Waited, MakeTree, Spawned, Detached, ActionTree, Let, LetTask, Assign, Await, Makes, Adds, Cancel, Return, Throw, Check, Yield, StmtTree, Do, Headed, IfElse, BlockTree, nothing, first_then}
use Rattle.plain_parts.specs.declared.flow.Sought.{Sought}
use Rattle.plain_parts.specs.declared.flow.Sought.TheVariants as sought

-- whether an action ends the method
abbrev pub ends_by : ActionTree → Bool
ends_by (Let n v) = false
ends_by (LetTask n m) = false
ends_by (Assign n v) = false
ends_by (Await w) = false
ends_by (Makes m) = false
ends_by (Adds d) = false
ends_by (Cancel n) = false
ends_by (Return e) = true
ends_by (Throw e) = true
ends_by Check = false
ends_by Yield = false

-- whether a block is empty
abbrev pub is_nothing : BlockTree → Bool
is_nothing nothing = true
is_nothing (first_then s b) = false

abbrev mutual
  -- whether the last statement of a block ends the method
  pub ends : BlockTree → Bool
  ends nothing = false
  ends (first_then s b) = (is_nothing b && ends_at s) || ends b

  -- whether a statement ends the method, whatever its tests give
  pub ends_at : StmtTree → Bool
  ends_at (Do a) = ends_by a
  ends_at (Headed h b) = false
  ends_at (IfElse e a b) = ends a && ends b

-- What is looked for in statements: that a number is set, a task is waited for, a number is returned, one is wanted of a method, or one is
-- thrown that is no less.
pub data SoughtTree : Type 0 where
  Set : List ℕ → SoughtTree
  Wait : List ℕ → SoughtTree
  Returned : SoughtTree
  Wanted : List ℕ → List ℕ → SoughtTree
  Thrown : ℤ → SoughtTree

-- what the code looks for
abbrev pub view_sought : Sought → SoughtTree
view_sought (sought.Set n) = Set n.now.text.items
view_sought (sought.Wait n) = Wait n.now.text.items
view_sought sought.Return = Returned
view_sought (sought.Number a m) = Wanted a.now.text.items m.now.text.items
view_sought (sought.Throw n) = Thrown n

-- whether an action sets a name
abbrev pub sets : List ℕ → ActionTree → Bool
sets w (Let n v) = false
sets w (LetTask n m) = false
sets w (Assign n v) = bytes_eq n w
sets w (Await x) = false
sets w (Makes m) = false
sets w (Adds d) = false
sets w (Cancel n) = false
sets w (Return e) = false
sets w (Throw e) = false
sets w Check = false
sets w Yield = false

-- whether a task is awaited by this name
abbrev pub is_task : List ℕ → AwaitedTree → Bool
is_task w (Called c) = false
is_task w (TaskOf n) = bytes_eq n w
is_task w (NextOf n) = false

-- whether a wait is one for a task
abbrev pub is_wait_for : List ℕ → WaitTree → Bool
is_wait_for w x = is_task w x.for

-- whether a value is a wait for a task
abbrev pub value_waits : List ℕ → ValueTree → Bool
value_waits w (Computed e) = false
value_waits w (Waited x) = is_wait_for w x

-- whether an action waits for a task
abbrev pub waits : List ℕ → ActionTree → Bool
waits w (Let n v) = value_waits w v
waits w (LetTask n m) = false
waits w (Assign n v) = value_waits w v
waits w (Await x) = is_wait_for w x
waits w (Makes m) = false
waits w (Adds d) = false
waits w (Cancel n) = false
waits w (Return e) = false
waits w (Throw e) = false
waits w Check = false
waits w Yield = false

-- whether an action returns a number
abbrev pub returns_number : ActionTree → Bool
returns_number (Let n v) = false
returns_number (LetTask n m) = false
returns_number (Assign n v) = false
returns_number (Await w) = false
returns_number (Makes m) = false
returns_number (Adds d) = false
returns_number (Cancel n) = false
returns_number (Return e) = true
returns_number (Throw e) = false
returns_number Check = false
returns_number Yield = false

-- the call of a task that is made
abbrev pub call_of : MakeTree → CallTree
call_of (Spawned c p) = c
call_of (Detached c p) = c

-- whether a call is one of a method of an actor
abbrev pub is_call : List ℕ → List ℕ → CallTree → Bool
is_call a m c = bytes_eq c.actor a && bytes_eq c.method m

-- whether what is awaited is a call of a method of an actor
abbrev pub awaits_call : List ℕ → List ℕ → AwaitedTree → Bool
awaits_call a m (Called c) = is_call a m c
awaits_call a m (TaskOf n) = false
awaits_call a m (NextOf n) = false

-- whether a wait is for a call of a method of an actor
abbrev pub is_awaited_call : List ℕ → List ℕ → WaitTree → Bool
is_awaited_call a m x = awaits_call a m x.for

-- whether a value is what a method of an actor gives
abbrev pub value_calls : List ℕ → List ℕ → ValueTree → Bool
value_calls a m (Computed e) = false
value_calls a m (Waited x) = is_awaited_call a m x

-- whether there is something
abbrev pub is_there : Option ExprTree → Bool
is_there None = false
is_there (Some e) = true

-- whether a wait has a value in place of a fault
abbrev pub has_other : WaitTree → Bool
has_other x = is_there x.other

-- whether what a method of an actor gives is used as a number
abbrev pub wants_number : List ℕ → List ℕ → ActionTree → Bool
wants_number a m (Let n v) = value_calls a m v
wants_number a m (LetTask n k) = is_call a m (call_of k)
wants_number a m (Assign n v) = value_calls a m v
wants_number a m (Await x) = has_other x && is_awaited_call a m x
wants_number a m (Makes k) = is_call a m (call_of k)
wants_number a m (Adds d) = is_call a m d.call
wants_number a m (Cancel n) = false
wants_number a m (Return e) = false
wants_number a m (Throw e) = false
wants_number a m Check = false
wants_number a m Yield = false

-- whether an expression is a number that is no less
abbrev pub is_from : ℤ → ExprTree → Bool
is_from k (Number n) = not (int_lt n k)
is_from k (Named w) = false
is_from k (Local w) = false
is_from k OwnPriority = false
is_from k IsCancelled = false
is_from k (Negated a) = false
is_from k (Inverted a) = false
is_from k (Both o a b) = false

-- whether an action throws a number that is no less
abbrev pub throws_from : ℤ → ActionTree → Bool
throws_from k (Let n v) = false
throws_from k (LetTask n m) = false
throws_from k (Assign n v) = false
throws_from k (Await w) = false
throws_from k (Makes m) = false
throws_from k (Adds d) = false
throws_from k (Cancel n) = false
throws_from k (Return e) = false
throws_from k (Throw e) = is_from k e
throws_from k Check = false
throws_from k Yield = false

-- whether an action does what is looked for
abbrev pub is_sought : SoughtTree → ActionTree → Bool
is_sought (Set w) a = sets w a
is_sought (Wait w) a = waits w a
is_sought Returned a = returns_number a
is_sought (Wanted r m) a = wants_number r m a
is_sought (Thrown n) a = throws_from n a

abbrev mutual
  -- whether some statement of a block does what is looked for
  pub has : BlockTree → SoughtTree → Bool
  has nothing t = false
  has (first_then s b) t = has_at s t || has b t

  -- whether a statement does, or one in it
  pub has_at : StmtTree → SoughtTree → Bool
  has_at (Do a) t = is_sought t a
  has_at (Headed h b) t = has b t
  has_at (IfElse e a b) t = has a t || has b t

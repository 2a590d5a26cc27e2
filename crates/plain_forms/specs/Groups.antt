-- Groups, and what is left in them. (Own.)
use Rattle.std.specs.Prelude.{◌&&◌, ◌||◌, ◌==◌, ◌-◌, ℕ, Bool, true, false, not, List, bytes_eq}
use Rattle.script_grammar.specs.Tree.{AwaitedTree, Called, TaskOf, NextOf, WaitTree, ValueTree, Computed, Waited, ActionTree, Let, LetTask, Assign, Await, Makes, Adds, Cancel, Return, Throw, Check, Yield, StmtTree, Do, Headed, IfElse, BlockTree, nothing, first_then}
use Rattle.plain_parts.specs.Names.{pick}
use Rattle.plain_parts.specs.Pages.{one_more}

-- whether a result of a group is awaited
abbrev pub is_next_of : List ℕ → AwaitedTree → Bool
is_next_of w (Called c) = false
is_next_of w (TaskOf v) = false
is_next_of w (NextOf v) = bytes_eq v w

-- whether a wait is for a result of a group
abbrev pub is_next_wait : List ℕ → WaitTree → Bool
is_next_wait w x = is_next_of w x.for

-- whether a value is such a wait
abbrev pub is_next_value : List ℕ → ValueTree → Bool
is_next_value w (Computed e) = false
is_next_value w (Waited x) = is_next_wait w x

-- whether an action waits for a result of a group
abbrev pub is_next : List ℕ → ActionTree → Bool
is_next w (Let n v) = is_next_value w v
is_next w (LetTask n m) = false
is_next w (Assign n v) = is_next_value w v
is_next w (Await x) = is_next_wait w x
is_next w (Makes m) = false
is_next w (Adds a) = false
is_next w (Cancel n) = false
is_next w (Return e) = false
is_next w (Throw e) = false
is_next w Check = false
is_next w Yield = false

-- whether an action adds a child to a group
abbrev pub is_add : List ℕ → ActionTree → Bool
is_add w (Let n v) = false
is_add w (LetTask n m) = false
is_add w (Assign n v) = false
is_add w (Await x) = false
is_add w (Makes m) = false
is_add w (Adds a) = bytes_eq a.group w
is_add w (Cancel n) = false
is_add w (Return e) = false
is_add w (Throw e) = false
is_add w Check = false
is_add w Yield = false

abbrev mutual
  -- whether a block waits for a result of a group
  pub has_next : BlockTree → List ℕ → Bool
  has_next nothing w = false
  has_next (first_then s b) w = has_next_at s w || has_next b w

  -- whether a statement does, or one in it
  pub has_next_at : StmtTree → List ℕ → Bool
  has_next_at (Do a) w = is_next w a
  has_next_at (Headed h b) w = has_next b w
  has_next_at (IfElse e a b) w = has_next a w || has_next b w

-- how many children are left for waits, after an action before which there were so many
abbrev pub left_after : List ℕ → ActionTree → ℕ → ℕ
left_after w a k = pick (is_add w a) (one_more k) (pick (is_next w a) (k - 1) k)

-- whether a statement waits for a child that may not be left, where so many are
abbrev pub lacks : List ℕ → StmtTree → ℕ → Bool
lacks w (Do a) k = (k == 0) && is_next w a
lacks w (Headed h b) k = has_next b w
lacks w (IfElse e a b) k = has_next a w || has_next b w

-- how many are left after a statement
abbrev pub left_behind : List ℕ → StmtTree → ℕ → ℕ
left_behind w (Do a) k = left_after w a k
left_behind w (Headed h b) k = k
left_behind w (IfElse e a b) k = k

-- Each wait for a result of a group stands in its own block, with a child before it that no other wait has; where so many are left.
abbrev pub has_children : BlockTree → List ℕ → ℕ → Bool
has_children nothing w k = true
has_children (first_then s b) w k = not (lacks w s k) && has_children b w (left_behind w s k)

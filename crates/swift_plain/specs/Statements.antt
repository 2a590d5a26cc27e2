-- Statements and blocks. (Own.)
use Rattle.std.specs.Prelude.{◌&&◌, ◌++◌, ℕ, Bool, true, false, List, [], codes, bytes_eq}
use Rattle.std.specs.Fmt.{signed_decimal}
use Rattle.script_grammar.specs.Tree.{ExprTree, Number, Named, Local, OwnPriority, IsCancelled, Negated, Inverted, Both, WaitTree, ValueTree, Computed, Waited, ActionTree, Let, LetTask, Assign, Await, Makes, Adds, Cancel, Return, Throw, Check, Yield, HeadTree, If, While, Bind, Group, Assume, StmtTree, Do, Headed, IfElse, BlockTree, nothing, first_then}
use Rattle.plain_parts.specs.Expressions.{as_test, expr_bytes}
use Rattle.plain_parts.specs.Flow.{Set, call_of, has, is_nothing}
use Rattle.plain_parts.specs.Pages.{deeper, indent, line_text}
use Rattle.swift_plain.specs.Calls.{add_text, after_arguments, either, is_number, number_text, task_text, wait_text}
use Rattle.swift_plain.specs.Places.{PlaceTree, value_name}
use Rattle.swift_plain.specs.Signatures.{group_throws}

-- the word before a variable that is made: `var` where it is set in what follows
abbrev pub new_word : BlockTree → List ℕ → List ℕ
new_word b w = either (has b (Set w)) (codes "var ") (codes "let ")

-- a value
abbrev pub value_text : PlaceTree → ValueTree → List ℕ
value_text p (Computed e) = number_text p.decls e
value_text p (Waited w) = wait_text p w

-- what a name is set to, and the end of the line
abbrev pub set_text : PlaceTree → ValueTree → List ℕ
set_text p v = codes " = " ++ (value_text p v ++ codes "\n")

-- a wait whose number is let go
abbrev pub unused_text : PlaceTree → ℕ → WaitTree → List ℕ
unused_text p d w = indent d ++ (either (is_number p w.for) (codes "_ = ") [] ++ (wait_text p w ++ codes "\n"))

-- a group is cancelled with all in it
abbrev pub cancelling : PlaceTree → List ℕ → List ℕ
cancelling p w = either (bytes_eq w p.group) (codes ".cancelAll()\n") (codes ".cancel()\n")

-- a task or a group that is cancelled
abbrev pub cancel_text : PlaceTree → ℕ → List ℕ → List ℕ
cancel_text p d w = indent d ++ (value_name p w ++ cancelling p w)

-- the number of an error
abbrev pub thrown_text : ExprTree → List ℕ
thrown_text (Number n) = signed_decimal n
thrown_text (Named w) = []
thrown_text (Local w) = []
thrown_text OwnPriority = []
thrown_text IsCancelled = []
thrown_text (Negated a) = []
thrown_text (Inverted a) = []
thrown_text (Both o a b) = []

-- an error that is thrown: its case is the number
unfoldable pub throw_text : ℕ → ExprTree → List ℕ
throw_text d e = indent d ++ (codes "throw Failure.code" ++ (thrown_text e ++ codes "\n"))

-- a number that is returned
abbrev pub return_text : PlaceTree → ℕ → ExprTree → List ℕ
return_text p d e = indent d ++ (codes "return " ++ (number_text p.decls e ++ codes "\n"))

-- a variable that is made
abbrev pub let_text : PlaceTree → ℕ → BlockTree → List ℕ → ValueTree → List ℕ
let_text p d b w v = indent d ++ (new_word b w ++ (value_name p w ++ set_text p v))

-- a variable or a field that is set
abbrev pub assign_text : PlaceTree → ℕ → List ℕ → ValueTree → List ℕ
assign_text p d w v = indent d ++ (value_name p w ++ set_text p v)

-- an action, before the statements that follow it
abbrev pub action_text : PlaceTree → ℕ → ActionTree → BlockTree → ℕ → List ℕ
action_text p d (Let w v) b g = let_text p d b w v
action_text p d (LetTask w m) b g = task_text p d w m g
action_text p d (Assign w v) b g = assign_text p d w v
action_text p d (Await w) b g = unused_text p d w
action_text p d (Makes m) b g = []
action_text p d (Adds a) b g = add_text p d a g
action_text p d (Cancel w) b g = cancel_text p d w
action_text p d (Return e) b g = return_text p d e
action_text p d (Throw e) b g = throw_text d e
action_text p d Check b g = line_text d (codes "try Task.checkCancellation()")
action_text p d Yield b g = line_text d (codes "await Task.yield()")

-- the number of the last name that was given, after those of an action
abbrev pub after_action : PlaceTree → ActionTree → ℕ → ℕ
after_action p (Let w v) g = g
after_action p (LetTask w m) g = after_arguments p (call_of m).args g
after_action p (Assign w v) g = g
after_action p (Await w) g = g
after_action p (Makes m) g = g
after_action p (Adds a) g = after_arguments p a.call.args g
after_action p (Cancel w) g = g
after_action p (Return e) g = g
after_action p (Throw e) g = g
after_action p Check g = g
after_action p Yield g = g

-- the same after a statement: the names in its blocks are theirs
abbrev pub after_stmt : PlaceTree → StmtTree → ℕ → ℕ
after_stmt p (Do a) g = after_action p a g
after_stmt p (Headed h b) g = g
after_stmt p (IfElse e a b) g = g

-- a test behind a word, and the brace behind it
abbrev pub tested_text : PlaceTree → List ℕ → ExprTree → List ℕ
tested_text p w e = w ++ (expr_bytes (value_name p) (as_test e) 5 ++ codes " {\n")

-- the word of a group
unfoldable pub group_word : Bool → List ℕ
group_word t = either t (codes "try await withThrowingTaskGroup(of: Int.self) { ") (codes "await withTaskGroup(of: Int.self) { ")

-- the line before the block of a group
unfoldable pub group_text : PlaceTree → List ℕ → Bool → List ℕ
group_text p w t = group_word t ++ (value_name p w ++ codes " in\n")

-- what stands before a block, up to its brace; a task local or an assumption has no plain Swift
abbrev pub head_text : PlaceTree → HeadTree → Bool → List ℕ
head_text p (If e) t = tested_text p (codes "if ") e
head_text p (While e) t = tested_text p (codes "while ") e
head_text p (Bind w e) t = []
head_text p (Group w) t = group_text p w t
head_text p (Assume w) t = []

-- what a statement inside of a block stands in
abbrev pub inside : PlaceTree → HeadTree → Bool → PlaceTree
inside p (If e) t = p
inside p (While e) t = p
inside p (Bind w e) t = p
inside p (Group w) t = record { decls = p.decls; throwers = p.throwers; params = p.params; body = p.body; group = w; group_throws = t }
inside p (Assume w) t = p

-- whether a block is one that a test stands before
abbrev pub is_if : HeadTree → Bool
is_if (If e) = true
is_if (While e) = false
is_if (Bind w e) = false
is_if (Group w) = false
is_if (Assume w) = false

-- whether a statement is a choice
abbrev pub is_choice : StmtTree → Bool
is_choice (Do a) = false
is_choice (Headed h b) = is_if h
is_choice (IfElse e a b) = true

abbrev mutual
  -- statements, one after the other
  pub block_text : BlockTree → PlaceTree → ℕ → ℕ → List ℕ
  block_text nothing p d g = []
  block_text (first_then s b) p d g = stmt_text s p d b g ++ block_text b p d (after_stmt p s g)

  -- a statement, before those that follow it
  pub stmt_text : StmtTree → PlaceTree → ℕ → BlockTree → ℕ → List ℕ
  stmt_text (Do a) p d rest g = action_text p d a rest g
  stmt_text (Headed h b) p d rest g = indent d ++ (head_text p h (group_throws b p.throwers p.body) ++ (block_text b (inside p h (group_throws b p.throwers p.body)) (deeper d) g ++ line_text d (codes "}")))
  stmt_text (IfElse e a b) p d rest g = indent d ++ (tested_text p (codes "if ") e ++ (block_text a p (deeper d) g ++ (indent d ++ (codes "} else " ++ else_text b p d g))))

  -- a choice, whose line has begun
  pub choice_text : StmtTree → PlaceTree → ℕ → ℕ → List ℕ
  choice_text (Do a) p d g = []
  choice_text (Headed h b) p d g = head_text p h false ++ (block_text b p (deeper d) g ++ line_text d (codes "}"))
  choice_text (IfElse e a b) p d g = tested_text p (codes "if ") e ++ (block_text a p (deeper d) g ++ (indent d ++ (codes "} else " ++ else_text b p d g)))

  -- what is done where a test fails: a choice alone goes on on the line
  pub else_text : BlockTree → PlaceTree → ℕ → ℕ → List ℕ
  else_text nothing p d g = codes "{\n" ++ line_text d (codes "}")
  else_text (first_then s b) p d g = either (is_nothing b && is_choice s) (choice_text s p d g) (codes "{\n" ++ (stmt_text s p (deeper d) b g ++ (block_text b p (deeper d) (after_stmt p s g) ++ line_text d (codes "}"))))

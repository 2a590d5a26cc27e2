-- Reading statements without a block: the parser's own way.
use Rattle.std.specs.Prelude.{ℕ, ◌-◌, Bool, true, false, Option, Some, None, List, [], ◌∷◌, Result, Ok, Err}
use Rattle.script_parser.specs.declared.fault.Kind.TheVariants.{Unexpected, EndsEarly}
use Rattle.script_parser.specs.declared.fault.ParseFault.{ParseFault}
use Rattle.swift_types.specs.declared.priority.Priority.{Priority}
use Rattle.script_tokens.specs.declared.keyword.Keyword.{Keyword}
use Rattle.script_tokens.specs.declared.keyword.Keyword.TheVariants as key
use Rattle.script_tokens.specs.declared.mark.Mark.TheVariants as mark
use Rattle.script_tokens.specs.Pieces.{TokenView, Name, Key}
use Rattle.script_grammar.specs.declared.region.Atoms.TheVariants.{Every}
use Rattle.script_grammar.specs.declared.region.Region.{Region}
use Rattle.script_grammar.specs.Tree.{ExprTree, CallTree, AwaitedTree, Called, TaskOf, NextOf, WaitTree, ValueTree, Computed, Waited, MakeTree, Spawned, Detached, AddTree, ActionTree, Let, LetTask, Assign, Await, Makes, Adds, Cancel, Return, Throw, Check, Yield}
use Rattle.script_grammar.specs.Grammar.{priority_of, or_medium, may_act, may_return}
use Rattle.script_parser.specs.Model.Steps.{at, ◌>>=◌, Reads, allowed_at}
use Rattle.script_parser.specs.Model.Parts.{name_at, sign_at, list_at}
use Rattle.script_parser.specs.Model.Expressions.{expr_in}

-- a call, in whose parenthesis one fewer may be opened
unfoldable pub call_at : ℕ → Reads CallTree
call_at limit ts = do
  a ← name_at ts
  d ← sign_at mark.Dot a.1
  m ← name_at d
  o ← sign_at mark.Open m.1
  args ← list_at (expr_in Every limit (limit - 1)) o
  Ok (record { actor = a.0; method = m.0; args = args.0 }, args.1)

-- what can be waited for
unfoldable pub awaited_at : ℕ → Reads AwaitedTree
awaited_at limit (Key key.Task ∷ ts) = do
  n ← name_at ts
  Ok (TaskOf n.0, n.1)
awaited_at limit (Key key.Next ∷ ts) = do
  n ← name_at ts
  Ok (NextOf n.0, n.1)
awaited_at limit ts = do
  c ← call_at limit ts
  Ok (Called c.0, c.1)

-- an `else` with its value, if one stands there
unfoldable pub else_at : ℕ → Reads (Option ExprTree)
else_at limit (Key key.Else ∷ ts) = do
  e ← expr_in Every limit limit ts
  Ok (Some e.0, e.1)
else_at limit ts = Ok (None, ts)

-- what is waited for, after its keyword
unfoldable pub wait_at : ℕ → Reads WaitTree
wait_at limit ts = do
  a ← awaited_at limit ts
  e ← else_at limit a.1
  Ok (record { for = a.0; other = e.0 }, e.1)

-- the priority, if the keyword named one
abbrev pub chosen_priority : Keyword → Option Priority → Reads Priority
chosen_priority k None ts = Err (at Unexpected (Key k ∷ ts))
chosen_priority k (Some p) ts = Ok (p, ts)

-- the priority that a keyword names
unfoldable pub level_named_at : Reads Priority
level_named_at [] = Err (at EndsEarly [])
level_named_at (Key k ∷ ts) = chosen_priority k (priority_of k) ts
level_named_at (found ∷ ts) = Err (at Unexpected (found ∷ ts))

-- a priority after `at`, if one stands there
unfoldable pub given_at : Reads (Option Priority)
given_at (Key key.At ∷ ts) = do
  p ← level_named_at ts
  Ok (Some p.0, p.1)
given_at ts = Ok (None, ts)

-- a task that is made
unfoldable pub make_at : ℕ → Reads MakeTree
make_at limit [] = Err (at EndsEarly [])
make_at limit (Key key.Spawn ∷ ts) = do
  c ← call_at limit ts
  p ← given_at c.1
  Ok (Spawned c.0 p.0, p.1)
make_at limit (Key key.Detach ∷ ts) = do
  c ← call_at limit ts
  p ← given_at c.1
  Ok (Detached c.0 (or_medium p.0), p.1)
make_at limit (found ∷ ts) = Err (at Unexpected (found ∷ ts))

-- whether an `unless` stands there, and what is after it
unfoldable pub unless_at : List TokenView → Bool × List TokenView
unless_at (Key key.Unless ∷ ts) = (true, ts)
unless_at ts = (false, ts)

-- a child of the group, after its name and perhaps an `unless`
unfoldable pub child_at : ℕ → List ℕ → Bool × List TokenView → Result (AddTree × List TokenView) ParseFault
child_at limit g u = do
  c ← call_at limit u.1
  p ← given_at c.1
  Ok (record { group = g; unless = u.0; call = c.0; priority = p.0 }, p.1)

-- a child of a group, after its keyword
unfoldable pub add_at : ℕ → Reads AddTree
add_at limit ts = do
  g ← name_at ts
  child_at limit g.0 (unless_at g.1)

-- whether a statement or a value may begin so in a region
unfoldable pub may_begin : Region → List TokenView → Bool
may_begin r (Key key.Add ∷ ts) = may_act r
may_begin r (Key key.Await ∷ ts) = may_act r
may_begin r (Key key.Bind ∷ ts) = may_act r
may_begin r (Key key.Cancel ∷ ts) = may_act r
may_begin r (Key key.Detach ∷ ts) = may_act r
may_begin r (Key key.Group ∷ ts) = may_act r
may_begin r (Key key.Return ∷ ts) = may_return r
may_begin r (Key key.Spawn ∷ ts) = may_act r
may_begin r (Key key.Yield ∷ ts) = may_act r
may_begin r ts = true

-- the tokens, where a statement or a value may begin so
unfoldable pub begun_at : Region → List TokenView → Result (List TokenView) ParseFault
begun_at r ts = allowed_at (may_begin r ts) ts

-- what a variable or a field is set to
unfoldable pub value_at : ℕ → Reads ValueTree
value_at limit (Key key.Await ∷ ts) = do
  w ← wait_at limit ts
  Ok (Waited w.0, w.1)
value_at limit ts = do
  e ← expr_in Every limit limit ts
  Ok (Computed e.0, e.1)

-- a variable of this name, after the `=`
unfoldable pub variable_at : ℕ → List ℕ → Reads ActionTree
variable_at limit n (Key key.Detach ∷ ts) = do
  m ← make_at limit (Key key.Detach ∷ ts)
  Ok (LetTask n m.0, m.1)
variable_at limit n (Key key.Spawn ∷ ts) = do
  m ← make_at limit (Key key.Spawn ∷ ts)
  Ok (LetTask n m.0, m.1)
variable_at limit n ts = do
  v ← value_at limit ts
  Ok (Let n v.0, v.1)

-- a `let` after its keyword
unfoldable pub let_at : ℕ → Region → Reads ActionTree
let_at limit r ts = do
  n ← name_at ts
  a ← sign_at mark.Assign n.1
  b ← begun_at r a
  variable_at limit n.0 b

-- an assignment after its name
unfoldable pub assign_at : ℕ → Region → List ℕ → Reads ActionTree
assign_at limit r n ts = do
  a ← sign_at mark.Assign ts
  b ← begun_at r a
  v ← value_at limit b
  Ok (Assign n v.0, v.1)

-- a statement without a block, up to its semicolon
unfoldable pub part_at : ℕ → Region → Reads ActionTree
part_at limit r [] = Err (at EndsEarly [])
part_at limit r (Name n ∷ ts) = assign_at limit r n ts
part_at limit r (Key key.Let ∷ ts) = let_at limit r ts
part_at limit r (Key key.Await ∷ ts) = do
  w ← wait_at limit ts
  Ok (Await w.0, w.1)
part_at limit r (Key key.Detach ∷ ts) = do
  m ← make_at limit (Key key.Detach ∷ ts)
  Ok (Makes m.0, m.1)
part_at limit r (Key key.Spawn ∷ ts) = do
  m ← make_at limit (Key key.Spawn ∷ ts)
  Ok (Makes m.0, m.1)
part_at limit r (Key key.Add ∷ ts) = do
  a ← add_at limit ts
  Ok (Adds a.0, a.1)
part_at limit r (Key key.Cancel ∷ ts) = do
  n ← name_at ts
  Ok (Cancel n.0, n.1)
part_at limit r (Key key.Return ∷ ts) = do
  e ← expr_in Every limit limit ts
  Ok (Return e.0, e.1)
part_at limit r (Key key.Throw ∷ ts) = do
  e ← expr_in Every limit limit ts
  Ok (Throw e.0, e.1)
part_at limit r (Key key.Check ∷ ts) = Ok (Check, ts)
part_at limit r (Key key.Yield ∷ ts) = Ok (Yield, ts)
part_at limit r (found ∷ ts) = Err (at Unexpected (found ∷ ts))

-- a statement without a block
unfoldable pub action_at : ℕ → Region → Reads ActionTree
action_at limit r ts = do
  b ← begun_at r ts
  a ← part_at limit r b
  s ← sign_at mark.Semicolon a.1
  Ok (a.0, s)

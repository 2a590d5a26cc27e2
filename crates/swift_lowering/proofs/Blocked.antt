-- What statements with a block put, from what they call.
use Rattle.std.proofs.Common.{Option, ◌≡◌, ◌<◌, ◌≤◌, ◌+◌, ◌-◌, ℕ, Bool, true, false, None, Some, length, IsTrue, arith, refl, ap, subst, ◌∙◌, ◌⊎◌, inl, inr}
use Rattle.std.proofs.lemmas.List.{length-take}
use Rattle.swift_syntax.specs.declared.tree.Stmt.{Stmt}
use Rattle.swift_syntax.specs.declared.tree.StmtForm.TheVariants as form
use Rattle.swift_syntax.specs.declared.tree.TaskForm.{TaskForm}
use Rattle.swift_syntax.specs.declared.tree.ValueType.{ValueType}
use Rattle.swift_types.specs.declared.priority.Priority.{Priority}
use Rattle.swift_syntax.specs.Expressions.{after}
use Rattle.swift_types.specs.declared.operator.Operator.{Operator}
use Rattle.swift_types.specs.declared.operator.Operator.TheVariants as operators
use Rattle.swift_expressions.specs.Lowered.{Lowers, counted, used}
use Rattle.swift_expressions.specs.States.{Binds, Gives, IsDeclared, State, left_to, named, next_variable, put, stmt_at, value_in, with_done, with_temporary}
use Rattle.swift_expressions.specs.declared.code.Callee.{Callee}
use Rattle.swift_expressions.specs.declared.code.Instruction.TheVariants as instruction
use Rattle.swift_expressions.specs.declared.code.Kind.{Kind}
use Rattle.swift_expressions.specs.declared.code.Kind.TheVariants as kinds
use Rattle.swift_expressions.specs.declared.code.Value.TheVariants as value
use Rattle.swift_expressions.specs.declared.scope.Binding.{Binding}
use Rattle.swift_expressions.specs.declared.scope.Standing.TheVariants as standings
use Rattle.swift_expressions.specs.declared.typed.Typed.{Typed}
use Rattle.swift_expressions.proofs.Stepped.{given_as}
use Rattle.swift_lowering.specs.Blocks as blocks
use Rattle.swift_lowering.specs.Blocks.{AddsTask, AttemptsBlock, BeginsChild, Counts, CountsOn, Does, DoesAll, DoesBlock, DoesElse, EndsChild, Fixes, IsGroupAt, IsNext, IsUrgency, LoopsOver, MakesTask, NamesCounter, Renames, Repeats, StartsChild, TakesResults, Tests, are_in_order, child_begun, child_count, close_while, counted_in, done_where, ends_group, in_groups, open_guard, open_results, open_while, range_test, rest_where, trapped_unless, with_child_count, with_while}
use Rattle.swift_lowering.specs.Returning.{has_rest, may_return}

-- what is put from one state is from another one that is the same
pub tests_from : {s r t : State} {place v : ℕ} → r ≡ s → Tests r place t v → Tests s place t v
tests_from {t = t} {place} {v} e h = subst (λ x. Tests x place t v) e h

pub block_from : {s r t : State} {first : ℕ} → r ≡ s → DoesBlock r first t → DoesBlock s first t
block_from {t = t} {first} e h = subst (λ x. DoesBlock x first t) e h

pub repeats_from : {s r t : State} {first : ℕ} → r ≡ s → Repeats r first t → Repeats s first t
repeats_from {t = t} {first} e h = subst (λ x. Repeats x first t) e h

pub fixes_from : {s r t : State} {given found : Typed} → r ≡ s → Fixes r given t found → Fixes s given t found
fixes_from {t = t} {given} {found} e h = subst (λ x. Fixes x given t found) e h

-- a variable gets a name, unless it has one
pub renamed_by : {s t : State} {variable name : ℕ} → (is : Bool) → (IsTrue is → (duplicate : ℕ) × (t ≡ named variable name duplicate s)) → (is ≡ false → t ≡ s) → Renames s variable name t
renamed_by true named_so stays = let d = named_so refl in blocks.renamed d.0 d.1
renamed_by false named_so stays = blocks.as_it_was (stays refl)

-- an `else`
pub other_does : {s r t : State} {first : ℕ} → r ≡ put instruction.Else s → DoesBlock r first t → DoesElse s first t
other_does e h = blocks.other (block_from e h)

-- `if`
pub conditional_does : {s t r u v w : State} {stmt : Stmt} {test held failed value : ℕ} → stmt.form ≡ form.If test held failed → Tests s test t value → r ≡ put (instruction.If value) t → DoesBlock r held u → DoesElse u failed v → w ≡ put instruction.End v → Does s stmt w
conditional_does e h r b o w = blocks.conditional e h (block_from r b) o w

-- `guard`
pub guarded_does : {s q t r u v : State} {stmt : Stmt} {test body value : ℕ} → stmt.form ≡ form.Guard test body → q ≡ s → Tests q test t value → r ≡ open_guard value t → DoesBlock r body u → v ≡ put instruction.End u → Does s stmt v
guarded_does e q h r b v = blocks.guarded e (tests_from q h) (block_from r b) v

-- `while` a value
pub while_value_does : {s t r u v : State} {stmt : Stmt} {test body value : ℕ} → stmt.form ≡ form.While test body → Tests s test t value → length t.instructions ≡ length s.instructions → r ≡ put (instruction.While value) t → Repeats r body u → v ≡ put instruction.End u → Does s stmt v
while_value_does e h n r b v = blocks.while_value e h n (repeats_from r b) v

-- `while` with a test that does something
pub while_again_does : {s t r u q v w : State} {stmt : Stmt} {test body value variable again : ℕ} {before after : Bool} → stmt.form ≡ form.While test body → Tests s test t value → r ≡ open_while value t → variable ≡ next_variable t → Repeats r body u → before ≡ may_return u body → q ≡ rest_where before u → Tests q test v again → after ≡ may_return v body → w ≡ close_while variable again after v → Does s stmt w
while_again_does {t = t} {u = u} {v = v} {w} {body = body} {variable = variable} {again} {before} {after} e h r is b m q g n c =
    blocks.while_again e h (repeats_from r b) (tests_from (q ∙ ap (λ x. rest_where x u) m) g)
    (c ∙ ap (λ x. close_while variable again x v) n ∙ ap (λ x. close_while x again (may_return v body) v) is)

-- the body of a loop
pub repeats_by : {s r t : State} {first : ℕ} {may : Bool} → may ≡ may_return s first → r ≡ done_where may s → DoesBlock r first t → Repeats s first t
repeats_by {s} is e b = blocks.loop_body (block_from (e ∙ ap (λ x. done_where x s) is) b)

-- the head of a `for`
pub counts_by : {s a a1 a2 b c c1 d e f t : State} {from to counter : ℕ} {is_closed known : Bool} {operator : Operator} {first last end here : Typed} → Lowers s from a first → a1 ≡ a → counter ≡ next_variable a1 → a2 ≡ with_temporary a1 → b ≡ put (instruction.Let counter first.value) a2 → Lowers b to c last → c1 ≡ c → Fixes c1 last d end → Gives d (value.Variable counter) kinds.Int e here → known ≡ are_in_order (value_in e first.value) (value_in e end.value) → f ≡ trapped_unless known here.value end.value e → operator ≡ range_test is_closed → t ≡ with_while (value.Binary operator here.value end.value) f → Counts s from to is_closed counter t
counts_by {a = a} {a2 = a2} {b} {d = d} {e = e} {f} {t} {counter = counter} {is_closed = is_closed} {known} {first} {end = end} {here} h same is temporary begins i kept fixes gives knows traps by loops =
    let var : counter ≡ next_variable a = is ∙ ap next_variable same in
    blocks.counts h (begins ∙ ap (put (instruction.Let counter first.value)) (temporary ∙ ap with_temporary same) ∙ ap (λ x. put (instruction.Let x first.value) (with_temporary a)) var) i (fixes_from kept fixes) (given_as (ap value.Variable var) gives)
    (loops ∙ ap (λ o. with_while (value.Binary o here.value end.value) f) by ∙ ap (with_while (value.Binary (range_test is_closed) here.value end.value)) (traps ∙ ap (λ x. trapped_unless x here.value end.value e) knows)) var

-- no statement was done so far
pub all_begun : {n : ℕ} {s t : State} {p : ℕ} → DoesAll (n - 0) s p t → DoesAll n s p t
all_begun {n} {s} {t} {p} h = let z : n - 0 ≡ n = omega arith in subst (λ m. DoesAll m s p t) z h

-- one statement more
pub all_on : {n i : ℕ} {s t w : State} {p : ℕ} {stmt : Stmt} → i < n → stmt_at s p ≡ Some stmt → Does s stmt t → has_rest t stmt ≡ false → DoesAll (n - (i + 1)) t stmt.next w → DoesAll (n - i) s p w
all_on {n} {i} lt there h fails rest = blocks.one_more (omega arith) there h fails rest

-- no statement is looked at any more
pub all_spent : {n i : ℕ} {s : State} {p : ℕ} → n ≤ i → DoesAll (n - i) s p s
all_spent {n} {i} {s} {p} le = let e : 0 ≡ n - i = omega arith in subst (λ m. DoesAll m s p s) e blocks.spent

-- what follows is done unless the unit has returned
pub all_unless : {n : ℕ} {s t q u v w : State} {p : ℕ} {stmt : Stmt} → stmt_at s p ≡ Some stmt → Does s stmt t → has_rest t stmt ≡ true → q ≡ with_done t → u ≡ put instruction.Rest q → DoesAll (length u.tree.stmts.items) u stmt.next v → w ≡ put instruction.End v → DoesAll n s p w
all_unless there h holds q u rest w = blocks.unless_returned there h holds (u ∙ ap (put instruction.Rest) q) rest w

-- what is done for each number of a range
pub count_on_by : {s t u r q v : State} {name counter body start : ℕ} → NamesCounter s name counter t → Repeats t body u → r ≡ counted operators.Plus counter u → q ≡ put instruction.End r → v ≡ left_to start q → start ≡ length s.scope → CountsOn s name counter body v
count_on_by {u = u} {counter = counter} {start = start} n b r e l is = blocks.count_on n b (l ∙ ap (left_to start) (e ∙ ap (put instruction.End) r) ∙ ap (λ x. left_to x (put instruction.End (counted operators.Plus counter u))) is)

-- what is done for each result of a group
pub loop_over_by : {s t u q v : State} {group name body start : ℕ} → TakesResults s group name t → Repeats t body u → q ≡ put instruction.End u → v ≡ left_to start q → start ≡ length s.scope → LoopsOver s group name body v
loop_over_by {u = u} {start = start} n b e l is = blocks.loop_over n b (l ∙ ap (left_to start) e ∙ ap (λ x. left_to x (put instruction.End u)) is)

-- the next result of a group
pub next_from : {s r t : State} {b : Binding} {name : ℕ} → r ≡ s → IsNext r b name t → IsNext s b name t
next_from {t = t} {b} {name} e h = subst (λ x. IsNext x b name t) e h

-- a loop over the results of a group begins
pub results_opened : (b : Binding) (place : ℕ) {s r q p : State} → r ≡ s → q ≡ used place r → p ≡ open_results b q → p ≡ open_results b (used place s)
results_opened b place e u o = o ∙ ap (open_results b) (u ∙ ap (used place) e)

-- a loop over the results of a group, in each of its forms
pub results_do : {s t : State} {stmt : Stmt} {group body : ℕ} {is_tried : Bool} → (stmt.form ≡ form.ForAwait group is_tried body) ⊎ (stmt.form ≡ form.WhileNext group is_tried body) → LoopsOver s group stmt.token body t → Does s stmt t
results_do (inl e) h = blocks.for_results e h
results_do (inr e) h = blocks.while_results e h

-- the results of a group, each with a name
pub results_named : {s p u t : State} (place : ℕ) {b : Binding} {group name variable : ℕ} → IsGroupAt s group place b → p ≡ open_results b (used place s) → variable ≡ next_variable p → IsNext p b name u → Binds u name standings.Constant variable b.kind variable t → TakesResults s group name t
results_named {s} {u = u} {t} place {b} {name = name} {variable} at opened is next binds =
    let var : variable ≡ next_variable s = is ∙ ap next_variable opened in
    blocks.with_name place at (next_from opened next) (subst (λ x. Binds u name standings.Constant x b.kind x t) var binds)

-- the group of an `async let` begins
pub child_begins : (callee : Callee) (kind : Kind) {s u a b c v : State} {token variable count groups : ℕ} {early is : Bool} → early ≡ is → IsDeclared s token false u → variable ≡ next_variable s → a ≡ with_child_count early u → count ≡ child_count early variable u → b ≡ put (instruction.Group variable) a → c ≡ put (instruction.Add variable false callee None) b → Binds c token standings.Child variable kind count v → groups ≡ after v.groups → BeginsChild s token is callee variable count (in_groups groups v)
child_begins callee kind {s} {u} {v = v} {token} {variable} {count} {groups} e d at a n b c binds g = subst (λ x. BeginsChild s token x callee variable count (in_groups groups v)) e (record {
  u = u;
  v = v;
  kind = kind;
  declared = d;
  is = at;
  counts = n;
  binds = subst (λ x. Binds x token standings.Child variable kind count v) (c ∙ ap (put (instruction.Add variable false callee None)) (b ∙ ap (put (instruction.Group variable)) a)) binds;
  state = ap (λ x. in_groups x v) g;
})

-- and ends
pub child_ended : (yields : Bool) {s b q r : State} {variable count groups : ℕ} → b ≡ child_begun yields variable count s → q ≡ put (instruction.Cancel variable) b → r ≡ put instruction.End q → groups ≡ r.groups - 1 → EndsChild s variable count (in_groups groups r)
child_ended yields {r = r} {variable = variable} b q e g = record { yields = yields; state = ap (λ x. in_groups x r) g ∙ ap ends_group (e ∙ ap (put instruction.End) (q ∙ ap (put (instruction.Cancel variable)) b)) }

-- an `async let`, and what follows it
pub all_in_child : {n : ℕ} {s u v w : State} {p : ℕ} {stmt : Stmt} {wanted : Option ValueType} {given variable count : ℕ} → stmt_at s p ≡ Some stmt → stmt.form ≡ form.AsyncLet wanted given → StartsChild s stmt given variable count u → DoesAll (length u.tree.stmts.items) u stmt.next v → EndsChild v variable count w → DoesAll n s p w
all_in_child there is begins rest ends = blocks.child there is begins rest ends

-- a task begins
pub task_made : (callee : Callee) (priority : Option Priority) (kind : Kind) {s r u v t : State} {name variable : ℕ} {what : TaskForm} → r ≡ s → IsDeclared r name false u → variable ≡ next_variable r → IsUrgency u what.priority priority → v ≡ put (instruction.Make variable what.is_detached callee priority) u → Binds v name standings.Task variable kind variable t → MakesTask s name what callee t
task_made callee priority kind {r = r} {u} {v} {t} {name} {variable} {what} e d is urgent p b =
    let begins : v ≡ put (instruction.Make (next_variable r) what.is_detached callee priority) u = p ∙ ap (λ x. put (instruction.Make x what.is_detached callee priority) u) is in
    subst (λ x. MakesTask x name what callee t) e (record {
      u = u;
      priority = priority;
      kind = kind;
      declared = d;
      urgent = urgent;
      binds = subst (λ x. Binds x name standings.Task (next_variable r) kind (next_variable r) t) begins (subst (λ x. Binds v name standings.Task x kind x t) is b);
    })

-- a child of a group begins
pub task_added : (callee : Callee) (place : ℕ) (b : Binding) {s r u t : State} {token : ℕ} {is_only : Bool} → IsGroupAt s token place b → r ≡ s → u ≡ put (instruction.Add b.variable is_only callee None) r → t ≡ counted_in is_only place b u → AddsTask s token is_only callee t
task_added callee place b {s} {is_only = is_only} at e p n = record { place = place; b = b; there = at; state = n ∙ ap (counted_in is_only place b) (p ∙ ap (put (instruction.Add b.variable is_only callee None)) e) }

-- no name of a block is in scope behind it
pub names_end : {s t : State} {first : ℕ} → DoesBlock s first t → length t.scope ≤ length s.scope
names_end {s} (blocks.whole {t = u} d e) =
    let is = ap (λ (x : State). length x.scope) e ∙ length-take (length s.scope) u.scope in
    omega (arith, is)

pub names_of_do_end : {s t : State} {flag token first : ℕ} → AttemptsBlock s flag token first t → length t.scope ≤ length s.scope
names_of_do_end {s} (blocks.attempted {t = u} d e) =
    let is = ap (λ (x : State). length x.scope) e ∙ length-take (length s.scope) u.scope in
    omega (arith, is)

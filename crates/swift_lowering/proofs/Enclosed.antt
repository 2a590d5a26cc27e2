-- What closures, groups and `do` put, from what is called.
use Rattle.std.proofs.Common.{◌≡◌, ◌<◌, ◌≤◌, ◌+◌, ◌-◌, ℕ, Bool, true, false, None, Some, length, arith, refl, sym, ap, subst, ◌∙◌, slice_get}
use Rattle.swift_syntax.specs.declared.tree.Expr.{Expr}
use Rattle.swift_syntax.specs.declared.tree.ExprForm.TheVariants as expr
use Rattle.swift_syntax.specs.declared.tree.Into.{Into}
use Rattle.swift_syntax.specs.declared.tree.Receiver.{Receiver}
use Rattle.swift_syntax.specs.declared.tree.Stmt.{Stmt}
use Rattle.swift_syntax.specs.declared.tree.StmtForm.TheVariants as form
use Rattle.swift_syntax.specs.declared.tree.ValueType.{ValueType}
use Rattle.swift_expressions.specs.Scopes.{IsInnermost}
use Rattle.swift_expressions.specs.States.{Binds, IsBegun, IsDeclared, State, expr_at, form_at, left_to, next_variable, put, state_of, stmt_at}
use Rattle.swift_expressions.specs.Lowered.{Hands, Lowers, kind_in, no_operands}
use Rattle.swift_expressions.specs.declared.code.Callee.{Callee}
use Rattle.swift_expressions.specs.declared.code.Callee.TheVariants as callees
use Rattle.swift_expressions.specs.declared.code.Instruction.TheVariants as instruction
use Rattle.swift_expressions.specs.declared.code.Kind.{Kind}
use Rattle.swift_expressions.specs.declared.code.UnitKind.TheVariants as unit_kinds
use Rattle.swift_expressions.specs.declared.lowering.Lowering.{Lowering}
use Rattle.swift_expressions.specs.declared.lowering.Setting.{Setting}
use Rattle.swift_expressions.specs.declared.operands.Operands.{Operands}
use Rattle.swift_expressions.specs.declared.scope.Binding.{Binding}
use Rattle.swift_expressions.specs.declared.scope.Standing.TheVariants as standings
use Rattle.swift_expressions.specs.declared.typed.Typed.{Typed}
use Rattle.swift_lowering.specs.Blocks as blocks
use Rattle.swift_lowering.specs.Blocks.{AttemptsAll, AttemptsBlock, BeginsChild, Does, DoesAll, DoesBlock, DoesClosed, Encloses, Says, SaysClosed, StartsChild, end_where}
use Rattle.swift_lowering.specs.Catching.{Catches, GivesCaught, begin_at_zero, begin_or, caught_wait, is_lone_wait, open_caught, open_rest, with_flag}
use Rattle.swift_lowering.specs.Alone.{IsLone}
use Rattle.swift_lowering.specs.Closures as closures
use Rattle.swift_lowering.specs.Closures.{Captures, CapturesAll, HandsOver, IsCallee, IsDirect, IsGiven, IsOfChild, OpensClosure, Receives, handed, in_closure, is_value, uncovered, with_setting}
use Rattle.swift_lowering.specs.Groups.{BeginsBind, BeginsGroup, GivesClosed, entered, result_variable, with_result}
use Rattle.swift_lowering.specs.Returning.{has_rest, leaves_early}
use Rattle.swift_lowering.specs.Statements.{as_set, given_back}
use Rattle.swift_lowering.specs.Units.{BeginsUnit, actor_if, in_unit, method_if, unit_ended}
use Rattle.swift_lowering.specs.declared.closure.ClosureBody.{ClosureBody}
use Rattle.swift_lowering.proofs.Blocked.{block_from}

pub does_from : {s r t : State} {stmt : Stmt} → r ≡ s → Does r stmt t → Does s stmt t
does_from {t = t} {stmt} e h = subst (λ x. Does x stmt t) e h

-- a `do` of one statement, which waits
pub catches_one_by : {s t u v w : State} {stmt one : Stmt} {body instead place token : ℕ} {found : Typed} → stmt.form ≡ form.DoCatch body instead → stmt.token ≡ token → (one.next ≡ 0) × ((stmt_at s body ≡ Some one) × (caught_wait s one.form ≡ Some place)) → Catches s place token t found → DoesBlock t instead u → GivesCaught u one.token found v one.form → w ≡ put instruction.End v → Does s stmt w
catches_one_by {s} {t} {place = place} {found = found} e is one h b g w = blocks.catches_one e one.1.0 one.0 one.1.1 (subst (λ x. Catches s place x t found) (sym is) h) b g w

-- and of more
pub catches_several_by : {s r t q u v : State} {stmt : Stmt} {body instead flag token : ℕ} → stmt.form ≡ form.DoCatch body instead → stmt.token ≡ token → is_lone_wait s (stmt_at s body) ≡ false → r ≡ begin_at_zero s → flag ≡ next_variable s → AttemptsBlock r flag token body t → q ≡ open_caught flag t → DoesBlock q instead u → v ≡ put instruction.End u → Does s stmt v
catches_several_by {s} {r} {t} {stmt = stmt} {body} {flag = flag} {token} e is more begins at h o b v =
    blocks.catches_several e more
    (subst (λ x. AttemptsBlock (begin_at_zero s) (next_variable s) x body t) (sym is) (subst (λ x. AttemptsBlock (begin_at_zero s) x token body t) at (subst (λ x. AttemptsBlock x flag token body t) begins h)))
    (block_from (o ∙ ap (λ x. open_caught x t) at) b) v

-- no statement of a `do` so far
pub attempts_begun : {n : ℕ} {s t : State} {flag token p : ℕ} → AttemptsAll (n - 0) s flag token p t → AttemptsAll n s flag token p t
attempts_begun {n} {s} {t} {flag} {token} {p} h = let z : n - 0 ≡ n = omega arith in subst (λ m. AttemptsAll m s flag token p t) z h

-- one more
pub attempts_on : {n i : ℕ} {s r t w : State} {flag token p : ℕ} {stmt : Stmt} → i < n → stmt_at s p ≡ Some stmt → caught_wait s stmt.form ≡ None → r ≡ s → Does r stmt t → has_rest t stmt ≡ false → AttemptsAll (n - (i + 1)) t flag token stmt.next w → AttemptsAll (n - i) s flag token p w
attempts_on {n} {i} lt there not_caught e h fails rest = blocks.one_done (omega arith) there not_caught (does_from e h) fails rest

-- none is looked at any more
pub attempts_spent : {n i : ℕ} {s : State} {flag token p : ℕ} → n ≤ i → AttemptsAll (n - i) s flag token p s
attempts_spent {n} {i} {s} {flag} {token} {p} le = let e : 0 ≡ n - i = omega arith in subst (λ m. AttemptsAll m s flag token p s) e blocks.none_left

-- what follows is done unless the unit has returned
pub attempts_unless : {n : ℕ} {s r t u v w : State} {flag token p : ℕ} {stmt : Stmt} → stmt_at s p ≡ Some stmt → caught_wait s stmt.form ≡ None → r ≡ s → Does r stmt t → has_rest t stmt ≡ true → u ≡ open_rest true t → AttemptsAll (length u.tree.stmts.items) u flag token stmt.next v → w ≡ put instruction.End v → AttemptsAll n s flag token p w
attempts_unless there not_caught e h holds u rest w = blocks.rest_unless_returned there not_caught (does_from e h) holds u rest w

-- what follows is done unless a fault was caught
pub attempts_caught : {n : ℕ} {s t r u q v e w : State} {flag token p place : ℕ} {stmt : Stmt} {found : Typed} {early : Bool} → stmt_at s p ≡ Some stmt → caught_wait s stmt.form ≡ Some place → Catches s place token t found → r ≡ with_flag flag t → GivesCaught r stmt.token found u stmt.form → early ≡ has_rest u stmt → q ≡ open_rest early u → AttemptsAll (length q.tree.stmts.items) q flag token stmt.next v → e ≡ end_where early v → w ≡ put instruction.End e → AttemptsAll n s flag token p w
attempts_caught {u = u} {v = v} {stmt = stmt} {found} there waits h flagged g is q rest ends w =
    blocks.rest_unless_caught there waits h (subst (λ x. GivesCaught x stmt.token found u stmt.form) flagged g) (q ∙ ap (λ x. open_rest x u) is) rest (w ∙ ap (put instruction.End) (ends ∙ ap (λ x. end_where x v) is))

-- a closure becomes a unit
pub enclosed : (l : Lowering) {s t u w : State} {body : ClosureBody} {operand unit skip boundary : ℕ} {callee : Callee} {outer : Setting} → state_of l ≡ s → OpensClosure (state_of l) body operand t → unit ≡ length l.code.units.items → skip ≡ length l.code.instructions.items → (outer ≡ l.setting) × (boundary ≡ length l.scope.items) → Says t body u → w ≡ with_setting outer (left_to boundary (unit_ended unit skip (body.to - 1) u)) → callee ≡ callees.Unit unit operand → Encloses s body w callee
enclosed l {s} {t} {u} {w} {body} {operand} {unit} {skip} {boundary} {callee} {outer} e opens is at around says ends named =
    let ended : w ≡ as_set (state_of l) (left_to (length l.scope.items) (unit_ended (length l.code.units.items) (length l.code.instructions.items) (body.to - 1) u)) =
    ends ∙ ap (λ x. with_setting x (left_to boundary (unit_ended unit skip (body.to - 1) u))) around.0 ∙ ap (λ x. with_setting l.setting (left_to x (unit_ended unit skip (body.to - 1) u))) around.1 ∙ ap (λ x. with_setting l.setting (left_to (length l.scope.items) (unit_ended x skip (body.to - 1) u))) is ∙ ap (λ x. with_setting l.setting (left_to (length l.scope.items) (unit_ended (length l.code.units.items) x (body.to - 1) u))) at in
    subst (λ x. Encloses x body w callee) e (subst (λ x. Encloses (state_of l) body w x) (sym (named ∙ ap (λ x. callees.Unit x operand) is)) (blocks.as_unit opens says ended))

-- a child of an `async let`
pub child_started : {s r t q u : State} {stmt : Stmt} {given variable count : ℕ} {body : ClosureBody} {callee : Callee} → r ≡ s → IsOfChild stmt given body → Encloses r body t callee → q ≡ t → BeginsChild q stmt.token (leaves_early q stmt.next) callee variable count u → StartsChild s stmt given variable count u
child_started {t = t} {u = u} {stmt} {variable = variable} {count} {body} {callee} e is h same b =
    blocks.started is (subst (λ x. Encloses x body t callee) e h) (subst (λ x. BeginsChild x stmt.token (leaves_early x stmt.next) callee variable count u) same b)

-- what a closure says, where nothing more is put
pub says_all : {s u t : State} {body : ClosureBody} → body.value ≡ 0 → DoesAll (length s.tree.stmts.items) s body.first u → t ≡ u → Says s body t
says_all {s} {body = body} is h e = blocks.statements is (subst (λ x. DoesAll (length s.tree.stmts.items) s body.first x) (sym e) h)

-- a block says more than a value
pub more_than_one : {s : State} {first place : ℕ} → place ≡ 0 → IsLone s first place → IsLone s first 0
more_than_one {s} {first} e h = subst (λ x. IsLone s first x) e h

-- the block of a group or a binding
pub closed_by : {s r t : State} {first variable : ℕ} → (blocks : ℕ) × (r ≡ entered variable blocks s) → SaysClosed r first t → DoesClosed s first variable (as_set s t)
closed_by {t = t} {first} e h = blocks.closed e.0 (subst (λ x. SaysClosed x first t) e.1 h) refl

-- a group
pub groups_by : {s r t u v w x : State} {stmt : Stmt} {into : Into} {found : ValueType} {kind : Kind} {is_throwing : Bool} {body variable start : ℕ} → stmt.form ≡ form.Group into found is_throwing body → r ≡ s → t ≡ with_result into r → variable ≡ result_variable into r → kind ≡ kind_in found → BeginsGroup t stmt.token kind u → DoesClosed u body variable v → w ≡ left_to start (put instruction.End v) → start ≡ length s.scope → GivesClosed w into variable x → Does s stmt x
groups_by {s} {r} {t} {u} {v} {w} {x} {stmt} {into} {body = body} {variable = variable} {start = start} e same result is of begins block ends at gives =
    let var : variable ≡ result_variable into s = is ∙ ap (result_variable into) same in
    blocks.groups e (result ∙ ap (with_result into) same) (subst (λ k. BeginsGroup t stmt.token k u) of begins) (subst (λ y. DoesClosed u body y v) var block) (ends ∙ ap (λ y. left_to y (put instruction.End v)) at) (subst (λ y. GivesClosed w into y x) var gives)

-- a binding
pub binds_by : {s t u v w x : State} {stmt : Stmt} {into : Into} {of given body variable start : ℕ} → stmt.form ≡ form.Bind into of given body → t ≡ with_result into s → variable ≡ result_variable into s → BeginsBind t of stmt.token given u → DoesClosed u body variable v → w ≡ left_to start (put instruction.End v) → start ≡ length s.scope → GivesClosed w into variable x → Does s stmt x
binds_by {s} {u = u} {v} {w} {x} {into = into} {body = body} {variable} {start} e result var begins block ends at gives =
    blocks.binds e result begins (subst (λ y. DoesClosed u body y v) var block) (ends ∙ ap (λ y. left_to y (put instruction.End v)) at) (subst (λ y. GivesClosed w into y x) var gives)

-- what is handed over for a captured name
pub captured_by : {s h t : State} {unit token last next : ℕ} {b : Binding} → (place : ℕ) × IsInnermost s token place × (slice_get s.scope place ≡ Some b) → is_value b.standing ≡ true → h ≡ handed b last s → next ≡ length s.operands → Receives h unit token b t → Captures s unit token last t next
captured_by there value e is h = closures.captured there.0 there.1 there.2 value e h is

-- one name more
pub captured_more : {s t u : State} {unit token first last next start : ℕ} → start ≡ begin_or first next → CapturesAll s unit t first last → Captures t unit token last u next → CapturesAll s unit u start next
captured_more {s} {u = u} {unit} {token = token} {next = next} e h c = subst (λ x. CapturesAll s unit u x next) (sym e) (closures.one_further token h c)

-- a name stands for a parameter
pub received : {s u t : State} {unit token variable : ℕ} {b : Binding} → IsDeclared (in_unit unit s) b.token true u → variable ≡ next_variable s → Binds (in_unit s.unit u) token standings.Constant variable b.kind variable t → Receives s unit token b t
received {s} {u} {t} {token = token} {b = b} d is h = record { u = u; declared = d; binds = subst (λ x. Binds (in_unit s.unit u) token standings.Constant x b.kind x t) is h }

-- a closure begins
pub opened : {s u v t : State} {body : ClosureBody} {unit boundary operand : ℕ} → BeginsUnit s body.from u → unit ≡ length s.units → (last : ℕ) × CapturesAll u unit v operand last → boundary ≡ length s.scope → t ≡ in_closure unit boundary body.is_implicit v → OpensClosure s body operand t
opened {s} {u} {v} {body = body} {unit} {boundary} {operand} b is h at e = record {
  u = u;
  begins = b;
  v = v;
  last = h.0;
  captures = subst (λ x. CapturesAll u x v operand h.0) is h.1;
  state = e ∙ ap (λ x. in_closure x boundary body.is_implicit v) is ∙ ap (λ x. in_closure (length s.units) x body.is_implicit v) at;
}

-- a value alone is what a closure gives
pub given_alone : {s u t : State} {place given : ℕ} {found : Typed} → Lowers s place u found → given ≡ given_back found.kind found.value → t ≡ put (instruction.Return given) u → IsGiven s place t
given_alone {u = u} {found = found} h is e = record { u = u; found = found; lowers = h; state = e ∙ ap (λ x. put (instruction.Return x) u) is }

-- a method is all that a closure calls
pub handed_over : {s u t : State} {first instance method : ℕ} {given : Operands} → Hands (length s.tree.arguments.items) s first no_operands u given → t ≡ u → HandsOver s first instance method t (callees.Method instance method given.first)
handed_over {s} {first = first} {given = given} h e = record { given = given; hands = subst (λ x. Hands (length s.tree.arguments.items) s first no_operands x given) (sym e) h; is = refl }

-- a closure that is but a call
pub direct_from : {s r t : State} {value place first instance method : ℕ} {callee : Callee} → r ≡ s → place ≡ uncovered r value → (receiver : Receiver) × (form_at r place ≡ expr.Call receiver first) × IsCallee r (expr_at r place).token receiver instance method → HandsOver r first instance method t callee → IsDirect s value t callee
direct_from {s} {r} {t} {value} {place} {first} {instance} {method} {callee} e is call h =
    subst (λ x. IsDirect x value t callee) e (record { receiver = call.0; first = first; calls = subst (λ x. form_at r x ≡ expr.Call call.0 first) is call.1; instance = instance; method = method; names = subst (λ x. IsCallee r (expr_at r x).token call.0 instance method) is call.2; hands = h })

-- a group begins
pub group_begun : {s u p z t : State} {name variable count : ℕ} {kind : Kind} → IsDeclared s name false u → variable ≡ next_variable s → p ≡ put (instruction.Group variable) u → z ≡ begin_at_zero p → count ≡ next_variable p → Binds z name standings.Group variable kind count t → BeginsGroup s name kind t
group_begun {s} {u} {p} {z} {t} {name} {variable} {count} {kind} d is e zero at b =
    let begun : p ≡ put (instruction.Group (next_variable s)) u = e ∙ ap (λ x. put (instruction.Group x) u) is in
    let counted : count ≡ next_variable u = at ∙ ap next_variable begun in
    record { u = u; declared = d; binds = subst (λ x. Binds x name standings.Group (next_variable s) kind (next_variable u) t) (zero ∙ ap begin_at_zero begun) (subst (λ x. Binds z name standings.Group (next_variable s) kind x t) counted (subst (λ x. Binds z name standings.Group x kind count t) is b)) }

-- a unit begins
pub unit_begun : {s u t : State} {actor method token : ℕ} → actor ≡ actor_if (slice_get s.units s.unit) → method ≡ method_if (slice_get s.units s.unit) → IsBegun s unit_kinds.Closure actor method token u → t ≡ put (instruction.Skip 0) u → BeginsUnit s token t
unit_begun {s} {u} {method = method} {token} of by b e = record { u = u; begun = subst (λ x. IsBegun s unit_kinds.Closure (actor_if (slice_get s.units s.unit)) x token u) by (subst (λ x. IsBegun s unit_kinds.Closure x method token u) of b); state = e }

-- what a closure calls, as it was read
pub callee_read : {s : State} {e : Expr} (place : ℕ) {first instance method : ℕ} {found receiver : Receiver} → e ≡ expr_at s place → e.form ≡ expr.Call found first → found ≡ receiver → IsCallee s e.token receiver instance method → (r : Receiver) × (form_at s place ≡ expr.Call r first) × IsCallee s (expr_at s place).token r instance method
callee_read {s} place {first} {instance} {method} {receiver = receiver} e calls is names = (receiver, sym (ap (λ (x : Expr). x.form) e) ∙ calls ∙ ap (λ x. expr.Call x first) is, subst (λ (x : Expr). IsCallee s x.token receiver instance method) e names)

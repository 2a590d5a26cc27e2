-- What waits put, from what they call.
use Rattle.std.proofs.Common.{◌≡◌, ℕ, Bool, true, false, Some, pos, sym, ap, subst, ◌∙◌}
use Rattle.std.specs.Prelude.{ℤ, codes}
use Rattle.std.specs.List.{slice_get}
use Rattle.swift_types.specs.declared.operator.Operator.TheVariants as operators
use Rattle.swift_syntax.specs.declared.tree.ExprForm.TheVariants as form
use Rattle.swift_syntax.specs.declared.tree.FieldDecl.{FieldDecl}
use Rattle.swift_expressions.specs.declared.call.Called.TheVariants as callees
use Rattle.swift_expressions.specs.declared.code.Instruction.TheVariants as instruction
use Rattle.swift_expressions.specs.declared.code.Kind.{Kind}
use Rattle.swift_expressions.specs.declared.code.Kind.TheVariants as kinds
use Rattle.swift_expressions.specs.declared.code.Target.TheVariants.{Nothing}
use Rattle.swift_expressions.specs.declared.code.TheConstants.{NONE}
use Rattle.swift_expressions.specs.declared.code.Value.TheVariants as value
use Rattle.swift_expressions.specs.declared.code.Wait.{Wait}
use Rattle.swift_expressions.specs.declared.code.Wait.TheVariants as waiting
use Rattle.swift_expressions.specs.declared.lowering.Fallback.TheVariants as fallbacks
use Rattle.swift_expressions.specs.declared.operands.Operands.{Operands}
use Rattle.swift_expressions.specs.declared.scope.Binding.{Binding}
use Rattle.swift_expressions.specs.declared.scope.Standing.TheVariants as standings
use Rattle.swift_expressions.specs.declared.typed.Typed.{Typed}
use Rattle.swift_expressions.specs.Lowered as lowered
use Rattle.swift_expressions.specs.Lowered.{Calls, Means, Names, ReadsOther, Waits, child_test, close_next, constant_literal, counted, counted_child, field_kind, literal_kind, literal_number, used, with_child_test, yielding}
use Rattle.swift_expressions.specs.Scopes.{IsFieldOf, IsInnermost}
use Rattle.swift_expressions.specs.States.{Gives, State, bytes_at, next_variable, put, with_fallback, with_temporary}
use Rattle.swift_expressions.proofs.Stepped.{given_as, given_from, given_kind}

-- what is waited for from one state is from another one that is the same
pub waits_from : {s r t : State} (what : Wait) {kind : Kind} {found : Typed} → r ≡ s → Waits r what kind t found → Waits s what kind t found
waits_from {t = t} what {kind} {found} e h = subst (λ x. Waits x what kind t found) e h

-- a name, from what is read of it
pub reads_from : {s r t : State} {instance token : ℕ} {found : Typed} → r ≡ s → ReadsOther r instance token t found → ReadsOther s instance token t found
reads_from {t = t} {instance = instance} {token = token} {found = found} e h = subst (λ x. ReadsOther x instance token t found) e h

-- a field of an instance that may change
pub other_changing : {s r t : State} {instance token field : ℕ} {d : FieldDecl} {kind : Kind} {found : Typed} → IsFieldOf s instance token field → slice_get s.tree.fields.items field ≡ Some d → d.is_var ≡ true → r ≡ s → kind ≡ field_kind s field → Waits r (waiting.Getter instance field) kind t found → ReadsOther s instance token t found
other_changing {s} {t = t} {instance = instance} {field = field} {found = found} is at changes e k h = lowered.changing field is at changes (subst (λ x. Waits s (waiting.Getter instance field) x t found) k (waits_from (waiting.Getter instance field) e h))

pub task_named : {s r q v t : State} (place : ℕ) {of token : ℕ} {b : Binding} {found : Typed} → s.is_expectation ≡ false → IsInnermost s of place → slice_get s.scope place ≡ Some b → b.standing ≡ standings.Task → bytes_at s token ≡ codes "value" → r ≡ s → q ≡ used place r → (yields : Bool) × (v ≡ yielding yields q) → Waits v (waiting.Task b.variable) b.kind t found → Names s token t found (form.Member of)
task_named place {b = b} turn is_innermost at is_task spelled e is y h = lowered.task place y.0 turn is_innermost at is_task spelled (waits_from (waiting.Task b.variable) (y.1 ∙ ap (yielding y.0) (is ∙ ap (used place) e)) h)

-- the number of a literal
pub number_given : {s r u : State} (place : ℕ) {n : ℤ} {kind : Kind} {found : Typed} → r ≡ s → n ≡ literal_number s place → kind ≡ literal_kind s place → Gives r (value.Number n) kind u found → Gives s (value.Number (literal_number s place)) (literal_kind s place) u found
number_given place e is k g = given_kind k (given_as (ap value.Number is) (given_from e g))

-- the number of a constant, from what is read of the same state
pub constant_given : {s r q u : State} (place : ℕ) {at : ℕ} {n : ℤ} {kind : Kind} {found : Typed} → r ≡ s → at ≡ constant_literal r place → q ≡ r → n ≡ literal_number r at → kind ≡ literal_kind r at → Gives q (value.Number n) kind u found → Gives s (value.Number (literal_number s (constant_literal s place))) (literal_kind s (constant_literal s place)) u found
constant_given {s} place {at} {n} {kind} e is same is_number is_kind g =
    let there : at ≡ constant_literal s place = is ∙ ap (λ x. constant_literal x place) e in
    let numbers : n ≡ literal_number s (constant_literal s place) = is_number ∙ ap (λ x. literal_number x at) e ∙ ap (literal_number s) there in
    let types : kind ≡ literal_kind s (constant_literal s place) = is_kind ∙ ap (λ x. literal_kind x at) e ∙ ap (literal_kind s) there in
    number_given (constant_literal s place) (same ∙ e) numbers types g

pub child_meant : {s r q u t : State} {token : ℕ} (place : ℕ) {b : Binding} {found : Typed} → IsInnermost s token place → slice_get s.scope place ≡ Some b → b.standing ≡ standings.Child → r ≡ s → q ≡ used place r → Waits q (waiting.Next b.variable) b.kind u found → t ≡ counted_child b u → Means s token t found
child_meant place {b} is_innermost at is_child e is h counts = lowered.a_child place is_innermost at is_child (waits_from (waiting.Next b.variable) (is ∙ ap (used place) e) h) counts

-- `group.next()`
pub next_called : {s r s1 s2 s3 s4 s5 s6 s7 s8 s9 s10 t : State} {place v variable test at : ℕ} {b : Binding} {given : Operands} {one found : Typed} → slice_get s.scope place ≡ Some b → r ≡ s → r.fallback ≡ fallbacks.Nil v → s1 ≡ with_fallback fallbacks.None r → s2 ≡ with_temporary s1 → variable ≡ next_variable s1 → s3 ≡ put (instruction.Let variable v) s2 → s4 ≡ with_child_test b.count s3 → test ≡ child_test b.count s3 → s5 ≡ put (instruction.If test) s4 → Waits s5 (waiting.Next b.variable) b.kind s6 one → s7 ≡ counted operators.Minus b.count s6 → s8 ≡ put (instruction.Set variable one.value) s7 → s9 ≡ put instruction.End s8 → s10 ≡ used place s9 → Gives s10 (value.Variable variable) b.kind t found → Calls s given at t found (callees.Next place)
next_called {s} {s1 = s1} {s3 = s3} {s6 = s6} {place = place} {v} {variable} {test} {b = b} {one = one} there e is e1 e2 ev e3 e4 et e5 w e7 e8 e9 e10 g =
    let begins : s1 ≡ with_fallback fallbacks.None s = e1 ∙ ap (with_fallback fallbacks.None) e in
    let var : variable ≡ next_variable s = ev ∙ ap next_variable begins in
    let begun : State = put (instruction.Let (next_variable s) v) (with_temporary (with_fallback fallbacks.None s)) in
    let lets : s3 ≡ begun = e3 ∙ ap (put (instruction.Let variable v)) (e2 ∙ ap with_temporary begins) ∙ ap (λ x. put (instruction.Let x v) (with_temporary (with_fallback fallbacks.None s))) var in
    lowered.next there (sym (ap (λ x. x.fallback) e) ∙ is)
    (waits_from (waiting.Next b.variable) (e5 ∙ ap (put (instruction.If test)) (e4 ∙ ap (with_child_test b.count) lets) ∙ ap (λ x. put (instruction.If x) (with_child_test b.count begun)) (et ∙ ap (child_test b.count) lets)) w)
    (given_as (ap value.Variable var) (given_from (e10 ∙ ap (used place) (e9 ∙ ap (put instruction.End) (e8 ∙ ap (put (instruction.Set variable one.value)) e7)) ∙ ap (λ x. used place (close_next b.count x one s6)) var) g))

-- `group.waitForAll()`
pub all_called : {s r s1 s2 s3 s4 s5 s6 t : State} {place test at : ℕ} {b : Binding} {given : Operands} {found : Typed} → slice_get s.scope place ≡ Some b → r ≡ s → s1 ≡ with_child_test b.count r → test ≡ child_test b.count r → s2 ≡ put (instruction.While test) s1 → s3 ≡ put (instruction.Wait Nothing (waiting.Next b.variable) NONE) s2 → s4 ≡ counted operators.Minus b.count s3 → s5 ≡ put instruction.End s4 → s6 ≡ used place s5 → Gives s6 (value.Number (pos 0)) kinds.Void t found → Calls s given at t found (callees.WaitForAll place)
all_called {s} {s2 = s2} {place = place} {test} {b = b} there e e1 et e2 e3 e4 e5 e6 g =
    let opens : s2 ≡ put (instruction.While (child_test b.count s)) (with_child_test b.count s) = e2 ∙ ap (put (instruction.While test)) (e1 ∙ ap (with_child_test b.count) e) ∙ ap (λ x. put (instruction.While x) (with_child_test b.count s)) (et ∙ ap (child_test b.count) e) in
    lowered.all there (given_from (e6 ∙ ap (used place) (e5 ∙ ap (put instruction.End) (e4 ∙ ap (counted operators.Minus b.count) (e3 ∙ ap (put (instruction.Wait Nothing (waiting.Next b.variable) NONE)) opens)))) g)

-- What was put stays, in its order.
use Rattle.std.proofs.Common.{◌≡◌, ◌++◌, ℕ, Bool, true, false, [], ◌∷◌, refl, sym, ap, subst, ◌∙◌, append_assoc, append-nil, ◌==◌, if◌then◌else◌}
use Rattle.swift_types.specs.declared.operator.Operator.{Operator}
use Rattle.swift_types.specs.declared.operator.Operator.TheVariants as operators
use Rattle.swift_syntax.specs.declared.tree.ExprForm.{ExprForm}
use Rattle.swift_syntax.specs.declared.tree.MethodDecl.{MethodDecl}
use Rattle.swift_expressions.specs.declared.call.Called.{Called}
use Rattle.swift_expressions.specs.declared.code.Instruction.{Instruction}
use Rattle.swift_expressions.specs.declared.code.Kind.{Kind}
use Rattle.swift_expressions.specs.declared.code.TheConstants.{NONE}
use Rattle.swift_expressions.specs.declared.code.Kind.TheVariants as kinds
use Rattle.swift_expressions.specs.declared.code.Value.{Value}
use Rattle.swift_expressions.specs.declared.code.Wait.{Wait}
use Rattle.swift_expressions.specs.declared.operands.Operands.{Operands}
use Rattle.swift_expressions.specs.declared.scope.Binding.{Binding}
use Rattle.swift_expressions.specs.declared.typed.Typed.{Typed}
use Rattle.swift_expressions.specs.Lowered.{Calls, CallsOwn, Grows, Hands, HandsIf, IsLeaf, Keeps, KeepsIf, Lowers, Means, Names, ReadsOther, Waits, checked, counted, counted_child, field_kind, open_shortcut, slept, used, with_child_test, with_open_test, yielding}
use Rattle.swift_expressions.specs.Lowered as lowered
use Rattle.swift_expressions.specs.States.{Gives, State, covered, fault_of, is_fault, put, with_target, with_temporary, with_value}

-- a state grows by nothing to one that has the same
pub alike : {s t u : State} → Grows s t → u.instructions ≡ t.instructions → u.values ≡ t.values → u.tree ≡ t.tree → Grows s u
alike g i v t = record { instructions = g.instructions; values = g.values; behind = i ∙ g.behind; valued = v ∙ g.valued; tree = t ∙ g.tree }

pub stays : (s : State) → Grows s s
stays s = record { instructions = []; values = []; behind = sym (append-nil s.instructions); valued = sym (append-nil s.values); tree = refl }

pub same : {s t : State} → t ≡ s → Grows s t
same {s} e = subst (λ x. Grows s x) (sym e) (stays s)

pub on : {s t u : State} → Grows s t → Grows t u → Grows s u
on {s} g h = record {
  instructions = g.instructions ++ h.instructions;
  values = g.values ++ h.values;
  behind = h.behind ∙ ap (λ x. x ++ h.instructions) g.behind ∙ append_assoc s.instructions g.instructions h.instructions;
  valued = h.valued ∙ ap (λ x. x ++ h.values) g.valued ∙ append_assoc s.values g.values h.values;
  tree = h.tree ∙ g.tree;
}

pub to : {s t u : State} → u ≡ t → Grows s t → Grows s u
to {s} e g = subst (λ x. Grows s x) (sym e) g

pub puts : (i : Instruction) {s t : State} → Grows s t → Grows s (put i t)
puts i {s} g = record {
  instructions = g.instructions ++ i ∷ [];
  values = g.values;
  behind = ap (λ x. x ++ i ∷ []) g.behind ∙ append_assoc s.instructions g.instructions (i ∷ []);
  valued = g.valued;
  tree = g.tree;
}

pub reads : (v : Value) {s t : State} → Grows s t → Grows s (with_value v t)
reads v {s} g = record {
  instructions = g.instructions;
  values = g.values ++ v ∷ [];
  behind = g.behind;
  valued = ap (λ x. x ++ v ∷ []) g.valued ∙ append_assoc s.values g.values (v ∷ []);
  tree = g.tree;
}

pub begins : {s t : State} → Grows s t → Grows s (with_temporary t)
begins g = alike g refl refl refl

pub gives_grow : {s : State} {v : Value} {kind : Kind} {t : State} {found : Typed} → Gives s v kind t found → Grows s t
gives_grow {s} {v} g = to g.state (reads v (stays s))

target_grows : (k : Kind) {s t : State} → Grows s t → Grows s (with_target k t)
target_grows kinds.Void g = g
target_grows kinds.Int g = begins g
target_grows kinds.Bool g = begins g
target_grows kinds.Urgency g = begins g

waits_grow : {s : State} (what : Wait) (kind : Kind) {t : State} {found : Typed} → Waits s what kind t found → Grows s t
waits_grow {s} what kind g = to g.state (reads _ (puts _ (target_grows kind (alike (stays s) refl refl refl))))

pub keeps_grow : {s : State} {given : Typed} {t : State} {found : Typed} → Keeps s given t found → Grows s t
keeps_grow (lowered.settled is e f) = same e
keeps_grow {s} (lowered.read is g) = on (puts _ (begins (stays s))) (gives_grow g)

keeps_if_grow : {b : Bool} {s : State} {given : Typed} {t : State} {found : Typed} → KeepsIf b s given t found → Grows s t
keeps_if_grow (lowered.kept k) = keeps_grow k
keeps_if_grow lowered.as_it_is = stays _

pub counts : (o : Operator) (count : ℕ) {s t : State} → Grows s t → Grows s (counted o count t)
counts o count g = puts _ (reads _ (reads _ (reads _ g)))

pub child_tests : (count : ℕ) {s t : State} → Grows s t → Grows s (with_child_test count t)
child_tests count g = reads _ (reads _ (reads _ g))

pub uses : (place : ℕ) {s t : State} → Grows s t → Grows s (used place t)
uses place g = alike g refl refl refl

yields : (b : Bool) {s t : State} → Grows s t → Grows s (yielding b t)
yields true g = puts _ g
yields false g = g

pub either : {A : Type 0} (P : A → Type 0) (b : Bool) {x y : A} → P x → P y → P (if b then x else y)
either P true p q = p
either P false p q = q

child_counts : (b : Binding) {s t : State} → Grows s t → Grows s (counted_child b t)
child_counts b {s} {t} g = either (Grows s) (b.count == b.variable) g (counts operators.Minus b.count g)

others_grow : {s : State} {instance token : ℕ} {t : State} {found : Typed} → ReadsOther s instance token t found → Grows s t
others_grow {s} (lowered.changing field is at changes g) = waits_grow _ (field_kind s field) g
others_grow (lowered.fixed field is at stays_so begins g) = gives_grow g

names_grow : {s : State} {token : ℕ} {t : State} {found : Typed} {f : ExprForm} → Names s token t found f → Grows s t
names_grow (lowered.own_field is g) = gives_grow g
names_grow (lowered.at_end ends is of_actor g) = gives_grow g
names_grow {s} (lowered.task {b = b} place b2 turn is at is_task spelled g) = on (yields b2 (uses place (stays s))) (waits_grow _ b.kind g)
names_grow (lowered.cancelled turn free is spelled g) = gives_grow g
names_grow (lowered.urgency turn free is spelled g) = gives_grow g
names_grow (lowered.local turn global is g) = gives_grow g
names_grow (lowered.another turn global other is g) = others_grow g

means_grow : {s : State} {token : ℕ} {t : State} {found : Typed} → Means s token t found → Grows s t
means_grow (lowered.a_value place is at holds g) = gives_grow g
means_grow {s} (lowered.a_child {b = b} place is at child g e) = on (on (uses place (stays s)) (waits_grow _ b.kind g)) (to e (child_counts b (stays _)))
means_grow (lowered.a_field place free is g) = gives_grow g
means_grow (lowered.a_constant place free other is g) = gives_grow g

leaf_grows : {s : State} {token : ℕ} {f : ExprForm} {t : State} {found : Typed} → IsLeaf s token f t found → Grows s t
leaf_grows (lowered.number g) = gives_grow g
leaf_grows (lowered.truth g) = gives_grow g
leaf_grows (lowered.priority p is g) = gives_grow g
leaf_grows (lowered.name g) = means_grow g
leaf_grows (lowered.own_member g) = names_grow g
leaf_grows (lowered.member g) = names_grow g

own_grows : {s : State} {place : ℕ} {declared : MethodDecl} {given : Operands} {token : ℕ} {t : State} {found : Typed} → CallsOwn s place declared given token t found → Grows s t
own_grows (lowered.waits is g) = waits_grow _ _ g
own_grows {s} (lowered.put_in is g) = on (puts _ (target_grows _ (stays s))) (gives_grow g)

sleeps : (s : State) → Grows s (slept s)
sleeps s = either (Grows s) (is_fault s.fallback) (puts _ (alike (stays s) refl refl refl)) (puts _ (puts _ (alike (stays s) refl refl refl)))

checks : (s : State) → Grows s (checked s)
checks s = either (Grows s) (fault_of s.fallback == NONE) (puts _ (alike (stays s) refl refl refl)) (alike (stays s) refl refl refl)

calls_grow : {s : State} {given : Operands} {token : ℕ} {t : State} {found : Typed} {what : Called} → Calls s given token t found what → Grows s t
calls_grow (lowered.own at g) = own_grows g
calls_grow (lowered.other at g) = waits_grow _ _ g
calls_grow {s} (lowered.yield g) = on (puts _ (stays s)) (gives_grow g)
calls_grow {s} (lowered.sleep g) = on (sleeps s) (gives_grow g)
calls_grow {s} (lowered.check g) = on (checks s) (gives_grow g)
calls_grow {s} (lowered.cancel b g) = on (puts _ (yields b (stays s))) (gives_grow g)
calls_grow {s} (lowered.next {b = b} at f w g) = on (on (on (puts _ (child_tests b.count (puts _ (begins (alike (stays s) refl refl refl))))) (waits_grow _ b.kind w)) (uses _ (puts _ (puts _ (counts operators.Minus b.count (stays _)))))) (gives_grow g)
calls_grow {s} (lowered.all {b = b} at g) = on (uses _ (puts _ (counts operators.Minus b.count (puts _ (puts _ (child_tests b.count (stays s))))))) (gives_grow g)

tests : (o : Operator) (so_far : ℕ) {s t : State} → Grows s t → Grows s (with_open_test o so_far t)
tests operators.Or so_far g = puts _ (reads _ g)
tests operators.And so_far g = puts _ g
tests operators.Plus so_far g = puts _ g
tests operators.Minus so_far g = puts _ g
tests operators.Times so_far g = puts _ g
tests operators.Equal so_far g = puts _ g
tests operators.Unequal so_far g = puts _ g
tests operators.Less so_far g = puts _ g
tests operators.AtMost so_far g = puts _ g
tests operators.Greater so_far g = puts _ g
tests operators.AtLeast so_far g = puts _ g

opens : (o : Operator) (first : Typed) (s : State) → Grows s (open_shortcut o first s)
opens o first s = tests o _ (reads _ (puts _ (begins (stays s))))

covers : (b : Bool) {s t : State} → Grows s t → Grows s (covered b t)
covers b g = alike g refl refl refl

mutual
  -- what an expression puts stands behind what was put before it
  pub lowers_grow : {s t : State} {p : ℕ} {found : Typed} → Lowers s p t found → Grows s t
  lowers_grow (lowered.leaf l) = leaf_grows l
  lowers_grow (lowered.call what e is h c) = on (hands_if_grow h) (calls_grow c)
  lowers_grow (lowered.negated e h g) = on (lowers_grow h) (gives_grow g)
  lowers_grow (lowered.inverted e h g) = on (lowers_grow h) (gives_grow g)
  lowers_grow (lowered.binary kept e c h k i g) = on (on (on (lowers_grow h) (keeps_if_grow k)) (lowers_grow i)) (gives_grow g)
  lowers_grow (lowered.shortcut {t = t} {o = o} {first = first} e c h u i w f) = on (on (lowers_grow h) (on (covers false (to u (opens o first t))) (lowers_grow i))) (to w (puts _ (puts _ (covers _ (stays _)))))
  lowers_grow (lowered.comma {t = t} {first = first} e h u i w f) = on (on (lowers_grow h) (on (covers false (to u (opens operators.And first t))) (lowers_grow i))) (to w (puts _ (puts _ (covers _ (stays _)))))
  lowers_grow (lowered.choice {t = t} {v = v} {x = x} e h u i w j g) = on (on (on (on (on (lowers_grow h) (to u (puts _ (puts _ (reads _ (begins (stays t))))))) (lowers_grow i)) (to w (puts _ (puts _ (stays v))))) (lowers_grow j)) (on (puts _ (puts _ (stays x))) (gives_grow g))
  lowers_grow {s} (lowered.awaited e h) = covers _ (on (covers true (stays s)) (lowers_grow h))
  lowers_grow (lowered.tried e h) = lowers_grow h
  lowers_grow (lowered.otherwise {t = t} e h i) = on (lowers_grow h) (on (alike (stays t) refl refl refl) (lowers_grow i))

  -- so do the arguments of a call
  pub hands_grow : {n : ℕ} {s : State} {p : ℕ} {so_far : Operands} {t : State} {found : Operands} → Hands n s p so_far t found → Grows s t
  hands_grow lowered.spent = stays _
  hands_grow (lowered.no_more e) = stays _
  hands_grow (lowered.one_more u kept n e h k v rest) = on (on (on (lowers_grow h) (keeps_if_grow k)) (to v (alike (stays u) refl refl refl))) (hands_grow rest)

  hands_if_grow : {b : Bool} {s : State} {p : ℕ} {t : State} {found : Operands} → HandsIf b s p t found → Grows s t
  hands_if_grow (lowered.values h) = hands_grow h
  hands_if_grow lowered.nothing = stays _

-- What functions on expressions put, from what they call.
use Rattle.std.proofs.Common.{◌≡◌, ◌<◌, ◌≤◌, ◌+◌, ◌-◌, ℕ, Bool, Some, length, pos, w64, to_z, of_z, arith, true, false, refl, sym, subst, ◌∙◌}
use Rattle.std.specs.Int.{from_bool}
use Rattle.swift_types.specs.declared.priority.Priority.{Priority}
use Rattle.swift_types.specs.declared.priority.Priority.TheVariants as priorities
use Rattle.swift_types.specs.Priority.{rank}
use Rattle.swift_syntax.specs.declared.tree.Argument.{Argument}
use Rattle.swift_syntax.specs.declared.tree.Expr.{Expr}
use Rattle.swift_syntax.specs.declared.tree.ExprForm.{ExprForm}
use Rattle.swift_syntax.specs.declared.tree.ExprForm.TheVariants as form
use Rattle.swift_syntax.specs.declared.tree.Receiver.{Receiver}
use Rattle.swift_expressions.specs.declared.call.Called.{Called}
use Rattle.swift_expressions.specs.declared.code.Kind.{Kind}
use Rattle.swift_expressions.specs.declared.code.Value.{Value}
use Rattle.swift_expressions.specs.declared.code.Value.TheVariants as value
use Rattle.swift_expressions.specs.declared.lowering.Fallback.{Fallback}
use Rattle.swift_expressions.specs.declared.operands.Operands.{Operands}
use Rattle.swift_expressions.specs.declared.typed.Typed.{Typed}
use Rattle.swift_expressions.specs.Scopes.{IsCalled}
use Rattle.swift_expressions.specs.States.{Gives, State, argument_at, expr_at, form_at, with_fallback, with_operand}
use Rattle.swift_expressions.specs.Lowered as lowered
use Rattle.swift_expressions.specs.Lowered.{Calls, Hands, HandsIf, IsLeaf, KeepsIf, Lowers, and_one, caught_by, close_shortcut, fallback_by, has_next, no_operands, number_of, takes_values}

-- what is put from one state is from another one that is the same
pub given_from : {s t : State} {v : Value} {kind : Kind} {u : State} {found : Typed} → t ≡ s → Gives t v kind u found → Gives s v kind u found
given_from {v = v} {kind = kind} {u = u} {found = found} e g = subst (λ x. Gives x v kind u found) e g

-- the same value by another name
pub given_as : {s : State} {v w : Value} {kind : Kind} {u : State} {found : Typed} → v ≡ w → Gives s v kind u found → Gives s w kind u found
given_as {s} {kind = kind} {u = u} {found = found} e g = subst (λ x. Gives s x kind u found) e g

-- the same type
pub given_kind : {s : State} {v : Value} {kind other : Kind} {u : State} {found : Typed} → kind ≡ other → Gives s v kind u found → Gives s v other u found
given_kind {s} {v} {u = u} {found = found} e g = subst (λ x. Gives s v x u found) e g

pub lowered_from : {s t u : State} {p : ℕ} {found : Typed} → t ≡ s → Lowers t p u found → Lowers s p u found
lowered_from {u = u} {p = p} {found = found} e h = subst (λ x. Lowers x p u found) e h

pub lowered_to : {s t u : State} {p : ℕ} {found : Typed} → u ≡ t → Lowers s p t found → Lowers s p u found
lowered_to {s} {p = p} {found = found} e h = subst (λ x. Lowers s p x found) (sym e) h

pub lowered_at : {s t : State} {p q : ℕ} {found : Typed} → p ≡ q → Lowers s p t found → Lowers s q t found
lowered_at {s} {t} {found = found} e h = subst (λ x. Lowers s x t found) e h

pub kept_where : {a b : Bool} {s t : State} {given found : Typed} → a ≡ b → KeepsIf a s given t found → KeepsIf b s given t found
kept_where {s = s} {t = t} {given = given} {found = found} e k = subst (λ x. KeepsIf x s given t found) e k

-- what is chosen goes to a variable that has this place
pub choice_given : (second : Typed) (s : State) {a b : ℕ} {w u : State} {kind : Kind} {found : Typed} → a ≡ b → w ≡ close_shortcut a second s → Gives w (value.Variable a) kind u found → Gives (close_shortcut b second s) (value.Variable b) kind u found
choice_given second s {u = u} {kind = kind} {found = found} e h g = subst (λ x. Gives (close_shortcut x second s) (value.Variable x) kind u found) e (given_from h g)

-- `??`, from what is read of its left operand
pub otherwise_lowered : {s r t u w : State} {p left right inner : ℕ} {instead found : Typed} {fallback : Fallback} → form_at s p ≡ form.Otherwise left right → r ≡ s → inner ≡ caught_by left (form_at s left) → fallback ≡ fallback_by instead.value (form_at t left) → w ≡ u → Lowers r right t instead → Lowers (with_fallback fallback t) inner u found → Lowers s p w found
otherwise_lowered {s} {t = t} {u = u} {left = left} {found = found} e same is_inner is_fallback ends h k =
    lowered_to ends (lowered.otherwise e (lowered_from same h) (subst (λ x. Lowers (with_fallback x t) (caught_by left (form_at s left)) u found) is_fallback (lowered_at is_inner k)))

-- no argument so far
pub hands_all : {n : ℕ} {s t : State} {p : ℕ} {so_far first found : Operands} → so_far ≡ first → Hands (n - 0) s p so_far t found → Hands n s p first t found
hands_all {n} {s} {t} {p} {first = first} {found = found} e h = let z : n - 0 ≡ n = omega arith in subst (λ m. Hands m s p first t found) z (subst (λ x. Hands (n - 0) s p x t found) e h)

-- one argument more
pub hands_on : {n i : ℕ} {s t u v w : State} {p : ℕ} {a : Argument} {so_far and_this found : Operands} {given kept : Typed} → i < n → argument_at s p ≡ Some a → Lowers s a.value t given → KeepsIf (has_next a) t given u kept → v ≡ with_operand kept so_far.last u → and_this ≡ and_one so_far (length u.operands) → Hands (n - (i + 1)) v a.next and_this w found → Hands (n - i) s p so_far w found
hands_on {n} {i} {u = u} {v = v} {w = w} {a = a} {found = found} {kept = kept} lt there h k e f rest =
    lowered.one_more u kept (omega arith) there h k e (subst (λ x. Hands (n - (i + 1)) v a.next x w found) f rest)

-- no argument is left
pub hands_none : {n i : ℕ} {s : State} {p : ℕ} {found : Operands} → n ≤ i → Hands (n - i) s p found s found
hands_none {n} {i} {s} {p} {found} le = let e : 0 ≡ n - i = omega arith in subst (λ m. Hands m s p found s found) e lowered.spent

-- a call, from what is read of its name
pub call_lowered : {s r t u : State} {p first token : ℕ} {receiver : Receiver} {given : Operands} {found : Typed} {takes : Bool} (what : Called) → form_at s p ≡ form.Call receiver first → token ≡ (expr_at s p).token → IsCalled s token receiver what → r ≡ s → takes ≡ takes_values what → HandsIf takes r first t given → Calls t given token u found what → Lowers s p u found
call_lowered {s} {t = t} {u = u} {first = first} {receiver = receiver} {given = given} {found = found} {takes = takes} what e named is_called same values hands calls =
    lowered.call what e (subst (λ n. IsCalled s n receiver what) named is_called) (subst (λ b. HandsIf b s first t given) values (subst (λ x. HandsIf takes x first t given) same hands)) (subst (λ n. Calls t given n u found what) named calls)

-- an expression without parts, by what it is
pub leaf_by : {s t : State} {token : ℕ} {f g : ExprForm} {found : Typed} → f ≡ g → IsLeaf s token f t found → IsLeaf s token g t found
leaf_by {s} {t} {token} {found = found} e h = subst (λ x. IsLeaf s token x t found) e h

-- a leaf as it was read from the tree
pub leaf_read : {s t : State} {e x : Expr} {found : Typed} → x ≡ e → IsLeaf s x.token x.form t found → IsLeaf s e.token e.form t found
leaf_read {s} {t} {found = found} e h = subst (λ (y : Expr). IsLeaf s y.token y.form t found) e h

-- what is handed over, by whether there are values
pub handed_where : {a b : Bool} {s t : State} {p : ℕ} {found : Operands} → a ≡ b → HandsIf a s p t found → HandsIf b s p t found
handed_where {s = s} {t = t} {p = p} {found = found} e h = subst (λ x. HandsIf x s p t found) e h

-- nothing is handed over
pub handed_nothing : {b : Bool} {s : State} {p : ℕ} {found : Operands} → false ≡ b → found ≡ no_operands → HandsIf b s p s found
handed_nothing {b} {s} {p} e is = subst (λ x. HandsIf b s p s x) (sym is) (handed_where e lowered.nothing)

-- the number of a truth value, as Rust has it
pub number_of_truth : (b : Bool) → to_z w64 (of_z w64 (pos (from_bool b))) ≡ number_of b
number_of_truth true = refl
number_of_truth false = refl

-- the number of a priority, as Rust has it
pub number_of_rank : (p : Priority) → to_z w64 (of_z w64 (pos (rank p))) ≡ pos (rank p)
number_of_rank priorities.Background = refl
number_of_rank priorities.Low = refl
number_of_rank priorities.Medium = refl
number_of_rank priorities.High = refl

-- Expressions that are spelled are read.
use Rattle.script_parser.proofs.Prelude.{◌≡◌, ◌≢◌, ℕ, ℤ, zero, suc, ◌+◌, ◌-◌, ◌<◌, ◌≤◌, Bool, true, false, cond, eqb, List, [], ◌∷◌, ◌++◌, Some, None, Ok, refl, sym, ap, ◌∙◌, append_assoc, arith, le-ltb, nat_tests, Operator, TokenView, Num, Name, Key, Sign, Atoms, ExprTree, Number, Named, Local, OwnPriority, IsCancelled, Negated, Inverted, Both, height_of, mark_of, precedence_of, has_every_atom, SpellsExpr, IsExpression, number, name, local, own_priority, is_cancelled, parenthesis, negated, inverted, alone, chained, compared, Read, ReadInside, operator_in, of_precedence, with_rest, most_operators, expr_in}
use Rattle.swift_types.specs.declared.operator.Operator.TheVariants as op
use Rattle.script_tokens.specs.declared.keyword.Keyword.TheVariants as key
use Rattle.script_tokens.specs.declared.mark.Mark.TheVariants as mark
use Rattle.script_parser.specs.Model.Parts.{name_at}
use Rattle.script_parser.specs.Model.Expressions.{operator_at, checked, closed_at, atom_at, unary_at, operands_at, level_at, inside_at}
use Rattle.script_parser.proofs.Steps.{allowed_now}

-- no operator of this precedence or a tighter one comes next
abbrev pub Stops : ℕ → List TokenView → Type 0
Stops k ts = (j : ℕ) → j ≤ k → operator_at j ts ≡ None

pub operator_in-mark_of : (o : Operator) → operator_in (mark_of o) ≡ Some o
operator_in-mark_of op.Or = refl
operator_in-mark_of op.And = refl
operator_in-mark_of op.Equal = refl
operator_in-mark_of op.Unequal = refl
operator_in-mark_of op.Less = refl
operator_in-mark_of op.AtMost = refl
operator_in-mark_of op.Greater = refl
operator_in-mark_of op.AtLeast = refl
operator_in-mark_of op.Plus = refl
operator_in-mark_of op.Minus = refl
operator_in-mark_of op.Times = refl

pub operator_at-mark : (k : ℕ) (o : Operator) (rest : List TokenView) → operator_at k (Sign (mark_of o) ∷ rest) ≡ with_rest (cond (eqb (precedence_of o) k) (Some o) None) rest
unfolding operator_at
operator_at-mark k o rest = ap (λ q. with_rest (of_precedence k q) rest) (operator_in-mark_of o)

eqb_same : (j k : ℕ) → j ≡ k → eqb j k ≡ true
eqb_same j k e = grind (arith, nat_tests)

eqb_other : (j k : ℕ) → j < k → eqb k j ≡ false
eqb_other j k lt = grind (arith, nat_tests)

stops_before : (o : Operator) (k : ℕ) (rest : List TokenView) → suc k ≡ precedence_of o → Stops k (Sign (mark_of o) ∷ rest)
stops_before o k rest e j le =
    operator_at-mark j o rest ∙ ap (λ (b : Bool). with_rest (cond b (Some o) None) rest) (eqb_other j (precedence_of o) (omega arith))

found_at : (o : Operator) (k : ℕ) (rest : List TokenView) → k ≡ precedence_of o → operator_at k (Sign (mark_of o) ∷ rest) ≡ Some (o, rest)
found_at o k rest e =
    operator_at-mark k o rest ∙ ap (λ (b : Bool). with_rest (cond b (Some o) None) rest) (eqb_same (precedence_of o) k (sym e))

stops_close : (k : ℕ) (rest : List TokenView) → Stops k (Sign mark.Close ∷ rest)
unfolding operator_at
stops_close k rest j le = refl

pub height_pos : (t : ExprTree) → 0 < height_of t
height_pos (Number n) = omega arith
height_pos (Named n) = omega arith
height_pos (Local n) = omega arith
height_pos OwnPriority = omega arith
height_pos IsCancelled = omega arith
height_pos (Negated a) = omega arith
height_pos (Inverted a) = omega arith
height_pos (Both o a b) = omega arith

pub checked_low : (limit : ℕ) (ts : List TokenView) (t : ExprTree) → height_of t ≤ limit → checked limit ts t ≡ Ok t
unfolding checked
checked_low limit ts t h = rw (le-ltb limit (height_of t) h) refl

operands_stop : (limit : ℕ) (operand : Read) (k n : ℕ) (t : ExprTree) (rest : List TokenView) → operator_at k rest ≡ None → operands_at limit operand k n t rest ≡ Ok (t, rest)
unfolding operands_at
operands_stop limit operand k zero t rest e = refl
operands_stop limit operand k (suc n) t rest e = rw e refl

operands_next : (limit : ℕ) (operand : Read) (k n : ℕ) (o : Operator) (a b : ExprTree) (following rest : List TokenView) → suc k ≡ precedence_of o → operand following ≡ Ok (b, rest) → height_of (Both o a b) ≤ limit
    → operands_at limit operand (suc k) (suc n) a (Sign (mark_of o) ∷ following) ≡ operands_at limit operand (suc k) n (Both o a b) rest
unfolding operands_at
operands_next limit operand k n o a b following rest e read low =
    rw (found_at o (suc k) following e, read, checked_low limit (Sign (mark_of o) ∷ following) (Both o a b) low) refl

level_next : (atoms : Atoms) (limit : ℕ) (inside : ReadInside) (k : ℕ) (ts : List TokenView) (t : ExprTree) (rest : List TokenView) → level_at atoms limit inside k ts ≡ Ok (t, rest) → level_at atoms limit inside (suc k) ts ≡ operands_at limit (level_at atoms limit inside k) (suc k) (most_operators limit (suc k)) t rest
unfolding level_at
level_next atoms limit inside k ts t rest e = rw e refl

abbrev Final : Atoms → ℕ → ℕ → ℕ → List TokenView → ExprTree → Type 0
Final atoms limit o k ts t = (rest : List TokenView) → height_of t ≤ limit → Stops k rest → level_at atoms limit (inside_at atoms limit o) k (ts ++ rest) ≡ Ok (t, rest)

-- After operands of precedence k + 1 reading stands there with the tree, and may read on.
abbrev Again : Atoms → ℕ → ℕ → ℕ → List TokenView → ExprTree → Type 0
Again atoms limit o zero ts t = (first : List TokenView) (n : ℕ) (rest : List TokenView) → height_of t ≤ suc n → height_of t ≤ limit → unary_at atoms limit (inside_at atoms limit o) first n (ts ++ rest) ≡ Ok (t, rest)
Again atoms limit o (suc k) ts t = (rest : List TokenView) → height_of t ≤ limit → Stops k rest → (n : ℕ) × (most_operators limit (suc k) < n + height_of t) × (level_at atoms limit (inside_at atoms limit o) (suc k) (ts ++ rest) ≡ operands_at limit (level_at atoms limit (inside_at atoms limit o) k) (suc k) n t rest)

final : (atoms : Atoms) (limit o k : ℕ) (ts : List TokenView) (t : ExprTree) → Again atoms limit o k ts t → Final atoms limit o k ts t
unfolding level_at
final atoms limit o zero ts t a rest h s = a (ts ++ rest) (limit - 1) rest (omega arith) h
final atoms limit o (suc k) ts t a rest h s =
    let w = a rest h (λ j le. s j (omega arith)) in
    w.2 ∙ operands_stop limit (level_at atoms limit (inside_at atoms limit o) k) (suc k) w.0 t rest (s (suc k) (omega arith))

negated_again : (atoms : Atoms) (limit : ℕ) (inside : ReadInside) (first : List TokenView) (n : ℕ) (ts : List TokenView) (t : ExprTree) (rest : List TokenView) → ((m : ℕ) → height_of t ≤ suc m → unary_at atoms limit inside first m ts ≡ Ok (t, rest)) → suc (height_of t) ≤ suc n → suc (height_of t) ≤ limit → unary_at atoms limit inside first n (Sign mark.Minus ∷ ts) ≡ Ok (Negated t, rest)
unfolding unary_at
negated_again atoms limit inside first zero ts t rest ih h low = absurd (omega (arith, height_pos t))
negated_again atoms limit inside first (suc n) ts t rest ih h low = rw (ih n (omega arith), checked_low limit (Sign mark.Minus ∷ ts) (Negated t) low) refl

inverted_again : (atoms : Atoms) (limit : ℕ) (inside : ReadInside) (first : List TokenView) (n : ℕ) (ts : List TokenView) (t : ExprTree) (rest : List TokenView) → ((m : ℕ) → height_of t ≤ suc m → unary_at atoms limit inside first m ts ≡ Ok (t, rest)) → suc (height_of t) ≤ suc n → suc (height_of t) ≤ limit → unary_at atoms limit inside first n (Sign mark.Bang ∷ ts) ≡ Ok (Inverted t, rest)
unfolding unary_at
inverted_again atoms limit inside first zero ts t rest ih h low = absurd (omega (arith, height_pos t))
inverted_again atoms limit inside first (suc n) ts t rest ih h low = rw (ih n (omega arith), checked_low limit (Sign mark.Bang ∷ ts) (Inverted t) low) refl

parenthesis_again : (atoms : Atoms) (limit o : ℕ) (first : List TokenView) (n : ℕ) (ts : List TokenView) (t : ExprTree) (rest : List TokenView) → Final atoms limit o 5 ts t → height_of t ≤ limit → unary_at atoms limit (inside_at atoms limit (suc o)) first n (Sign mark.Open ∷ ((ts ++ Sign mark.Close ∷ []) ++ rest)) ≡ Ok (t, rest)
unfolding unary_at inside_at closed_at
parenthesis_again atoms limit o first n ts t rest f low =
    let regrouped : (ts ++ Sign mark.Close ∷ []) ++ rest ≡ ts ++ (Sign mark.Close ∷ rest) = append_assoc ts (Sign mark.Close ∷ []) rest in
    rw (regrouped, f (Sign mark.Close ∷ rest) low (stops_close 5 rest)) refl

most_many : (limit k : ℕ) → k ≢ 3 → most_operators limit k ≡ limit
most_many limit k ne = grind (arith, nat_tests)

most_one : (limit k : ℕ) → k ≡ 3 → most_operators limit k ≡ 1
most_one limit k e = rw e refl

chained_again : (atoms : Atoms) (limit o k n : ℕ) (q : Operator) (a b : ExprTree) (following rest : List TokenView) → suc k ≡ precedence_of q → limit < n + height_of a → level_at atoms limit (inside_at atoms limit o) k following ≡ Ok (b, rest) → height_of (Both q a b) ≤ limit
    → (m : ℕ) × (limit < m + height_of (Both q a b)) × (operands_at limit (level_at atoms limit (inside_at atoms limit o) k) (suc k) n a (Sign (mark_of q) ∷ following) ≡ operands_at limit (level_at atoms limit (inside_at atoms limit o) k) (suc k) m (Both q a b) rest)
chained_again atoms limit o k zero q a b following rest e lt read low = absurd (omega arith)
chained_again atoms limit o k (suc n) q a b following rest e lt read low = (n, omega arith, operands_next limit (level_at atoms limit (inside_at atoms limit o) k) k n q a b following rest e read low)

again : (atoms : Atoms) (limit : ℕ) {o k : ℕ} {ts : List TokenView} {t : ExprTree} → SpellsExpr atoms o k ts t → Again atoms limit o k ts t
unfolding unary_at atom_at name_at
again atoms limit (number v) = λ first n rest h low. refl
again atoms limit (name v) = λ first n rest h low. refl
again atoms limit (local v may) = λ first n rest h low. rw (allowed_now (has_every_atom atoms) (Sign mark.At ∷ Name v ∷ rest) may) refl
again atoms limit (own_priority may) = λ first n rest h low. rw (allowed_now (has_every_atom atoms) (Key key.Priority ∷ rest) may) refl
again atoms limit (is_cancelled may) = λ first n rest h low. rw (allowed_now (has_every_atom atoms) (Key key.Cancelled ∷ rest) may) refl
again atoms limit (parenthesis {o} {ts} {t} d) = λ first n rest h low. parenthesis_again atoms limit o first n ts t rest (final atoms limit o 5 ts t (again atoms limit d)) low
again atoms limit (negated {o} {ts} {t} d) = λ first n rest h low. negated_again atoms limit (inside_at atoms limit o) first n (ts ++ rest) t rest (λ m hm. again atoms limit d first m rest hm (omega arith)) h low
again atoms limit (inverted {o} {ts} {t} d) = λ first n rest h low. inverted_again atoms limit (inside_at atoms limit o) first n (ts ++ rest) t rest (λ m hm. again atoms limit d first m rest hm (omega arith)) h low
again atoms limit (alone {o} {k} {ts} {t} d) = λ rest h s. (most_operators limit (suc k), omega (arith, height_pos t), level_next atoms limit (inside_at atoms limit o) k (ts ++ rest) t rest (final atoms limit o k ts t (again atoms limit d) rest h s))
again atoms limit (chained {o} {k} {ls} {rs} {a} {b} q e ne da db) = λ rest h s.
    let first = again atoms limit da (Sign (mark_of q) ∷ (rs ++ rest)) (omega arith) (stops_before q k (rs ++ rest) e) in
    let many = most_many limit (suc k) ne in
    let next = chained_again atoms limit o k first.0 q a b (rs ++ rest) rest e (omega (arith, first.1)) (final atoms limit o k rs b (again atoms limit db) rest (omega arith) s) h in
    (next.0, omega (arith, next.1), ap (level_at atoms limit (inside_at atoms limit o) (suc k)) (append_assoc ls (Sign (mark_of q) ∷ rs) rest) ∙ first.2 ∙ next.2)
again atoms limit (compared {o} {k} {ls} {rs} {a} {b} q e three da db) = λ rest h s.
    let first = final atoms limit o k ls a (again atoms limit da) (Sign (mark_of q) ∷ (rs ++ rest)) (omega arith) (stops_before q k (rs ++ rest) e) in
    let one = most_one limit (suc k) three in
    let begun = level_next atoms limit (inside_at atoms limit o) k (ls ++ (Sign (mark_of q) ∷ (rs ++ rest))) a (Sign (mark_of q) ∷ (rs ++ rest)) first in
    let next = operands_next limit (level_at atoms limit (inside_at atoms limit o) k) k 0 q a b (rs ++ rest) rest e (final atoms limit o k rs b (again atoms limit db) rest (omega arith) s) h in
    (0, omega (arith, height_pos a), ap (level_at atoms limit (inside_at atoms limit o) (suc k)) (append_assoc ls (Sign (mark_of q) ∷ rs) rest) ∙ begun ∙ ap (λ (m : ℕ). operands_at limit (level_at atoms limit (inside_at atoms limit o) k) (suc k) m a (Sign (mark_of q) ∷ (rs ++ rest))) one ∙ next)

-- An expression within the limits is read, up to where it stops.
pub expr_again : (atoms : Atoms) (limit o : ℕ) (ts : List TokenView) (t : ExprTree) (rest : List TokenView) → IsExpression atoms limit o ts t → Stops 5 rest → expr_in atoms limit o (ts ++ rest) ≡ Ok (t, rest)
expr_again atoms limit o ts t rest d = final atoms limit o 5 ts t (again atoms limit d.spelled) rest d.low

-- what an expression begins with
pub data Begins : List TokenView → Type 0 where
  with_number : (v : ℤ) (us : List TokenView) → Begins (Num v ∷ us)
  with_name : (n : List ℕ) (us : List TokenView) → Begins (Name n ∷ us)
  with_parenthesis : (us : List TokenView) → Begins (Sign mark.Open ∷ us)
  with_minus : (us : List TokenView) → Begins (Sign mark.Minus ∷ us)
  with_bang : (us : List TokenView) → Begins (Sign mark.Bang ∷ us)
  with_at : (us : List TokenView) → Begins (Sign mark.At ∷ us)
  with_priority : (us : List TokenView) → Begins (Key key.Priority ∷ us)
  with_cancelled : (us : List TokenView) → Begins (Key key.Cancelled ∷ us)

begins_then : {ts : List TokenView} (us : List TokenView) → Begins ts → Begins (ts ++ us)
begins_then us (with_number v ts) = with_number v (ts ++ us)
begins_then us (with_name n ts) = with_name n (ts ++ us)
begins_then us (with_parenthesis ts) = with_parenthesis (ts ++ us)
begins_then us (with_minus ts) = with_minus (ts ++ us)
begins_then us (with_bang ts) = with_bang (ts ++ us)
begins_then us (with_at ts) = with_at (ts ++ us)
begins_then us (with_priority ts) = with_priority (ts ++ us)
begins_then us (with_cancelled ts) = with_cancelled (ts ++ us)

spelled_begins : {atoms : Atoms} {o k : ℕ} {ts : List TokenView} {t : ExprTree} → SpellsExpr atoms o k ts t → Begins ts
spelled_begins (number v) = with_number v []
spelled_begins (name v) = with_name v []
spelled_begins (local v may) = with_at (Name v ∷ [])
spelled_begins (own_priority may) = with_priority []
spelled_begins (is_cancelled may) = with_cancelled []
spelled_begins (parenthesis {o} {ts} {t} d) = with_parenthesis (ts ++ Sign mark.Close ∷ [])
spelled_begins (negated {o} {ts} {t} d) = with_minus ts
spelled_begins (inverted {o} {ts} {t} d) = with_bang ts
spelled_begins (alone d) = spelled_begins d
spelled_begins (chained {o} {k} {ls} {rs} q e ne da db) = begins_then (Sign (mark_of q) ∷ rs) (spelled_begins da)
spelled_begins (compared {o} {k} {ls} {rs} q e three da db) = begins_then (Sign (mark_of q) ∷ rs) (spelled_begins da)

pub expression_begins : (atoms : Atoms) (limit o : ℕ) (ts rest : List TokenView) (t : ExprTree) → IsExpression atoms limit o ts t → Begins (ts ++ rest)
expression_begins atoms limit o ts rest t d = begins_then rest (spelled_begins d.spelled)

-- Expressions that are read are spelled.
use Rattle.script_parser.proofs.Prelude.{◌≡◌, ◌≢◌, ℕ, zero, suc, ◌-◌, ◌<◌, ◌≤◌, ◌⊎◌, inl, inr, Bool, true, false, cond, eqb, ltb, List, [], ◌∷◌, ◌++◌, Option, Some, None, Ok, Err, refl, sym, ap, subst, ◌∙◌, append_assoc, arith, ltb-false, eqb-true, nat_tests, ParseFault, Operator, Mark, TokenView, Num, Name, Key, Sign, Atoms, ExprTree, Number, Named, Local, OwnPriority, IsCancelled, Negated, Inverted, Both, height_of, mark_of, precedence_of, has_every_atom, SpellsExpr, IsExpression, number, name, local, own_priority, is_cancelled, parenthesis, negated, inverted, alone, chained, compared, ◌>>=◌, Read, operator_in, of_precedence, with_rest, most_operators, on_operator, expr_in}
use Rattle.swift_types.specs.declared.operator.Operator.TheVariants as op
use Rattle.script_tokens.specs.declared.keyword.Keyword.TheVariants as key
use Rattle.script_tokens.specs.declared.mark.Mark.TheVariants as mark
use Rattle.script_parser.specs.Model.Expressions.{operator_at, checked, closed_at, atom_at, unary_at, operands_at, level_at, inside_at}
use Rattle.script_parser.proofs.Steps.{done, ok_is, some_is, step_ok, allowed_is}
use Rattle.script_parser.proofs.Tokens.{name_is}

-- a test that did not fail
guard_ok : {A : Type 0} (b : Bool) (d : ParseFault) (x y : A) → cond b (Err d) (Ok x) ≡ Ok y → (b ≡ false) × (x ≡ y)
guard_ok true d x y e = absurd cc
guard_ok false d x y e = (refl, cc)

-- What was taken from the front, and what is left.
pub record Takes (atoms : Atoms) (limit o k : ℕ) (ts : List TokenView) (t : ExprTree) (rest : List TokenView) : Type 0 where
  pub front : List TokenView
  pub parts : ts ≡ front ++ rest
  pub spells : SpellsExpr atoms o k front t
  pub low : height_of t ≤ limit

abbrev IsSound : Atoms → ℕ → ℕ → ℕ → Read → Type 0
IsSound atoms limit o k read = (ts : List TokenView) (x : ExprTree × List TokenView) → read ts ≡ Ok x → Takes atoms limit o k ts x.0 x.1

-- what is read after an opening parenthesis
abbrev IsSoundInside : Atoms → ℕ → ℕ → Type 0
IsSoundInside atoms limit o = (paren ts : List TokenView) (x : ExprTree × List TokenView) → inside_at atoms limit o paren ts ≡ Ok x → (p : ℕ) × (o ≡ suc p) × Takes atoms limit p 5 ts x.0 x.1

-- An expression that is read is spelled by what was taken.
pub record TakesExpr (atoms : Atoms) (limit o : ℕ) (ts : List TokenView) (t : ExprTree) (rest : List TokenView) : Type 0 where
  pub front : List TokenView
  pub parts : ts ≡ front ++ rest
  pub spells : IsExpression atoms limit o front t

module _ (atoms : Atoms) (limit : ℕ) (positive : 0 < limit) where
  checked_ok : (ts : List TokenView) (t u : ExprTree) → checked limit ts t ≡ Ok u → (t ≡ u) × (height_of t ≤ limit)
  unfolding checked
  checked_ok ts t u e =
      let g = guard_ok (ltb limit (height_of t)) _ t u e in
      (g.1, ltb-false _ _ g.0)

  closed_ok : (t : ExprTree) (ts : List TokenView) (x : ExprTree × List TokenView) → closed_at t ts ≡ Ok x → (t ≡ x.0) × (ts ≡ Sign mark.Close ∷ x.1)
  unfolding closed_at
  closed_ok t [] x e = absurd cc
  closed_ok t (Sign mark.Close ∷ ts) x e = let is = ok_is (t, ts) x e in (ap (λ (y : ExprTree × List TokenView). y.0) is, ap (λ (y : ExprTree × List TokenView). Sign mark.Close ∷ y.1) is)
  closed_ok t (_ ∷ ts) x e = absurd cc

  inside_takes : (o : ℕ) → IsSoundInside atoms limit o → (ts : List TokenView) (x : ExprTree × List TokenView) → (inside_at atoms limit o (Sign mark.Open ∷ ts) ts >>= λ a. closed_at a.0 a.1) ≡ Ok x → Takes atoms limit o zero (Sign mark.Open ∷ ts) x.0 x.1
  inside_takes o sound ts x e =
      let b = step_ok e in
      let c = closed_ok b.0.0 b.0.1 x b.2 in
      let s = sound (Sign mark.Open ∷ ts) ts b.0 b.1 in
      let low : height_of x.0 ≤ limit = subst (λ (t : ExprTree). height_of t ≤ limit) c.0 s.2.low in
      let spells : SpellsExpr atoms (suc s.0) zero (Sign mark.Open ∷ (s.2.front ++ Sign mark.Close ∷ [])) x.0 = subst (λ (t : ExprTree). SpellsExpr atoms (suc s.0) zero (Sign mark.Open ∷ (s.2.front ++ Sign mark.Close ∷ [])) t) c.0 (parenthesis s.2.spells) in
      record {
        front = Sign mark.Open ∷ (s.2.front ++ Sign mark.Close ∷ []);
        parts = ap (λ (w : List TokenView). Sign mark.Open ∷ w) (s.2.parts ∙ ap (λ (w : List TokenView). s.2.front ++ w) c.1 ∙ sym (append_assoc s.2.front (Sign mark.Close ∷ []) x.1));
        spells = subst (λ (p : ℕ). SpellsExpr atoms p zero (Sign mark.Open ∷ (s.2.front ++ Sign mark.Close ∷ [])) x.0) (sym s.1) spells;
        low = low;
      }

  negated_takes : (o : ℕ) (ts : List TokenView) (a : ExprTree × List TokenView) (x : ExprTree × List TokenView) → Takes atoms limit o zero ts a.0 a.1 → (checked limit (Sign mark.Minus ∷ ts) (Negated a.0) >>= λ t. Ok (t, a.1)) ≡ Ok x → Takes atoms limit o zero (Sign mark.Minus ∷ ts) x.0 x.1
  negated_takes o ts a x taken e =
      let b = step_ok e in
      let c = checked_ok (Sign mark.Minus ∷ ts) (Negated a.0) b.0 b.1 in
      let is : (Negated a.0, a.1) ≡ x = ap (λ (t : ExprTree). (t, a.1)) c.0 ∙ ok_is (b.0, a.1) x b.2 in
      subst (λ (y : ExprTree × List TokenView). Takes atoms limit o zero (Sign mark.Minus ∷ ts) y.0 y.1) is (record { front = Sign mark.Minus ∷ taken.front; parts = ap (λ (w : List TokenView). Sign mark.Minus ∷ w) taken.parts; spells = negated taken.spells; low = c.1 })

  inverted_takes : (o : ℕ) (ts : List TokenView) (a : ExprTree × List TokenView) (x : ExprTree × List TokenView) → Takes atoms limit o zero ts a.0 a.1 → (checked limit (Sign mark.Bang ∷ ts) (Inverted a.0) >>= λ t. Ok (t, a.1)) ≡ Ok x → Takes atoms limit o zero (Sign mark.Bang ∷ ts) x.0 x.1
  inverted_takes o ts a x taken e =
      let b = step_ok e in
      let c = checked_ok (Sign mark.Bang ∷ ts) (Inverted a.0) b.0 b.1 in
      let is : (Inverted a.0, a.1) ≡ x = ap (λ (t : ExprTree). (t, a.1)) c.0 ∙ ok_is (b.0, a.1) x b.2 in
      subst (λ (y : ExprTree × List TokenView). Takes atoms limit o zero (Sign mark.Bang ∷ ts) y.0 y.1) is (record { front = Sign mark.Bang ∷ taken.front; parts = ap (λ (w : List TokenView). Sign mark.Bang ∷ w) taken.parts; spells = inverted taken.spells; low = c.1 })

  atom_made : (o : ℕ) (ts front rest : List TokenView) (t : ExprTree) (x : ExprTree × List TokenView) → ts ≡ front ++ rest → SpellsExpr atoms o zero front t → height_of t ≡ 1 → done (t, rest) ≡ Ok x → Takes atoms limit o zero ts x.0 x.1
  atom_made o ts front rest t x parts spells low e =
      subst (λ (y : ExprTree × List TokenView). Takes atoms limit o zero ts y.0 y.1) (ok_is (t, rest) x e) (record { front = front; parts = parts; spells = spells; low = omega (arith, low, positive) })

  atom_takes : (o : ℕ) (ts : List TokenView) (x : ExprTree × List TokenView) → atom_at atoms ts ≡ Ok x → Takes atoms limit o zero ts x.0 x.1
  unfolding atom_at
  atom_takes o [] x e = absurd cc
  atom_takes o (Num v ∷ ts) x e = atom_made o (Num v ∷ ts) (Num v ∷ []) ts (Number v) x refl (number v) refl e
  atom_takes o (Name v ∷ ts) x e = atom_made o (Name v ∷ ts) (Name v ∷ []) ts (Named v) x refl (name v) refl e
  atom_takes o (Sign mark.At ∷ ts) x e =
      let b = step_ok e in
      let n = step_ok b.2 in
      let may = allowed_is (has_every_atom atoms) (Sign mark.At ∷ ts) b.0 b.1 in
      atom_made o (Sign mark.At ∷ ts) (Sign mark.At ∷ Name n.0.0 ∷ []) n.0.1 (Local n.0.0) x (ap (λ (w : List TokenView). Sign mark.At ∷ w) (name_is ts n.0 n.1)) (local n.0.0 may.0) refl n.2
  atom_takes o (Key key.Priority ∷ ts) x e =
      let b = step_ok e in
      let may = allowed_is (has_every_atom atoms) (Key key.Priority ∷ ts) b.0 b.1 in
      atom_made o (Key key.Priority ∷ ts) (Key key.Priority ∷ []) ts OwnPriority x refl (own_priority may.0) refl b.2
  atom_takes o (Key key.Cancelled ∷ ts) x e =
      let b = step_ok e in
      let may = allowed_is (has_every_atom atoms) (Key key.Cancelled ∷ ts) b.0 b.1 in
      atom_made o (Key key.Cancelled ∷ ts) (Key key.Cancelled ∷ []) ts IsCancelled x refl (is_cancelled may.0) refl b.2
  atom_takes o (_ ∷ ts) x e = absurd cc

  unary_takes : (o : ℕ) → IsSoundInside atoms limit o → (first : List TokenView) (n : ℕ) (ts : List TokenView) (x : ExprTree × List TokenView) → unary_at atoms limit (inside_at atoms limit o) first n ts ≡ Ok x → Takes atoms limit o zero ts x.0 x.1
  unfolding unary_at
  unary_takes o sound first n (Sign mark.Open ∷ ts) x e = inside_takes o sound ts x e
  unary_takes o sound first zero (Sign mark.Minus ∷ ts) x e = absurd cc
  unary_takes o sound first (suc n) (Sign mark.Minus ∷ ts) x e =
      let b = step_ok e in
      negated_takes o ts b.0 x (unary_takes o sound first n ts b.0 b.1) b.2
  unary_takes o sound first zero (Sign mark.Bang ∷ ts) x e = absurd cc
  unary_takes o sound first (suc n) (Sign mark.Bang ∷ ts) x e =
      let b = step_ok e in
      inverted_takes o ts b.0 x (unary_takes o sound first n ts b.0 b.1) b.2
  unary_takes o sound first n ts x e = atom_takes o ts x e

  mark_from : (m : Mark) (o : Operator) → operator_in m ≡ Some o → m ≡ mark_of o
  mark_from mark.Or o e = ap mark_of (some_is op.Or o e)
  mark_from mark.And o e = ap mark_of (some_is op.And o e)
  mark_from mark.Equal o e = ap mark_of (some_is op.Equal o e)
  mark_from mark.Unequal o e = ap mark_of (some_is op.Unequal o e)
  mark_from mark.Less o e = ap mark_of (some_is op.Less o e)
  mark_from mark.AtMost o e = ap mark_of (some_is op.AtMost o e)
  mark_from mark.Greater o e = ap mark_of (some_is op.Greater o e)
  mark_from mark.AtLeast o e = ap mark_of (some_is op.AtLeast o e)
  mark_from mark.Plus o e = ap mark_of (some_is op.Plus o e)
  mark_from mark.Minus o e = ap mark_of (some_is op.Minus o e)
  mark_from mark.Times o e = ap mark_of (some_is op.Times o e)
  mark_from _ o e = absurd cc

  chosen_is : (b : Bool) (q o : Operator) (ts following : List TokenView) → with_rest (cond b (Some q) None) ts ≡ Some (o, following) → (b ≡ true) × (q ≡ o) × (ts ≡ following)
  chosen_is true q o ts following e =
      let is = some_is (q, ts) (o, following) e in
      (refl, ap (λ (p : Operator × List TokenView). p.0) is, ap (λ (p : Operator × List TokenView). p.1) is)
  chosen_is false q o ts following e = absurd cc

  of_mark_is : (k : ℕ) (q : Option Operator) (o : Operator) (ts following : List TokenView) → with_rest (of_precedence k q) ts ≡ Some (o, following) → (q ≡ Some o) × (precedence_of o ≡ k) × (ts ≡ following)
  of_mark_is k None o ts following e = absurd cc
  of_mark_is k (Some q) o ts following e =
      let c = chosen_is (eqb (precedence_of q) k) q o ts following e in
      (ap (λ (p : Operator). Some p) c.1, sym (ap precedence_of c.1) ∙ eqb-true (precedence_of q) k c.0, c.2)

  operator_at_is : (k : ℕ) (ts : List TokenView) (o : Operator) (following : List TokenView) → operator_at k ts ≡ Some (o, following) → (ts ≡ Sign (mark_of o) ∷ following) × (k ≡ precedence_of o)
  unfolding operator_at
  operator_at_is k [] o following e = absurd cc
  operator_at_is k (Sign m ∷ ts) o following e =
      let c = of_mark_is k (operator_in m) o ts following e in
      (ap (λ (w : Mark). Sign w ∷ ts) (mark_from m o c.0) ∙ ap (λ (w : List TokenView). Sign (mark_of o) ∷ w) c.2, sym c.1)
  operator_at_is k (_ ∷ ts) o following e = absurd cc

  -- what reading of operands stands on: it may join a further one
  abbrev MayJoin : ℕ → ℕ → ℕ → List TokenView → ExprTree → Type 0
  MayJoin o k n front left = (m : ℕ) → n ≡ suc m → (suc k ≢ 3) ⊎ ((m ≡ 0) × SpellsExpr atoms o k front left)

  joined : (o k m : ℕ) (q : Operator) (front rs : List TokenView) (left right : ExprTree) → suc k ≡ precedence_of q → (suc k ≢ 3) ⊎ ((m ≡ 0) × SpellsExpr atoms o k front left) → SpellsExpr atoms o (suc k) front left → SpellsExpr atoms o k rs right → suc k ≡ 3 ⊎ (suc k ≢ 3)
      → SpellsExpr atoms o (suc k) (front ++ Sign (mark_of q) ∷ rs) (Both q left right)
  joined o k m q front rs left right e (inl ne) whole operand d = chained q e ne whole operand
  joined o k m q front rs left right e (inr p) whole operand (inl three) = compared q e three p.1 operand
  joined o k m q front rs left right e (inr p) whole operand (inr ne) = chained q e ne whole operand

  is_three : (k : ℕ) → k ≡ 3 ⊎ (k ≢ 3)
  is_three k = search (arith, nat_tests)

  may_join_next : (o k n : ℕ) (front : List TokenView) (left : ExprTree) (front' : List TokenView) (left' : ExprTree) → (suc k ≢ 3) ⊎ ((n ≡ 0) × SpellsExpr atoms o k front left) → MayJoin o k n front' left'
  may_join_next o k n front left front' left' (inl ne) = λ m e. inl ne
  may_join_next o k n front left front' left' (inr p) = λ m e. absurd (omega (arith, p.0))

  -- how one further operand is joined, where the rest is sound
  operands_step : (o k : ℕ) → IsSound atoms limit o k (level_at atoms limit (inside_at atoms limit o) k) → (n : ℕ) (left : ExprTree) (all front ts : List TokenView) (x : ExprTree × List TokenView) → all ≡ front ++ ts → SpellsExpr atoms o (suc k) front left → height_of left ≤ limit → MayJoin o k (suc n) front left
      → ((left' : ExprTree) (front' ts' : List TokenView) → all ≡ front' ++ ts' → SpellsExpr atoms o (suc k) front' left' → height_of left' ≤ limit → MayJoin o k n front' left' → operands_at limit (level_at atoms limit (inside_at atoms limit o) k) (suc k) n left' ts' ≡ Ok x → Takes atoms limit o (suc k) all x.0 x.1)
      → (found : Option (Operator × List TokenView)) → operator_at (suc k) ts ≡ found
      → on_operator found (Ok (left, ts)) (λ q rest. level_at atoms limit (inside_at atoms limit o) k rest >>= λ right. checked limit ts (Both q left right.0) >>= λ t. operands_at limit (level_at atoms limit (inside_at atoms limit o) k) (suc k) n t right.1) ≡ Ok x
      → Takes atoms limit o (suc k) all x.0 x.1
  operands_step o k sound n left all front ts x parts spells low may next None is e = subst (λ (y : ExprTree × List TokenView). Takes atoms limit o (suc k) all y.0 y.1) (ok_is (left, ts) x e) (record { front = front; parts = parts; spells = spells; low = low })
  operands_step o k sound n left all front ts x parts spells low may next (Some f) is e =
      let b = step_ok e in
      let c = step_ok b.2 in
      let d = checked_ok ts (Both f.0 left b.0.0) c.0 c.1 in
      let at = operator_at_is (suc k) ts f.0 f.1 is in
      let right = sound f.1 b.0 b.1 in
      let front' = front ++ (Sign (mark_of f.0) ∷ right.front) in
      let parts' : all ≡ front' ++ b.0.1 = parts ∙ ap (λ (w : List TokenView). front ++ w) (at.0 ∙ ap (λ (w : List TokenView). Sign (mark_of f.0) ∷ w) right.parts) ∙ sym (append_assoc front (Sign (mark_of f.0) ∷ right.front) b.0.1) in
      let whole = joined o k n f.0 front right.front left b.0.0 at.1 (may n refl) spells right.spells (is_three (suc k)) in
      next c.0 front' b.0.1 parts'
      (subst (λ (t : ExprTree). SpellsExpr atoms o (suc k) front' t) d.0 whole)
      (subst (λ (t : ExprTree). height_of t ≤ limit) d.0 d.1)
      (may_join_next o k n front left front' c.0 (may n refl))
      c.2

  operands_takes : (o k : ℕ) → IsSound atoms limit o k (level_at atoms limit (inside_at atoms limit o) k) → (n : ℕ) (left : ExprTree) (all front ts : List TokenView) (x : ExprTree × List TokenView) → all ≡ front ++ ts → SpellsExpr atoms o (suc k) front left → height_of left ≤ limit → MayJoin o k n front left
      → operands_at limit (level_at atoms limit (inside_at atoms limit o) k) (suc k) n left ts ≡ Ok x → Takes atoms limit o (suc k) all x.0 x.1
  unfolding operands_at
  operands_takes o k sound zero left all front ts x parts spells low may e = subst (λ (y : ExprTree × List TokenView). Takes atoms limit o (suc k) all y.0 y.1) (ok_is (left, ts) x e) (record { front = front; parts = parts; spells = spells; low = low })
  operands_takes o k sound (suc n) left all front ts x parts spells low may e =
      operands_step o k sound n left all front ts x parts spells low may
      (λ left' front' ts' parts' spells' low' may' e'. operands_takes o k sound n left' all front' ts' x parts' spells' low' may' e')
      (operator_at (suc k) ts) refl e

  one_more : (k m : ℕ) → k ≡ 3 → most_operators limit k ≡ suc m → m ≡ 0
  one_more k m three e = grind (arith, nat_tests)

  may_join_first : (o k : ℕ) (front : List TokenView) (left : ExprTree) → SpellsExpr atoms o k front left → (suc k ≡ 3) ⊎ (suc k ≢ 3) → MayJoin o k (most_operators limit (suc k)) front left
  may_join_first o k front left spells (inl three) = λ m e. inr (one_more (suc k) m three e, spells)
  may_join_first o k front left spells (inr ne) = λ m e. inl ne

  level_takes : (o : ℕ) → IsSoundInside atoms limit o → (k : ℕ) → IsSound atoms limit o k (level_at atoms limit (inside_at atoms limit o) k)
  unfolding level_at
  level_takes o inside zero ts x e = unary_takes o inside ts (limit - 1) ts x e
  level_takes o inside (suc k) ts x e =
      let b = step_ok e in
      let first = level_takes o inside k ts b.0 b.1 in
      operands_takes o k (level_takes o inside k) (most_operators limit (suc k)) b.0.0 ts first.front b.0.1 x first.parts (alone first.spells) first.low (may_join_first o k first.front b.0.0 first.spells (is_three (suc k))) b.2

  inside_sound : (o : ℕ) → IsSoundInside atoms limit o
  unfolding inside_at
  inside_sound zero paren ts x e = absurd cc
  inside_sound (suc p) paren ts x e = (p, refl, level_takes p (inside_sound p) 5 ts x e)

  pub expr_takes : (o : ℕ) (ts : List TokenView) (x : ExprTree × List TokenView) → expr_in atoms limit o ts ≡ Ok x → TakesExpr atoms limit o ts x.0 x.1
  expr_takes o ts x e =
      let t = level_takes o (inside_sound o) 5 ts x e in
      record { front = t.front; parts = t.parts; spells = record { spelled = t.spells; low = t.low } }

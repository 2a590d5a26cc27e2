-- The tokens of an expression spell it.
use Rattle.std.proofs.Common.{◌≡◌, ℕ, zero, suc, ◌-◌, ◌+◌, ◌≤◌, Bool, true, false, ◌&&◌, nat_lt, List, [], ◌∷◌, ◌++◌, map, refl, sym, subst, arith}
use Rattle.std.proofs.lemmas.Bool.{false≢true}
use Rattle.std.proofs.lemmas.Bool.Decides.{nat_tests}
use Rattle.std.proofs.lemmas.List.{map-append}
use Rattle.swift_types.specs.declared.operator.Operator.{Operator}
use Rattle.swift_types.specs.declared.operator.Operator.TheVariants as op
use Rattle.script_tokens.specs.declared.mark.Mark.TheVariants as mark
use Rattle.script_tokens.specs.Pieces.{TokenView, Sign}
use Rattle.script_grammar.specs.declared.region.Atoms.TheVariants.{Every}
use Rattle.script_grammar.specs.Grammar.{mark_of, precedence_of, SpellsExpr, number, name, is_cancelled, parenthesis, negated, inverted, alone, chained, compared}
use Rattle.script_grammar.specs.Tree.{ExprTree, Number, Named, Local, OwnPriority, IsCancelled, Negated, Inverted, Both, height_of}
use Rattle.plain_parts.specs.Expressions.{PlainToken, Bare, Spaced, token_in, left_of, enclosed, is_made_of_parts, expr_tokens, renamed, reads_plain}

at_level : {o : ℕ} {ts : List TokenView} {t : ExprTree} (k : ℕ) → SpellsExpr Every o zero ts t → SpellsExpr Every o k ts t
at_level zero d = d
at_level (suc k) d = alone (at_level k d)

lift : {o j : ℕ} {ts : List TokenView} {t : ExprTree} (n : ℕ) → SpellsExpr Every o j ts t → SpellsExpr Every o (n + j) ts t
lift {o} {j} {ts} {t} zero d =
    let e : j ≡ zero + j = omega arith in
    subst (λ m. SpellsExpr Every o m ts t) e d
lift {o} {j} {ts} {t} (suc n) d =
    let e : suc (n + j) ≡ suc n + j = omega arith in
    subst (λ m. SpellsExpr Every o m ts t) e (alone (lift n d))

raise : {o : ℕ} {ts : List TokenView} {t : ExprTree} (j k : ℕ) → j ≤ k → SpellsExpr Every o j ts t → SpellsExpr Every o k ts t
raise {o} {ts} {t} j k h d =
    let e : (k - j) + j ≡ k = omega (arith, h) in
    subst (λ n. SpellsExpr Every o n ts t) e (lift (k - j) d)

low : (o : Operator) → precedence_of o ≤ 5
low op.Or = omega arith
low op.And = omega arith
low op.Equal = omega arith
low op.Unequal = omega arith
low op.Less = omega arith
low op.AtMost = omega arith
low op.Greater = omega arith
low op.AtLeast = omega arith
low op.Plus = omega arith
low op.Minus = omega arith
low op.Times = omega arith

-- an operator between two operands that hold tightly enough
between : {o : ℕ} {ls rs : List TokenView} {a b : ExprTree} (q : Operator) → SpellsExpr Every o (left_of q) ls a → SpellsExpr Every o (precedence_of q - 1) rs b → SpellsExpr Every o (precedence_of q) (ls ++ Sign (mark_of q) ∷ rs) (Both q a b)
between op.Or d e = chained {k = 4} op.Or refl (λ x. absurd (omega (arith, x))) d e
between op.And d e = chained {k = 3} op.And refl (λ x. absurd (omega (arith, x))) d e
between op.Equal d e = compared {k = 2} op.Equal refl refl d e
between op.Unequal d e = compared {k = 2} op.Unequal refl refl d e
between op.Less d e = compared {k = 2} op.Less refl refl d e
between op.AtMost d e = compared {k = 2} op.AtMost refl refl d e
between op.Greater d e = compared {k = 2} op.Greater refl refl d e
between op.AtLeast d e = compared {k = 2} op.AtLeast refl refl d e
between op.Plus d e = chained {k = 1} op.Plus refl (λ x. absurd (omega (arith, x))) d e
between op.Minus d e = chained {k = 1} op.Minus refl (λ x. absurd (omega (arith, x))) d e
between op.Times d e = chained {k = 0} op.Times refl (λ x. absurd (omega (arith, x))) d e

-- tokens in a parenthesis
in_parenthesis : {o : ℕ} {t : ExprTree} (ts : List PlainToken) → SpellsExpr Every o 5 (map token_in ts) t → SpellsExpr Every (suc o) zero (map token_in (enclosed true ts)) t
in_parenthesis {o} {t} ts d = subst (λ us. SpellsExpr Every (suc o) zero (Sign mark.Open ∷ us) t) (sym (map-append token_in ts (Bare (Sign mark.Close) ∷ []))) (parenthesis d)

not_less : (m n : ℕ) → nat_lt m n ≡ false → n ≤ m
not_less m n e = grind (arith, nat_tests)

-- the tokens of an operator, in a parenthesis or not
framed : (b : Bool) (p k o : ℕ) (ts : List PlainToken) (t : ExprTree) → nat_lt k p ≡ b → p ≤ 5 → SpellsExpr Every (suc o) p (map token_in ts) t → SpellsExpr Every o p (map token_in ts) t → SpellsExpr Every (suc o) k (map token_in (enclosed b ts)) t
framed true p k o ts t e h d inner = at_level k (in_parenthesis ts (raise p 5 h inner))
framed false p k o ts t e h d inner = raise p k (not_less k p e) d

spaced : (q : Operator) (xs ys : List PlainToken) → map token_in (xs ++ Spaced (Sign (mark_of q)) ∷ ys) ≡ map token_in xs ++ Sign (mark_of q) ∷ map token_in ys
spaced q xs ys = map-append token_in xs (Spaced (Sign (mark_of q)) ∷ ys)

both : (f : List ℕ → List ℕ) (o : ℕ) (q : Operator) (a b : ExprTree) → SpellsExpr Every o (left_of q) (map token_in (expr_tokens f a (left_of q))) (renamed f a) → SpellsExpr Every o (precedence_of q - 1) (map token_in (expr_tokens f b (precedence_of q - 1))) (renamed f b) → SpellsExpr Every o (precedence_of q) (map token_in (expr_tokens f a (left_of q) ++ Spaced (Sign (mark_of q)) ∷ expr_tokens f b (precedence_of q - 1))) (Both q (renamed f a) (renamed f b))
both f o q a b d e = subst (λ us. SpellsExpr Every o (precedence_of q) us (Both q (renamed f a) (renamed f b))) (sym (spaced q (expr_tokens f a (left_of q)) (expr_tokens f b (precedence_of q - 1)))) (between q d e)

left_side : (a b : Bool) → (a && b) ≡ true → a ≡ true
left_side true b e = refl
left_side false b e = e

right_side : (a b : Bool) → (a && b) ≡ true → b ≡ true
right_side true b e = e
right_side false b e = absurd (false≢true e)

high : (t : ExprTree) → 1 ≤ height_of t
high (Number n) = omega arith
high (Named w) = omega arith
high (Local w) = omega arith
high OwnPriority = omega arith
high IsCancelled = omega arith
high (Negated a) = omega arith
high (Inverted a) = omega arith
high (Both q a b) = omega arith

-- what stands behind a prefix: an atom, or else a parenthesis
behind : (f : List ℕ → List ℕ) (a : ExprTree) (o : ℕ) → reads_plain a ≡ true → SpellsExpr Every o 5 (map token_in (expr_tokens f a 5)) (renamed f a) → SpellsExpr Every (suc o) zero (map token_in (enclosed (is_made_of_parts a) (expr_tokens f a 5))) (renamed f a)
behind f (Number n) o p d = number n
behind f (Named w) o p d = name (f w)
behind f (Local w) o p d = absurd (false≢true p)
behind f OwnPriority o p d = absurd (false≢true p)
behind f IsCancelled o p d = is_cancelled refl
behind f (Negated a) o p d = in_parenthesis (expr_tokens f (Negated a) 5) d
behind f (Inverted a) o p d = in_parenthesis (expr_tokens f (Inverted a) 5) d
behind f (Both q a b) o p d = in_parenthesis (expr_tokens f (Both q a b) 5) d

-- The tokens of an expression spell it at each level, with its names as they are written.
pub spells : (f : List ℕ → List ℕ) (e : ExprTree) (o k : ℕ) → reads_plain e ≡ true → height_of e ≤ o → SpellsExpr Every o k (map token_in (expr_tokens f e k)) (renamed f e)
spells f (Number n) o k p h = at_level k (number n)
spells f (Named w) o k p h = at_level k (name (f w))
spells f (Local w) o k p h = absurd (false≢true p)
spells f OwnPriority o k p h = absurd (false≢true p)
spells f IsCancelled o k p h = at_level k (is_cancelled refl)
spells f (Negated a) zero k p h = absurd (omega (arith, h))
spells f (Negated a) (suc o) k p h = at_level k (negated (behind f a o p (spells f a o 5 p (omega (arith, h)))))
spells f (Inverted a) zero k p h = absurd (omega (arith, h))
spells f (Inverted a) (suc o) k p h = at_level k (inverted (behind f a o p (spells f a o 5 p (omega (arith, h)))))
spells f (Both q a b) zero k p h = absurd (omega (arith, h))
spells f (Both q a b) (suc o) k p h =
    let pa : reads_plain a ≡ true = left_side (reads_plain a) (reads_plain b) p in
    let pb : reads_plain b ≡ true = right_side (reads_plain a) (reads_plain b) p in
    framed (nat_lt k (precedence_of q)) (precedence_of q) k o (expr_tokens f a (left_of q) ++ Spaced (Sign (mark_of q)) ∷ expr_tokens f b (precedence_of q - 1)) (Both q (renamed f a) (renamed f b)) refl (low q) (both f (suc o) q a b (spells f a (suc o) (left_of q) pa (omega (arith, h))) (spells f b (suc o) (precedence_of q - 1) pb (omega (arith, h)))) (both f o q a b (spells f a o (left_of q) pa (omega (arith, h))) (spells f b o (precedence_of q - 1) pb (omega (arith, h))))

use Rattle.std.proofs.Common.{◌≡◌, ℕ, ◌-◌, ◌≤◌, Bool, true, false, ◌==◌, cond, List, [], ◌∷◌, length, get_or, take, drop}
use Rattle.std.proofs.Common.{take_all, refl, ap, sym, ◌∙◌, arith}
use Rattle.std.proofs.lemmas.Bool.{eq-eqb, ne_eqb}
use Rattle.swift_syntax.specs.declared.front.Piece.{Piece}
use Rattle.swift_syntax.specs.declared.front.Piece.TheVariants.{Token}
use Rattle.swift_syntax.specs.declared.token.TokenKind.{TokenKind}
use Rattle.swift_syntax.specs.declared.token.TokenKind.TheVariants as kind
use Rattle.swift_syntax.specs.Fronts.{quoted_at}
use Rattle.swift_syntax.proofs.front.quoted.Goals as goal

-- what is at the front, and after it, in a string of this kind
abbrev At : Piece → List ℕ → List ℕ → Bool → TokenKind → Type 0
At p rest bs escaped k = let found : Piece × List ℕ = (p, rest) in found ≡ quoted_at bs escaped k

first_is : (a p : ℕ) → a ≡ p → (a == p) ≡ true
first_is a p e = eq-eqb a p e

first_not : (a p : ℕ) → (a ≡ p → ⊥) → (a == p) ≡ false
first_not a p ne = ne_eqb a p ne

ended : (a : ℕ) (bs : List ℕ) (k : TokenKind) → (a == 34) ≡ true → At (Token k) bs (a ∷ bs) false k
unfolding quoted_at
ended a bs k is = sym (ap (λ t. cond t (Token k, bs) (cond (a == 10) (Token kind.Stray, a ∷ bs) (quoted_at bs (a == 92) k))) is)

cut : (a : ℕ) (bs : List ℕ) (k : TokenKind) → (a == 34) ≡ false → (a == 10) ≡ true → At (Token kind.Stray) (a ∷ bs) (a ∷ bs) false k
unfolding quoted_at
cut a bs k ends is =
    sym (ap (λ t. cond t (Token k, bs) (cond (a == 10) (Token kind.Stray, a ∷ bs) (quoted_at bs (a == 92) k))) ends
    ∙ ap (λ t. cond t (Token kind.Stray, a ∷ bs) (quoted_at bs (a == 92) k)) is)

passed : (a : ℕ) (bs : List ℕ) (k : TokenKind) → (a == 34) ≡ false → (a == 10) ≡ false → quoted_at bs (a == 92) k ≡ quoted_at (a ∷ bs) false k
unfolding quoted_at
passed a bs k ends cuts =
    sym (ap (λ t. cond t (Token k, bs) (cond (a == 10) (Token kind.Stray, a ∷ bs) (quoted_at bs (a == 92) k))) ends
    ∙ ap (λ t. cond t (Token kind.Stray, a ∷ bs) (quoted_at bs (a == 92) k)) cuts)

escaped_as : (a : ℕ) (bs : List ℕ) (k after : TokenKind) → cond (a == 40) kind.Interpolated k ≡ after → quoted_at bs false after ≡ quoted_at (a ∷ bs) true k
unfolding quoted_at
escaped_as a bs k after e = ap (quoted_at bs false) (sym e)

behind : (bs : List ℕ) (n : ℕ) → length bs ≤ n → take n bs ≡ bs
behind bs n le = take_all n bs le

at_end : (bs : List ℕ) (escaped : Bool) (k : TokenKind) → 1 ≤ length bs → escaped ≡ false → get_or bs 0 0 ≡ 34 → At (Token k) (take (length bs - 1) (drop 1 bs)) bs escaped k
at_end [] escaped k l f e = absurd (omega (arith, l))
at_end (a ∷ bs) escaped k l f e =
    ap (λ (rest : List ℕ). let found : Piece × List ℕ = (Token k, rest) in found) (behind bs (length (a ∷ bs) - 1) (omega arith))
    ∙ ended a bs k (first_is a 34 e)
    ∙ ap (λ b. quoted_at (a ∷ bs) b k) (sym f)

at_line : (bs : List ℕ) (escaped : Bool) (k : TokenKind) → 1 ≤ length bs → escaped ≡ false → (get_or bs 0 0 ≡ 34 → ⊥) → get_or bs 0 0 ≡ 10 → At (Token kind.Stray) bs bs escaped k
at_line [] escaped k l f ne e = absurd (omega (arith, l))
at_line (a ∷ bs) escaped k l f ne e = cut a bs k (first_not a 34 ne) (first_is a 10 e) ∙ ap (λ b. quoted_at (a ∷ bs) b k) (sym f)

at_escaped : (bs : List ℕ) (escaped : Bool) (k after : TokenKind) → 1 ≤ length bs → escaped ≡ true → cond (get_or bs 0 0 == 40) kind.Interpolated k ≡ after → quoted_at (take (length bs - 1) (drop 1 bs)) false after ≡ quoted_at bs escaped k
at_escaped [] escaped k after l t e = absurd (omega (arith, l))
at_escaped (a ∷ bs) escaped k after l t e =
    ap (λ (rest : List ℕ). quoted_at rest false after) (behind bs (length (a ∷ bs) - 1) (omega arith))
    ∙ escaped_as a bs k after e
    ∙ ap (λ b. quoted_at (a ∷ bs) b k) (sym t)

at_other : (bs : List ℕ) (escaped : Bool) (k : TokenKind) → 1 ≤ length bs → escaped ≡ false → (get_or bs 0 0 ≡ 34 → ⊥) → (get_or bs 0 0 ≡ 10 → ⊥) → quoted_at (take (length bs - 1) (drop 1 bs)) (get_or bs 0 0 == 92) k ≡ quoted_at bs escaped k
at_other [] escaped k l f ne no_line = absurd (omega (arith, l))
at_other (a ∷ bs) escaped k l f ne no_line =
    ap (λ (rest : List ℕ). quoted_at rest (a == 92) k) (behind bs (length (a ∷ bs) - 1) (omega arith))
    ∙ passed a bs k (first_not a 34 ne) (first_not a 10 no_line)
    ∙ ap (λ b. quoted_at (a ∷ bs) b k) (sym f)

at_last : (bs : List ℕ) (escaped : Bool) (k : TokenKind) → length bs ≡ 0 → At (Token kind.Stray) bs bs escaped k
unfolding quoted_at
at_last [] escaped k e = refl
at_last (a ∷ bs) escaped k e = absurd (omega (arith, e))

tail_len : (bs : List ℕ) → length (take (length bs - 1) (drop 1 bs)) ≤ length bs
tail_len [] = omega arith
tail_len (a ∷ bs) = rw (behind bs (length (a ∷ bs) - 1) (omega arith)) (omega arith)

pub returns-then-byte-eq34-clause-front : goal.returns-then-byte-eq34-clause-front
returns-then-byte-eq34-clause-front c =
    at_end c.loop-rest.rest.now c.loop-rest.is_escaped c.loop-rest.kind c.in-len1-up.len_at_least c.if-is_escaped.false c.if-byte-eq34.true
    ∙ c.loop-rest.invariant.same

pub returns-then-byte-eq10-clause-front : goal.returns-then-byte-eq10-clause-front
returns-then-byte-eq10-clause-front c =
    at_line c.loop-rest.rest.now c.loop-rest.is_escaped c.loop-rest.kind c.in-len1-up.len_at_least c.if-is_escaped.false c.if-byte-eq34.false c.if-byte-eq10.true
    ∙ c.loop-rest.invariant.same

pub loop-rest-preserved-then-byte-eq40 : goal.loop-rest-preserved-then-byte-eq40
loop-rest-preserved-then-byte-eq40 c = record {
  same =
      at_escaped c.loop-rest.rest.now c.loop-rest.is_escaped c.loop-rest.kind kind.Interpolated c.in-len1-up.len_at_least c.if-is_escaped.true (rw (first_is (get_or c.loop-rest.rest.now 0 0) 40 c.if-byte-eq40.true) refl)
      ∙ c.loop-rest.invariant.same;
  shorter = omega (arith, tail_len c.loop-rest.rest.now, c.loop-rest.invariant.shorter);
}

pub loop-rest-preserved-else-byte-eq40 : goal.loop-rest-preserved-else-byte-eq40
loop-rest-preserved-else-byte-eq40 c = record {
  same =
      at_escaped c.loop-rest.rest.now c.loop-rest.is_escaped c.loop-rest.kind c.loop-rest.kind c.in-len1-up.len_at_least c.if-is_escaped.true (rw (first_not (get_or c.loop-rest.rest.now 0 0) 40 c.if-byte-eq40.false) refl)
      ∙ c.loop-rest.invariant.same;
  shorter = omega (arith, tail_len c.loop-rest.rest.now, c.loop-rest.invariant.shorter);
}

pub loop-rest-preserved : goal.loop-rest-preserved
loop-rest-preserved c = record {
  same =
      at_other c.loop-rest.rest.now c.loop-rest.is_escaped c.loop-rest.kind c.in-len1-up.len_at_least c.if-is_escaped.false c.if-byte-eq34.false c.if-byte-eq10.false
      ∙ c.loop-rest.invariant.same;
  shorter = omega (arith, tail_len c.loop-rest.rest.now, c.loop-rest.invariant.shorter);
}

pub returns-clause-front : goal.returns-clause-front
returns-clause-front c =
    at_last c.loop-rest.rest.now c.loop-rest.is_escaped c.loop-rest.kind (omega arith)
    ∙ c.loop-rest.invariant.same

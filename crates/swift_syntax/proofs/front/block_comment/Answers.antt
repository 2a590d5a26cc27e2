use Rattle.std.proofs.Common.{◌≡◌, ℕ, ◌-◌, ◌<◌, ◌≤◌, true, false, ◌==◌, ◌&&◌, cond, List, [], ◌∷◌, length, get_or, take, drop}
use Rattle.std.proofs.Common.{take_all, refl, ap, sym, ◌∙◌, arith}
use Rattle.std.proofs.lemmas.Bool.{eq-eqb, ne_eqb}
use Rattle.swift_syntax.specs.declared.front.Piece.{Piece}
use Rattle.swift_syntax.specs.declared.front.Piece.TheVariants.{Space, Token}
use Rattle.swift_syntax.specs.declared.token.TokenKind.TheVariants as kind
use Rattle.swift_syntax.specs.Fronts.{block_comment_at}
use Rattle.swift_syntax.proofs.front.block_comment.Goals.{else-first-eq42-via-then-first-eq42+else-second-eq47, else-first-eq42-via-else-first-eq42, else-first-eq47-via-then-first-eq47+else-second-eq42, else-first-eq47-via-else-first-eq47}
use Rattle.swift_syntax.proofs.front.block_comment.Goals as goal

-- what is at the front, and after it
abbrev At : Piece → List ℕ → List ℕ → Type 0
At p rest bs = let found : Piece × List ℕ = (p, rest) in found ≡ block_comment_at bs

ended : (a b : ℕ) (bs : List ℕ) → (a == 42 && b == 47) ≡ true → At Space bs (a ∷ b ∷ bs)
unfolding block_comment_at
ended a b bs is = sym (ap (λ t. cond t (Space, bs) (cond (a == 47 && b == 42) (Token kind.Stray, bs) (block_comment_at (b ∷ bs)))) is)

within : (a b : ℕ) (bs : List ℕ) → (a == 42 && b == 47) ≡ false → (a == 47 && b == 42) ≡ true → At (Token kind.Stray) bs (a ∷ b ∷ bs)
unfolding block_comment_at
within a b bs ends is =
    sym (ap (λ t. cond t (Space, bs) (cond (a == 47 && b == 42) (Token kind.Stray, bs) (block_comment_at (b ∷ bs)))) ends
    ∙ ap (λ t. cond t (Token kind.Stray, bs) (block_comment_at (b ∷ bs))) is)

passed : (a b : ℕ) (bs : List ℕ) → (a == 42 && b == 47) ≡ false → (a == 47 && b == 42) ≡ false → block_comment_at (b ∷ bs) ≡ block_comment_at (a ∷ b ∷ bs)
unfolding block_comment_at
passed a b bs ends begins =
    sym (ap (λ t. cond t (Space, bs) (cond (a == 47 && b == 42) (Token kind.Stray, bs) (block_comment_at (b ∷ bs)))) ends
    ∙ ap (λ t. cond t (Token kind.Stray, bs) (block_comment_at (b ∷ bs))) begins)

both : (a b p q : ℕ) → a ≡ p → b ≡ q → (a == p && b == q) ≡ true
both a b p q e f = rw (eq-eqb a p e) (eq-eqb b q f)

first_not : (a b p q : ℕ) → (a ≡ p → ⊥) → (a == p && b == q) ≡ false
first_not a b p q ne = rw (ne_eqb a p ne) refl

second_not : (a b p q : ℕ) → a ≡ p → (b ≡ q → ⊥) → (a == p && b == q) ≡ false
second_not a b p q e ne = rw (eq-eqb a p e) (ne_eqb b q ne)

behind : (p : Piece) (bs : List ℕ) (n : ℕ) → length bs ≤ n → let found : Piece × List ℕ = (p, take n bs) in found ≡ (p, bs)
behind p bs n le = ap (λ (rest : List ℕ). let found : Piece × List ℕ = (p, rest) in found) (take_all n bs le)

at_end : (bs : List ℕ) → 2 ≤ length bs → get_or bs 0 0 ≡ 42 → get_or bs 1 0 ≡ 47 → At Space (take (length bs - 2) (drop 2 bs)) bs
at_end [] l e f = absurd (omega (arith, l))
at_end (a ∷ []) l e f = absurd (omega (arith, l))
at_end (a ∷ b ∷ bs) l e f = behind Space bs (length (a ∷ b ∷ bs) - 2) (omega arith) ∙ ended a b bs (both a b 42 47 e f)

at_begin : (bs : List ℕ) → 2 ≤ length bs → get_or bs 0 0 ≡ 47 → get_or bs 1 0 ≡ 42 → At (Token kind.Stray) (take (length bs - 2) (drop 2 bs)) bs
at_begin [] l e f = absurd (omega (arith, l))
at_begin (a ∷ []) l e f = absurd (omega (arith, l))
at_begin (a ∷ b ∷ bs) l e f = behind (Token kind.Stray) bs (length (a ∷ b ∷ bs) - 2) (omega arith) ∙ within a b bs (first_not a b 42 47 (λ h. omega arith)) (both a b 47 42 e f)

at_neither : (bs : List ℕ) → 2 ≤ length bs → (get_or bs 0 0 == 42 && get_or bs 1 0 == 47) ≡ false → (get_or bs 0 0 == 47 && get_or bs 1 0 == 42) ≡ false → block_comment_at (drop 1 bs) ≡ block_comment_at bs
at_neither [] l e f = absurd (omega (arith, l))
at_neither (a ∷ []) l e f = absurd (omega (arith, l))
at_neither (a ∷ b ∷ bs) l e f = passed a b bs e f

at_last : (bs : List ℕ) → length bs < 2 → At (Token kind.Stray) (drop (length bs) bs) bs
unfolding block_comment_at
at_last [] lt = refl
at_last (a ∷ []) lt = refl
at_last (a ∷ b ∷ bs) lt = absurd (omega (arith, lt))

pub returns-then-second-eq47-clause-front : goal.returns-then-second-eq47-clause-front
returns-then-second-eq47-clause-front c =
    at_end c.loop-rest.rest.now c.in-len2-up.len_at_least c.if-first-eq42.true c.if-second-eq47.true ∙ c.loop-rest.invariant.same

pub returns-then-second-eq42-clause-front : goal.returns-then-second-eq42-clause-front
returns-then-second-eq42-clause-front c =
    at_begin c.loop-rest.rest.now c.in-len2-up.len_at_least c.if-first-eq47.true c.if-second-eq42.true ∙ c.loop-rest.invariant.same

pub loop-rest-preserved : goal.loop-rest-preserved
loop-rest-preserved c =
    let bs = c.loop-rest.rest.now in
    let no_end : (get_or bs 0 0 == 42 && get_or bs 1 0 == 47) ≡ false = elim c.else-first-eq42.branch [
      | else-first-eq42-via-then-first-eq42+else-second-eq47 w ↦ second_not (get_or bs 0 0) (get_or bs 1 0) 42 47 w.if-first-eq42.true w.if-second-eq47.false
      | else-first-eq42-via-else-first-eq42 w ↦ first_not (get_or bs 0 0) (get_or bs 1 0) 42 47 w.if-first-eq42.false
    ] in
    let no_begin : (get_or bs 0 0 == 47 && get_or bs 1 0 == 42) ≡ false = elim c.else-first-eq47.branch [
      | else-first-eq47-via-then-first-eq47+else-second-eq42 w ↦ second_not (get_or bs 0 0) (get_or bs 1 0) 47 42 w.if-first-eq47.true w.if-second-eq42.false
      | else-first-eq47-via-else-first-eq47 w ↦ first_not (get_or bs 0 0) (get_or bs 1 0) 47 42 w.if-first-eq47.false
    ] in
    record {
      same = ap block_comment_at c.split_at.ensures.back ∙ at_neither bs c.in-len2-up.len_at_least no_end no_begin ∙ c.loop-rest.invariant.same;
      shorter = omega (arith, c.split_at.ensures.back_len, c.loop-rest.invariant.shorter);
    }

pub returns-clause-front : goal.returns-clause-front
returns-clause-front c =
    ap (λ (rest : List ℕ). let found : Piece × List ℕ = (Token kind.Stray, rest) in found) c.split_at-2.ensures.back
    ∙ at_last c.loop-rest.rest.now c.in_default.len_below
    ∙ c.loop-rest.invariant.same

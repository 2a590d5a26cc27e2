-- Reading levels one after the other, as a loop does.
use Rattle.script_parser.proofs.Prelude.{◌≡◌, ◌≤◌, ◌<◌, ℕ, zero, suc, ◌+◌, ◌-◌, false, List, Option, Some, None, Result, Ok, Err, refl, sym, ap, subst, ◌∙◌, arith, is_some, ParseFault, ReadError, TokenView, Atoms, ExprTree, NESTING, Fails, Read, ReadInside, operator_at, most_operators, unary_at}
use Rattle.std.specs.Option.{option_map}
use Rattle.script_parser.specs.declared.fault.ReadError.TheVariants as errors
use Rattle.script_parser.specs.Model.Expressions.{operands_at, level_at}

-- what is not found is not there
pub not_found : {A B : Type 0} (f : A → B) (o : Option A) (there : Option B) → is_some o ≡ false → option_map f o ≡ there → there ≡ None
not_found f None there e found = sym found
not_found f (Some x) there e found = absurd (cc)

no_operand : (operand : Read) (k most : ℕ) (left : ExprTree) (rest : List TokenView) → operator_at k rest ≡ None → operands_at NESTING operand k most left rest ≡ Ok (left, rest)
unfolding operands_at
no_operand operand k zero left rest e = refl
no_operand operand k (suc n) left rest e = rw e refl

module _ (atoms : Atoms) (inside : ReadInside) where
  -- the first level
  pub first_level : (ts : List TokenView) (r : Result (ExprTree × List TokenView) ParseFault) → unary_at atoms NESTING inside ts (NESTING - 1) ts ≡ r → level_at atoms NESTING inside 0 ts ≡ r
  unfolding level_at
  first_level ts r e = e

  next_level : (k : ℕ) (ts : List TokenView) (left : ExprTree) (rest : List TokenView) → level_at atoms NESTING inside k ts ≡ Ok (left, rest) → level_at atoms NESTING inside (suc k) ts ≡ operands_at NESTING (level_at atoms NESTING inside k) (suc k) (most_operators NESTING (suc k)) left rest
  unfolding level_at
  next_level k ts left rest e = rw e refl

  -- the next level has further operands
  pub level_with : (k most : ℕ) (ts : List TokenView) (left : ExprTree) (rest : List TokenView) → most ≡ most_operators NESTING (k + 1) → level_at atoms NESTING inside k ts ≡ Ok (left, rest) → level_at atoms NESTING inside (k + 1) ts ≡ operands_at NESTING (level_at atoms NESTING inside ((k + 1) - 1)) (k + 1) most left rest
  level_with k most ts left rest m e =
      let up : k + 1 ≡ suc k = omega arith in
      let down : k ≡ (k + 1) - 1 = omega arith in
      let as_many : most_operators NESTING (suc k) ≡ most = sym (m ∙ ap (most_operators NESTING) up) in
      (λ i. level_at atoms NESTING inside (up i) ts) ∙ next_level k ts left rest e ∙ (λ i. operands_at NESTING (level_at atoms NESTING inside (down i)) (sym up i) (as_many i) left rest)

  -- or none, where no operator stands
  pub level_without : (k : ℕ) (ts : List TokenView) (left : ExprTree) (rest : List TokenView) → operator_at (k + 1) rest ≡ None → level_at atoms NESTING inside k ts ≡ Ok (left, rest) → level_at atoms NESTING inside (k + 1) ts ≡ Ok (left, rest)
  level_without k ts left rest none e = level_with k (most_operators NESTING (k + 1)) ts left rest refl e ∙ no_operand (level_at atoms NESTING inside ((k + 1) - 1)) (k + 1) (most_operators NESTING (k + 1)) left rest none

  next_fails : (f : ParseFault) (k : ℕ) (ts : List TokenView) → level_at atoms NESTING inside k ts ≡ Err f → level_at atoms NESTING inside (suc k) ts ≡ Err f
  unfolding level_at
  next_fails f k ts e = rw e refl

  later_fails : (f : ParseFault) (d k : ℕ) (ts : List TokenView) → level_at atoms NESTING inside k ts ≡ Err f → level_at atoms NESTING inside (d + k) ts ≡ Err f
  later_fails f zero k ts e =
      let same : k ≡ 0 + k = omega arith in
      subst (λ (m : ℕ). level_at atoms NESTING inside m ts ≡ Err f) same e
  later_fails f (suc d) k ts e =
      let same : suc (d + k) ≡ suc d + k = omega arith in
      subst (λ (m : ℕ). level_at atoms NESTING inside m ts ≡ Err f) same (next_fails f (d + k) ts (later_fails f d k ts e))

  level_fails : (e : ReadError) (k n : ℕ) (ts : List TokenView) → k ≤ n → Fails e (level_at atoms NESTING inside k ts) → Fails e (level_at atoms NESTING inside n ts)
  level_fails errors.Memory k n ts le fails = tt
  level_fails (errors.Fault f) k n ts le fails =
      let whole : (n - k) + k ≡ n = omega arith in
      subst (λ (m : ℕ). level_at atoms NESTING inside m ts ≡ Err f) whole (later_fails f (n - k) k ts fails)

  -- what fails at the first level fails at each
  pub first_fails : (e : ReadError) (n : ℕ) (ts : List TokenView) → Fails e (unary_at atoms NESTING inside ts (NESTING - 1) ts) → Fails e (level_at atoms NESTING inside n ts)
  first_fails e n ts fails = level_fails e 0 n ts (omega arith) (subst (Fails e) (sym (first_level ts _ refl)) fails)

  -- and so for the further operands of a level
  pub operands_fail : (e : ReadError) (k n most : ℕ) (ts : List TokenView) (left : ExprTree) (rest : List TokenView) → k < n → most ≡ most_operators NESTING (k + 1) → level_at atoms NESTING inside k ts ≡ Ok (left, rest) → Fails e (operands_at NESTING (level_at atoms NESTING inside ((k + 1) - 1)) (k + 1) most left rest) → Fails e (level_at atoms NESTING inside n ts)
  operands_fail e k n most ts left rest lt m read fails = level_fails e (k + 1) n ts (omega arith) (subst (Fails e) (sym (level_with k most ts left rest m read)) fails)

-- Reading operands one after the other, as a loop does.
use Rattle.script_parser.proofs.Prelude.{◌≡◌, ℕ, suc, ◌+◌, ◌-◌, ◌<◌, List, Some, Result, Ok, Err, refl, sym, ◌∙◌, arith, ParseFault, ReadError, Operator, TokenView, ExprTree, Both, NESTING, Fails, Read, operator_at, checked}
use Rattle.script_parser.specs.declared.fault.ReadError.TheVariants as errors
use Rattle.script_parser.specs.Model.Expressions.{operands_at}

module _ (operand : Read) (k : ℕ) where
  pub next_operand : (count i : ℕ) (a : ExprTree) (ts : List TokenView) (o : Operator) (following : List TokenView) (b t : ExprTree) (after : List TokenView) (total : Result (ExprTree × List TokenView) ParseFault) → i < count
      → operator_at k ts ≡ Some (o, following) → operand following ≡ Ok (b, after) → checked NESTING ts (Both o a b) ≡ Ok t
      → operands_at NESTING operand k (count - i) a ts ≡ total → operands_at NESTING operand k (count - (i + 1)) t after ≡ total
  unfolding operands_at
  next_operand count i a ts o following b t after total lt at read low so_far =
      let n : count - i ≡ suc (count - (i + 1)) = omega arith in
      let one : operands_at NESTING operand k (count - i) a ts ≡ operands_at NESTING operand k (count - (i + 1)) t after = rw (n, at, read, low) refl in
      sym one ∙ so_far

  pub operand_fails : (e : ReadError) (count i : ℕ) (a : ExprTree) (ts : List TokenView) (o : Operator) (following : List TokenView) (total : Result (ExprTree × List TokenView) ParseFault) → i < count
      → operator_at k ts ≡ Some (o, following) → Fails e (operand following)
      → operands_at NESTING operand k (count - i) a ts ≡ total → Fails e total
  unfolding operands_at
  operand_fails errors.Memory count i a ts o following total lt at fails so_far = tt
  operand_fails (errors.Fault f) count i a ts o following total lt at fails so_far =
      let n : count - i ≡ suc (count - (i + 1)) = omega arith in
      let one : operands_at NESTING operand k (count - i) a ts ≡ Err f = rw (n, at, fails) refl in
      sym so_far ∙ one

  pub operand_too_high : (e : ReadError) (count i : ℕ) (a : ExprTree) (ts : List TokenView) (o : Operator) (following : List TokenView) (b : ExprTree) (after : List TokenView) (total : Result (ExprTree × List TokenView) ParseFault) → i < count
      → operator_at k ts ≡ Some (o, following) → operand following ≡ Ok (b, after) → Fails e (checked NESTING ts (Both o a b))
      → operands_at NESTING operand k (count - i) a ts ≡ total → Fails e total
  unfolding operands_at
  operand_too_high errors.Memory count i a ts o following b after total lt at read fails so_far = tt
  operand_too_high (errors.Fault f) count i a ts o following b after total lt at read fails so_far =
      let n : count - i ≡ suc (count - (i + 1)) = omega arith in
      let one : operands_at NESTING operand k (count - i) a ts ≡ Err f = rw (n, at, read, fails) refl in
      sym so_far ∙ one

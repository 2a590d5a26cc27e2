-- The text of a value.
use Rattle.std.proofs.Common.{◌≡◌, ◌++◌, ◌-◌, ◌≤◌, ℕ, zero, suc, ap, arith, codes, subst}
use Rattle.swift_types.specs.declared.operator.Operator.{Operator}
use Rattle.swift_expressions.specs.declared.code.Value.TheVariants as value
use Rattle.swift_translation.specs.Sources.{value_at}
use Rattle.swift_translation.specs.ValueTexts.{deep_text, form_text}
use Rattle.swift_translation.specs.Words.{operator_text}
use Rattle.swift_translation.specs.declared.source.Context.{Context}

-- the text of an operator and its operands
pub binary_text : (at : Context) (depth d place : ℕ) (operator : Operator) (v w : ℕ) → 1 ≤ depth → d ≡ depth - 1 → value_at at.source place ≡ value.Binary operator v w → deep_text at depth place ≡ (((codes "(" ++ deep_text at d v) ++ operator_text operator) ++ deep_text at d w) ++ codes ")"
unfolding deep_text
binary_text at zero d place operator v w h s e = absurd (omega arith)
binary_text at (suc n) d place operator v w h s e =
    let same : n ≡ d = omega arith in
    subst (λ (m : ℕ). form_text at (deep_text at n) (value_at at.source place) ≡ form_text at (deep_text at m) (value.Binary operator v w)) same (ap (form_text at (deep_text at n)) e)

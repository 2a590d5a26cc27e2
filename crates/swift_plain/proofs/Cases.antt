-- The cases of errors.
use Rattle.std.proofs.Common.{◌≡◌, ◌-◌, ◌<◌, ℕ, zero, suc, List, ◌++◌, ap, sym, arith}
use Rattle.script_grammar.specs.Tree.{DeclTree}
use Rattle.swift_plain.specs.Failures.{case_text, cases_text}

-- the last one stands behind the others
pub one_more_case : (ds : List DeclTree) (n : ℕ) → 0 < n → cases_text ds n ≡ cases_text ds (n - 1) ++ case_text ds (n - 1)
one_more_case ds zero h = absurd (omega (arith, h))
one_more_case ds (suc n) h =
    let e : suc n - 1 ≡ n = omega arith in
    ap (λ k. cases_text ds k ++ case_text ds k) (sym e)

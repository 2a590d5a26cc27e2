-- Lines with their indentation.
use Rattle.std.proofs.Common.{◌≡◌, ◌-◌, ◌<◌, ℕ, zero, suc, ◌++◌, codes, ap, sym, arith}
use Rattle.plain_parts.specs.Pages.{indent}

-- one level less
pub one_level : (d : ℕ) → 0 < d → indent d ≡ codes "    " ++ indent (d - 1)
one_level zero h = absurd (omega (arith, h))
one_level (suc d) h =
    let e : suc d - 1 ≡ d = omega arith in
    ap (λ n. codes "    " ++ indent n) (sym e)

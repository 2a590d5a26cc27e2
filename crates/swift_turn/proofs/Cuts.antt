-- Bindings that are dropped again.
use Rattle.std.proofs.Common.{◌≡◌, ◌-◌, ◌≤◌, List, ◌++◌, length, drop, arith, length-append, ap, ◌∙◌}
use Rattle.std.proofs.Math.Seq.{drop-append_seam}

-- what stands behind others is at most as long as all
pub within : {A : Type 0} (all own outer : List A) → all ≡ own ++ outer → length outer ≤ length all
within all own outer is = omega (arith, ap length is, length-append own outer)

-- of what stands behind others, all is left where as many are kept
pub cut_again : {A : Type 0} (all own outer : List A) → all ≡ own ++ outer → drop (length all - length outer) all ≡ outer
cut_again all own outer is =
    let many : length all - length outer ≡ length own = omega (arith, ap length is, length-append own outer) in
    ap (λ n. drop n all) many ∙ ap (drop (length own)) is ∙ drop-append_seam own outer

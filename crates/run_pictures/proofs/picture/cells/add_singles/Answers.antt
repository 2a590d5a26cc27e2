use Rattle.run_pictures.proofs.Prelude.{◌≡◌, ℕ, suc, ◌+◌, ◌-◌, List, [], ◌∷◌, ◌++◌, append_assoc, sym, ap, ◌∙◌, arith, Cell, cell, single_cells}
use Rattle.run_pictures.proofs.picture.cells.add_singles.Goals as goal

pub loop-place-preserved : goal.loop-place-preserved
loop-place-preserved c =
    let k = c.loop-place.place in
    let first = c.args.first in
    let n = c.args.turns - (k + 1) in
    let old = c.loop-place.cells.items in
    let more : c.args.turns - k ≡ suc n = omega (arith, c.loop-place-test.true) in
    let next : first + (k + 1) ≡ first + k + 1 = omega arith in
    ap (λ (xs : List Cell). xs ++ single_cells (first + (k + 1)) n) c.in_ok-push.ensures.items
    ∙ append_assoc old (cell (first + k) 1 ∷ []) (single_cells (first + (k + 1)) n)
    ∙ ap (λ (m : ℕ). old ++ cell (first + k) 1 ∷ single_cells m n) next
    ∙ sym (ap (λ (m : ℕ). old ++ single_cells (first + k) m) more)
    ∙ c.loop-place.invariant

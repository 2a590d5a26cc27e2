use Rattle.run_page.proofs.Prelude.{ℕ, ◌+◌, ◌-◌, ◌++◌, List, sym, ap, ◌∙◌, append_assoc, arith, executor_count, all_values_json, listed_json}
use Rattle.run_page.proofs.Executors.{values_of}
use Rattle.run_page.proofs.values.all_values.Goals as goal

pub loop-place-preserved : goal.loop-place-preserved
loop-place-preserved c =
    let p = c.args.script.now in
    let r = c.args.report.now in
    let k = c.loop-place.place in
    let n = executor_count p in
    let old = c.loop-place.out.items in
    let rest = all_values_json p r (k + 1) (n - (k + 1)) in
    ap (λ (xs : List ℕ). xs ++ rest) c.in_ok-listed.ensures
    ∙ append_assoc old (listed_json p r k) rest
    ∙ ap (λ (xs : List ℕ). old ++ xs) (sym (values_of p r k n (omega (arith, c.loop-place-test.true, c.executor_count-place-end.ensures))))
    ∙ c.loop-place.invariant

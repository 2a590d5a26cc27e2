-- What the turns of executors did, one executor more at a time.
use Rattle.run_page.proofs.Prelude.{◌≡◌, ℕ, suc, ◌+◌, ◌-◌, ◌<◌, ◌++◌, arith, ap, ScriptView, Report, all_values_json, listed_json}

-- the first executor, and then the others
pub values_of : (p : ScriptView) (r : Report) (k n : ℕ) → k < n → all_values_json p r k (n - k) ≡ listed_json p r k ++ all_values_json p r (k + 1) (n - (k + 1))
values_of p r k n lt =
    let more : n - k ≡ suc (n - (k + 1)) = omega (arith, lt) in
    ap (all_values_json p r k) more

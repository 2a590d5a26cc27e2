-- The fields, actor by actor.
use Rattle.swift_report.proofs.Prelude.{◌≡◌, ℕ, suc, ℤ, ◌+◌, ◌-◌, ◌<◌, List, ◌++◌, arith, ap, Vec, Global, ScriptView, row_of, actor_json, fields_json}

-- the first actor, and then those of the others
pub fields_from : (p : ScriptView) (fields : List (Vec (Vec ℤ Global) Global)) (k n : ℕ) → k < n → fields_json p fields k (n - k) ≡ actor_json p k (row_of p fields k) ++ fields_json p fields (k + 1) (n - (k + 1))
fields_from p fields k n lt =
    let more : n - k ≡ suc (n - (k + 1)) = omega (arith, lt) in
    ap (fields_json p fields k) more

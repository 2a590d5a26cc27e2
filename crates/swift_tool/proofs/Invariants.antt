-- Each invariant holds of the fields that a run of an accepted script leaves.
use Rattle.swift_tool.proofs.Prelude.{ℕ, ℤ, ◌+◌, Some, false, List, [], ◌∷◌, refl, sym, subst, arith, IsTrue, Contains, if◌then◌else◌, Vec, Global, ScriptView, executor_invariants, KeepInvariants, HoldInvariants}
use Rattle.script_code.specs.Seen.{rows_of}
use Rattle.script_code.specs.Tree.{Term}
use Rattle.script_code.specs.Value.{holds}
use Rattle.swift_interpreter.specs.Turn.{all_hold}
use Rattle.swift_executor.proofs.StartInvariants.{StartWell, start_each}

all_from : (ts : List Term) (rows : List (List ℤ)) → ((t : Term) → Contains ts t → IsTrue (holds (Some t) rows)) → IsTrue (all_hold ts rows)
all_from [] rows each = refl
all_from (t ∷ ts) rows each =
    subst (λ b. IsTrue (if b then all_hold ts rows else false)) (sym (each t (0, omega arith, refl))) (all_from ts rows (λ u has. each u (ℕ.suc has.0, omega (arith, has.1), has.2)))

hold_from : (p : ScriptView) (e : ℕ) (fields : List (Vec (Vec ℤ Global) Global)) → StartWell p → KeepInvariants p e fields → HoldInvariants p e fields
hold_from p e [] starts keep = tt
hold_from p e (f ∷ fs) starts keep = (all_from (executor_invariants p e) (rows_of f.items) (λ t has. keep.0 t has (start_each p e t starts has)), hold_from p (e + 1) fs starts keep.1)

pub invariants_hold : (p : ScriptView) (fields : List (Vec (Vec ℤ Global) Global)) → StartWell p → KeepInvariants p 0 fields → HoldInvariants p 0 fields
invariants_hold p fields starts keep = hold_from p 0 fields starts keep

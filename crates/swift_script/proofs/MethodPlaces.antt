-- What stands at a place of what a script is compiled to.
use Rattle.swift_script.proofs.Prelude.{◌≡◌, ℕ, suc, zero, ◌<◌, get_or, List, [], ◌∷◌, length, sym, subst, arith, slice_get, unwrap_or, AllZip, MethodView, IsMethod, no_method}
use Rattle.script_compiler.specs.declared.compiled.CompiledMethod.{CompiledMethod}

-- the method at a place
pub method_there : (ms : List CompiledMethod) (vs : List MethodView) (k : ℕ) (m : CompiledMethod) → AllZip IsMethod ms vs → k < length ms → m ≡ get_or ms k m → IsMethod m (unwrap_or (slice_get vs k) no_method)
method_there [] vs k m h lt is = absurd (omega arith)
method_there (n ∷ ms) [] k m h lt is = absurd h
method_there (n ∷ ms) (v ∷ vs) zero m h lt is = subst (λ (x : CompiledMethod). IsMethod x v) (sym is) h.0
method_there (n ∷ ms) (v ∷ vs) (suc k) m h lt is = method_there ms vs k m h.1 (omega arith) is

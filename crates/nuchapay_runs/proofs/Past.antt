-- A method that a script lacks has no name.
use Rattle.nuchapay_runs.proofs.Prelude.{◌≡◌, ℕ, ◌≤◌, [], sym, ap, ScriptView, parts_of, no_method, method_count, method_name}
use Rattle.script_compiler.specs.Compiled.{MethodView}
use Rattle.run_pictures.proofs.Past.{past}

pub no_method_name : (p : ScriptView) (m : ℕ) → method_count p ≤ m → [] ≡ method_name p m
no_method_name p m out = sym (ap (λ (x : MethodView). x.name) (past (parts_of p).methods no_method m out))

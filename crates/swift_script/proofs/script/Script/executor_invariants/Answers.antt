use Rattle.swift_script.proofs.Prelude.{◌≡◌, subst, ScriptView, executor_invariants}
use Rattle.script_code.specs.Tree.{terms_of}
use Rattle.swift_script.proofs.script.Script.executor_invariants.Goals as goal

pub returns : goal.returns
returns c =
    subst (λ (s : ScriptView). terms_of c.invariants.result.now ≡ executor_invariants s c.args.executor.0) c.self.view_is (c.invariants.ensures _ c.self.invariant.has_parts)

use Rattle.script_compiler.proofs.Prelude.{◌++◌, ◌∙◌, List, map, sym, append-nil, at_drop_all, CompiledRoot, root_view}
use Rattle.script_compiler.proofs.waits.methods_of.Goals as goal

pub returns : goal.returns
returns c =
    sym (append-nil (c.loop-root.methods.items))
    ∙ sym (at_drop_all (λ (rs : List CompiledRoot). c.loop-root.methods.items ++ map (λ r. r.method) (map root_view rs)) c.args.roots.now c.loop-root.root-index c.loop-root-test.false)
    ∙ c.loop-root.invariant

use Rattle.swift_script.proofs.Prelude.{◌≡◌, length, subst, arith, AllZip-long, ScriptView, IsMethod, parts_of, method_count, tree_in}
use Rattle.swift_script.proofs.script.Script.method_count.Goals as goal

pub returns : goal.returns
returns c =
    let ms = c.self.inside.compiled.methods in
    let long = AllZip-long IsMethod ms.items _ c.self.invariant.has_parts.methods in
    let same : c.len.result ≡ length (parts_of (tree_in c.self.inside.printed.items)).methods = omega (arith, c.len.ensures, long, ms.ok.0) in
    subst (λ (s : ScriptView). c.len.result ≡ method_count s) c.self.view_is same

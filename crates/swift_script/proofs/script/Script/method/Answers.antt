use Rattle.swift_script.proofs.Prelude.{◌<◌, length, arith, sym, subst, AllZip-long, ScriptView, IsMethod, parts_of, method_count, method_at, tree_in}
use Rattle.swift_script.proofs.MethodPlaces.{method_there}
use Rattle.swift_script.proofs.script.Script.method.Goals as goal

pub index-requires : goal.index-requires
index-requires c =
    let ms = c.self.inside.compiled.methods in
    let long = AllZip-long IsMethod ms.items _ c.self.invariant.has_parts.methods in
    let within : c.args.method.0 < length (parts_of (tree_in c.self.inside.printed.items)).methods = subst (λ (s : ScriptView). c.args.method.0 < method_count s) (sym c.self.view_is) c.requires in
    omega (arith, long, within, ms.ok.0)

pub returns : goal.returns
returns c =
    let ms = c.self.inside.compiled.methods in
    let long = AllZip-long IsMethod ms.items _ c.self.invariant.has_parts.methods in
    let within : c.args.method.0 < length (parts_of (tree_in c.self.inside.printed.items)).methods = subst (λ (s : ScriptView). c.args.method.0 < method_count s) (sym c.self.view_is) c.requires in
    let there : c.args.method.0 < length ms.items = omega (arith, long, within) in
    subst (λ (s : ScriptView). IsMethod c.index.result.now (method_at s c.args.method.0)) c.self.view_is (method_there ms.items _ c.args.method.0 c.index.result.now c.self.invariant.has_parts.methods there c.index.ensures)

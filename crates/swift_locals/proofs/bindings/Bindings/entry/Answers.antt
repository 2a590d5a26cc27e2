use Rattle.std.proofs.Common.{◌≡◌, ℕ, ℤ, ◌<◌, List, length, reverse, get_or, arith, ap, sym, ◌∙◌, rules, w64, to_z, of_z}
use Rattle.std.proofs.lemmas.List.{length-map, length-reverse}
use Rattle.swift_locals.specs.BindingsInside.{pair_of, pairs_of}
use Rattle.swift_locals.proofs.Chain.{pair_at}
use Rattle.swift_locals.proofs.bindings.Bindings.entry.Goals as goal

pub returns : goal.returns
returns c d =
    let e = c.index-entry.result.now in
    let value : to_z w64 (of_z w64 e.value) ≡ e.value = search rules in
    let count : length (pairs_of c.self.inside.entries.items) ≡ length c.args.self.now = ap length c.self.view_is in
    let mapped = length-map (reverse c.self.inside.entries.items) pair_of in
    let reversed = length-reverse c.self.inside.entries.items in
    let within : c.args.place < length c.self.inside.entries.items = omega (arith, count, mapped, reversed, c.requires) in
    ap (λ (s : List (ℕ × ℤ)). get_or (reverse s) c.args.place d) (sym c.self.view_is)
    ∙ pair_at c.self.inside.entries.items c.args.place e d within c.index-entry.ensures
    ∙ ap (λ (v : ℤ). (e.local.0, v)) (sym value)

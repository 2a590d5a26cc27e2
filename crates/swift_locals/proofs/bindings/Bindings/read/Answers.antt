use Rattle.std.proofs.Common.{◌≡◌, ℕ, List, Option, None, Some, get_or, arith, sym, ap, ◌∙◌, rules, ℤ, w64, to_z, of_z}
use Rattle.swift_locals.specs.Bindings.{value_of}
use Rattle.swift_locals.proofs.Chain.{read_none, read_within, read_some}
use Rattle.swift_locals.proofs.bindings.Bindings.read.Goals as goal

pub returns-in_err-place : goal.returns-in_err-place
returns-in_err-place c =
    let table : get_or c.self.inside.newest.items c.args.local.0 None ≡ None = ap (λ (s : List (Option ℕ)). get_or s c.args.local.0 None) (sym c.deref.ensures.value) ∙ sym c.in_err-place.ensures in
    c.from_residual.ensures
    ∙ sym (read_none c.self.inside.entries.items _ c.args.local.0 c.self.invariant.newest table)
    ∙ ap (λ (s : List (ℕ × ℤ)). value_of s c.args.local.0) c.self.view_is

pub index-requires : goal.index-requires
index-requires c =
    let table : get_or c.self.inside.newest.items c.args.local.0 None ≡ Some c.in_ok-place.place = ap (λ (s : List (Option ℕ)). get_or s c.args.local.0 None) (sym c.deref.ensures.value) ∙ sym c.in_ok-place.ensures in
    let within = read_within c.self.inside.entries.items _ c.args.local.0 c.in_ok-place.place c.self.invariant.newest table in
    omega (arith, within)

pub returns : goal.returns
returns c =
    let table : get_or c.self.inside.newest.items c.args.local.0 None ≡ Some c.in_ok-place.place = ap (λ (s : List (Option ℕ)). get_or s c.args.local.0 None) (sym c.deref.ensures.value) ∙ sym c.in_ok-place.ensures in
    let value : to_z w64 (of_z w64 c.index.result.now.value) ≡ c.index.result.now.value = search rules in
    ap (λ (v : ℤ). Some v) value
    ∙ sym (read_some c.self.inside.entries.items _ c.args.local.0 c.in_ok-place.place c.index.result.now c.self.invariant.newest table c.index.ensures)
    ∙ ap (λ (s : List (ℕ × ℤ)). value_of s c.args.local.0) c.self.view_is

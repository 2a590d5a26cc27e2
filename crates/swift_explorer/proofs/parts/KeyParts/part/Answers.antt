use Rattle.swift_explorer.proofs.Prelude.{◌≡◌, ℤ, List, Some, slice_get, sym, subst, ◌∙◌, IsPart, KeyParts}
use Rattle.std.specs.Cmp.Rules.{signed_items}
use Rattle.std.specs.Global.{Vec}
use Rattle.swift_explorer.proofs.PartsKnown.{at_inserted, found_at, on_ok_is, short_of}
use Rattle.swift_explorer.proofs.parts.KeyParts.part.Goals as goal

pub returns-in-Some-clause-part : goal.returns-in-Some-clause-part
returns-in-Some-clause-part c =
    let x = c.args.self.now in
    let at = found_at _ x.parts.keys c.in-Some.place (sym c.in-Some.ensures.index) in
    short_of (λ n. IsPart x n c.args.part.now) c.short.result c.in-Some.place c.short.ensures (at.0, at.1, sym ((signed_items c.args.part.now at.0.items).0 at.2))

pub returns-clause-grown : goal.returns-clause-grown
returns-clause-grown c = on_ok_is c.short-2.result (record {
  parts = λ n p at. subst (λ (ks : List (Vec ℤ)). slice_get ks n ≡ Some p) (sym c.in_ok-place.ensures.keys) (at_inserted _ c.args.self.now.parts.keys c.in_ok-from_slice.field-0 p n at);
  groups = λ n g at. at;
})

pub returns-clause-part : goal.returns-clause-part
returns-clause-part c =
    let y : KeyParts = record c.args.self.now { parts = c.insert_full.new.self } in
    let put = c.in_ok-from_slice.field-0 in
    let stored = c.in_ok-place.ensures.stored in
    short_of (λ n. IsPart y n c.args.part.now) c.short-2.result c.in_ok-place.place c.short-2.ensures
    (stored.0, stored.1, sym ((signed_items put.items stored.0.items).0 stored.2) ∙ c.in_ok-from_slice.ensures.items)

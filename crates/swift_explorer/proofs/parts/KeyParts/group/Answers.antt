use Rattle.swift_explorer.proofs.Prelude.{◌≡◌, ℕ, ℤ, List, Some, slice_get, sym, subst, ◌∙◌, AreParts, Grows, IsGroup, KeyParts}
use Rattle.std.specs.Cmp.Lexicographic.{same_text}
use Rattle.std.specs.Global.{Vec}
use Rattle.swift_explorer.proofs.PartsKnown.{at_inserted, found_at, on_ok_is, parts_grown, short_of}
use Rattle.swift_explorer.proofs.parts.KeyParts.group.Goals as goal

pub returns-in-Some-clause-group : goal.returns-in-Some-clause-group
returns-in-Some-clause-group c =
    let x = c.args.self.now in
    let at = found_at _ x.groups.keys c.in-Some.place (sym c.in-Some.ensures.index) in
    short_of (λ n. (key : List ℤ) → AreParts x c.args.parts.now key → IsGroup x n key) c.short.result c.in-Some.place c.short.ensures
    (λ key are. (at.0, at.1, subst (λ (ns : List ℕ). AreParts x ns key) (same_text c.args.parts.now at.0.items (sym at.2)) are))

pub returns-clause-grown : goal.returns-clause-grown
returns-clause-grown c = on_ok_is c.short-2.result (record {
  parts = λ n p at. at;
  groups = λ n g at. subst (λ (ks : List (Vec ℕ)). slice_get ks n ≡ Some g) (sym c.in_ok-place.ensures.keys) (at_inserted _ c.args.self.now.groups.keys c.in_ok-from_slice.field-0 g n at);
})

pub returns-clause-group : goal.returns-clause-group
returns-clause-group c =
    let x = c.args.self.now in
    let y : KeyParts = record x { groups = c.insert_full.new.self } in
    let put = c.in_ok-from_slice.field-0 in
    let stored = c.in_ok-place.ensures.stored in
    let same : c.args.parts.now ≡ stored.0.items = sym c.in_ok-from_slice.ensures.items ∙ same_text put.items stored.0.items (sym stored.2) in
    let grown : Grows x y = record {
      parts = λ n p at. at;
      groups = λ n g at. subst (λ (ks : List (Vec ℕ)). slice_get ks n ≡ Some g) (sym c.in_ok-place.ensures.keys) (at_inserted _ x.groups.keys put g n at);
    } in
    short_of (λ n. (key : List ℤ) → AreParts x c.args.parts.now key → IsGroup y n key) c.short-2.result c.in_ok-place.place c.short-2.ensures
    (λ key are. (stored.0, stored.1, subst (λ (ns : List ℕ). AreParts y ns key) same (parts_grown x y c.args.parts.now key grown are)))

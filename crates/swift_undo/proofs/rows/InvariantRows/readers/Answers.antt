use Rattle.swift_undo.proofs.Prelude.{◌≡◌, ℕ, Some, None, List, length, refl, sym, subst, Contains, slice_get, Vec, Global, slice_get_past, slice_get_read, AreListed, places_of}
use Rattle.swift_undo.proofs.ReadRows.{listed_none, listed_some}
use Rattle.swift_undo.proofs.rows.InvariantRows.readers.Goals as goal

pub returns-in-Some : goal.returns-in-Some
returns-in-Some c = λ place within same.
    let readers = c.self.inside.readers.items in
    let lists = c.deref.result.now in
    let x = c.in-Some.places.now in
    let are = subst (λ (rows : List ℕ). AreListed (places_of readers) rows) c.self.view_is c.self.invariant in
    let got : slice_get lists c.args.row ≡ Some x = slice_get_read lists (length lists) c.args.row x refl c.in-Some.ensures.lookup.3.0 c.in-Some.ensures.lookup.1 in
    let there = subst (λ (xs : List (Vec ℕ Global)). slice_get xs c.args.row ≡ Some x) c.deref.ensures.value got in
    subst (λ (ps : List ℕ). Contains ps place) (sym c.deref-in-Some.ensures.value) (listed_some readers c.args.self.now c.args.row x are there place within same)

pub returns-in-None : goal.returns-in-None
returns-in-None c = λ place within same.
    let readers = c.self.inside.readers.items in
    let lists = c.deref.result.now in
    let are = subst (λ (rows : List ℕ). AreListed (places_of readers) rows) c.self.view_is c.self.invariant in
    let past = subst (λ (xs : List (Vec ℕ Global)). slice_get xs c.args.row ≡ None) c.deref.ensures.value (slice_get_past lists c.args.row c.in-None.ensures.lookup.3) in
    listed_none readers c.args.self.now c.args.row are past place within same

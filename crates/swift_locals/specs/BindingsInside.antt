-- What the fields keep. No public clause names these.
use Rattle.std.specs.Prelude.{◌≡◌, ℕ, ℤ, List, [], ◌∷◌, Option, None, Some, if◌then◌else◌, ◌==◌, length, map, slice_index_or, reverse}
use Rattle.swift_locals.specs.declared.bindings.BindingEntry.{BindingEntry}
use Rattle.swift_locals.specs.declared.bindings.Bindings.TheInside.{Inside}

abbrev pub pair_of : BindingEntry → ℕ × ℤ
pair_of e = (e.local.0, e.value)

-- The pairs of the entries, the newest entry's first.
abbrev pub pairs_of : List BindingEntry → List (ℕ × ℤ)
pairs_of entries = map pair_of (reverse entries)

-- The place of the newest entry of a local, of entries with the newest first: how many are older.
abbrev pub place_of : List BindingEntry → ℕ → Option ℕ
place_of [] local = None
place_of (e ∷ older) local = if e.local.0 == local then Some (length older) else place_of older local

-- Each entry has the place of the newest of its local among those that are older.
abbrev pub AreChained : List BindingEntry → Type 0
AreChained [] = Unit {0}
AreChained (e ∷ older) = (e.below ≡ place_of older e.local.0) × AreChained older

-- The table has the place of the newest entry of each local.
pub record IsTable (entries : List BindingEntry) (newest : List (Option ℕ)) : Type 0 where
  pub at : (local : ℕ) → slice_index_or newest local None ≡ place_of entries local

pub record IsBindings (b : Inside) : Type 0 where
  pub chained : AreChained (reverse b.entries.items)
  pub newest : IsTable (reverse b.entries.items) b.newest.items

-- Which invariants are tested after a turn. No public clause names these.
use Rattle.std.specs.Prelude.{◌≡◌, ◌<◌, ℕ, zero, suc, ℤ, Bool, true, false, List, [], ◌∷◌, Some, Contains, get_or, length, map}
use Rattle.std.specs.declared.vec.Vec.{Vec}
use Rattle.std.specs.declared.alloc.Global.{Global}
use Rattle.script_code.specs.Tree.{Term}
use Rattle.script_code.specs.Value.{holds}
use Rattle.swift_interpreter.specs.Saved.{is_saved}

-- the first invariant is tested: its row was saved, or none stands beside it
abbrev pub is_tested : List ℕ → List (ℕ × List ℤ) → Bool
is_tested [] saved = true
is_tested (row ∷ rows) saved = is_saved saved row

-- the rows of the other invariants
abbrev pub other_rows : List ℕ → List ℕ
other_rows [] = []
other_rows (row ∷ rows) = rows

-- each invariant that is not tested holds
abbrev pub OthersHold : List Term → List ℕ → List (ℕ × List ℤ) → List (List ℤ) → Type 0
OthersHold [] rows saved fields = Unit {0}
OthersHold (t ∷ invariants) rows saved fields = (is_tested rows saved ≡ false → holds (Some t) fields ≡ true) × OthersHold invariants (other_rows rows) saved fields

-- the invariant in a place holds, if one stands there
abbrev pub HoldsThere : List Term → ℕ → List (List ℤ) → Type 0
HoldsThere [] place fields = Unit {0}
HoldsThere (t ∷ invariants) zero fields = holds (Some t) fields ≡ true
HoldsThere (t ∷ invariants) (suc place) fields = HoldsThere invariants place fields

-- each of the invariants that reads one of the rows that were saved holds
abbrev pub ReadersHold : List Term → List ℕ → List (ℕ × List ℤ) → List (List ℤ) → Type 0
ReadersHold invariants rows saved fields = (place : ℕ) → place < length rows → is_saved saved (get_or rows place 0) ≡ true → HoldsThere invariants place fields

-- the lists of places, one for each row
abbrev pub places_of : List (Vec ℕ Global) → List (List ℕ)
places_of readers = map (λ (places : Vec ℕ Global). places.items) readers

-- the list of each row has the places in which it stands
abbrev pub AreListed : List (List ℕ) → List ℕ → Type 0
AreListed readers rows = (place : ℕ) → place < length rows → Contains (get_or readers (get_or rows place 0) []) place

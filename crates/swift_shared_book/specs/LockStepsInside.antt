-- What the steps of seats tell, and what a seat's fields keep.
use Rattle.std.specs.Prelude.{◌≡◌, ℕ, ◌==◌, List, [], ◌∷◌, Option, Some, None, IfSome, MatchBool}
use Rattle.atomic_table.specs.Table.{Step, Me, rest}
use Rattle.atomic_table.specs.Seated.{TableId}
use Rattle.swift_shared_book.specs.LockSeat.{LockSeatView}
use Rattle.swift_shared_book.specs.declared.lock.view.LockKnown.{LockKnown}

module _ {I V : Type 0} where
  -- the view of a seat that does not hold
  abbrev pub free : V → LockKnown I V
  free v = record { known = v; held = None }

  abbrev pub with_known : LockKnown I V → V → LockKnown I V
  with_known v known = record v { known = known }

-- A seat with what it holds: the slot, or nothing.
abbrev pub SeatOf : Type 0 → Type 0 → Type 0 → Type 0
SeatOf T I V = Me (Option T) (LockKnown I V)

-- what the slot has that the seat holds
abbrev pub given : {T : Type 0} → List (ℕ × Option T) → Option T
given [] = None
given (x ∷ xs) = x.1

module _ {T I V : Type 0} (image_of : T → I) where
  -- the slot goes to the seat, which learns a fact of what is in it
  abbrev pub Takes : (V → I → Type 0) → SeatOf T I V → SeatOf T I V → Type 0
  Takes fact v w = (value : T) × (w ≡ (record v.0 { held = Some (image_of value) }, (0, Some value) ∷ v.1)) × fact v.0.known (image_of value)

  -- it does where the word was 0, and else nothing changes
  abbrev pub Locks : (V → I → Type 0) → Step (Option T) → SeatOf T I V → ℕ → SeatOf T I V → Type 0
  Locks fact s v n w = MatchBool (n == 0) (Takes fact v w) (w ≡ v)

  -- the seat holds no more, and knows something of what it took and of what it gave back
  abbrev pub Unlocks : (V → I → I → V → Type 0) → Step (Option T) → SeatOf T I V → ℕ → SeatOf T I V → Type 0
  Unlocks then s v n w =
      (known : V) × (w ≡ (free known, rest v.1)) × IfSome v.0.held (λ taken. IfSome (given v.1) (λ value. then v.0.known taken (image_of value) known))

module _ {T I V : Type 0} where
  -- the seat still holds, something of this image now, and knows something of what it took and of that
  abbrev pub Publishes : Option I → (V → I → I → V → Type 0) → Step (Option T) → SeatOf T I V → ℕ → SeatOf T I V → Type 0
  Publishes image then s v n w =
      IfSome image (λ given. (known : V) × (w ≡ (record { known = known; held = Some given }, v.1)) × IfSome v.0.held (λ taken. then v.0.known taken given known))

  -- the seat is as before, and where it holds, it learns a fact of what it took
  abbrev pub Recalls : (V → I → Type 0) → Step (Option T) → SeatOf T I V → ℕ → SeatOf T I V → Type 0
  Recalls fact s v n w = (w ≡ v) × IfSome v.0.held (fact v.0.known)

-- Between calls a seat that holds has the empty slot, and any other has nothing.
abbrev pub CarriesFor : {T I : Type 0} → Option I → List (ℕ × Option T) → Type 0
CarriesFor None carried = carried ≡ []
CarriesFor (Some image) carried = carried ≡ (0, None) ∷ []

abbrev pub Carries : {T I V : Type 0} → Me (Option T) (LockKnown I V) → Type 0
Carries me = CarriesFor me.0.held me.1

-- What clauses see of a seat of this table with this view.
abbrev pub seat_is : {I V : Type 0} → TableId → LockKnown I V → LockSeatView I V
seat_is table v = record { lock = table; known = v.known; held = v.held }

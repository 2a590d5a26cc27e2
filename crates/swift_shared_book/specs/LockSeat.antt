-- What clauses see of a lock, a seat and a badge, and what the calls ask of the user's rule.
use Rattle.std.specs.Prelude.{◌≡◌, ℕ, List, [], ◌∷◌, ◌++◌, set, Option, Some, None}
use mathlib.Core.Option.{some}
use lib.ListN.{get_elem?}
use Rattle.atomic_table.specs.Seated.{TableId}

-- which lock it is, and the image of what it was made with
pub record LockView (I : Type 0) : Type 0 where
  pub id : TableId
  pub opened : I

-- a seat: its lock, what it knows, and where it holds, the image of what it took
pub record LockSeatView (I V : Type 0) : Type 0 where
  pub lock : TableId
  pub known : V
  pub held : Option I

-- a badge: its lock, and what its seat knows; nothing where it is no seat
pub record BadgeView (V : Type 0) : Type 0 where
  pub lock : TableId
  pub knows : List V

module _ {I V : Type 0} where
  -- a seat of this lock
  abbrev pub IsSeatOf : LockView I → LockSeatView I V → Type 0
  IsSeatOf l s = s.lock ≡ l.id

  -- a new seat of this lock, which knows v
  abbrev pub new_seat : LockView I → V → LockSeatView I V
  new_seat l v = record { lock = l.id; known = v; held = None }

  -- the seat holds, and took something of this image
  abbrev pub held_by : LockSeatView I V → I → LockSeatView I V
  held_by s image = record s { held = Some image }

  -- the seat does not hold, and knows v
  abbrev pub free_seat : LockSeatView I V → V → LockSeatView I V
  free_seat s v = record { lock = s.lock; known = v; held = None }

  -- the seat holds something of this image, and knows v
  abbrev pub holding : LockSeatView I V → V → I → LockSeatView I V
  holding s v image = record { lock = s.lock; known = v; held = Some image }

  -- the seat knows v, and holds as before
  abbrev pub with_known : LockSeatView I V → V → LockSeatView I V
  with_known s v = record s { known = v }

module _ {I V : Type 0} (holds : I → List V → Type 0) where
  -- whatever other seats know, a seat that knows v learns this of what it takes
  abbrev pub MayLearn : V → (I → Type 0) → Type 0
  MayLearn v fact = (image : I) (views : List V) (seat : ℕ) → holds image views → get_elem? views seat ≡ some v → fact image

  -- whatever other seats know, a seat that knows v may give this back for what it took, and knows something then
  abbrev pub MayUnlock : V → I → I → (V → Type 0) → Type 0
  MayUnlock v taken given then =
      (views : List V) (seat : ℕ) → holds taken views → get_elem? views seat ≡ some v → (w : V) × holds given (set views seat w) × then w

  -- whatever other seats know, what a seat knows may be parted between it and a new one
  abbrev pub MaySplit : V → V → V → Type 0
  MaySplit v left right = (image : I) (views : List V) (seat : ℕ) → holds image views → get_elem? views seat ≡ some v → holds image (set views seat left ++ right ∷ [])

  -- whatever other seats know, a seat that knows v may take in one that knows w, which then knows what is left
  abbrev pub MayJoin : V → V → V → V → Type 0
  MayJoin v w both spent =
      (image : I) (views : List V) (seat other : ℕ) → holds image views → get_elem? views seat ≡ some v → ¬ (other ≡ seat) → get_elem? (set views seat both) other ≡ some w
      → holds image (set (set views seat both) other spent)

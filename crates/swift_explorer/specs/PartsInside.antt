-- Keys by the numbers of their parts. No public clause names these.
use Rattle.std.specs.Prelude.{◌≡◌, ℕ, ℤ, Some, List, [], ◌∷◌, ◌++◌, slice_get}
use Rattle.std.specs.Global.{Vec}
use Rattle.swift_explorer.specs.declared.parts.GroupPair.{GroupPair}
use Rattle.swift_explorer.specs.declared.parts.HalfCode.{HalfCode}
use Rattle.swift_explorer.specs.declared.parts.KeyCode.{KeyCode}
use Rattle.swift_explorer.specs.declared.parts.KeyParts.{KeyParts}

-- the part of this number is this
abbrev pub IsPart : KeyParts → ℕ → List ℤ → Type 0
IsPart x n part = (p : Vec ℤ) × (slice_get x.parts.keys n ≡ Some p) × (p.items ≡ part)

-- the parts of these numbers, one after the other, are this
abbrev pub AreParts : KeyParts → List ℕ → List ℤ → Type 0
AreParts x [] key = key ≡ []
AreParts x (n ∷ ns) key = (part rest : List ℤ) × IsPart x n part × AreParts x ns rest × (key ≡ part ++ rest)

-- the parts of the group of this number are
abbrev pub IsGroup : KeyParts → ℕ → List ℤ → Type 0
IsGroup x n key = (g : Vec ℕ) × (slice_get x.groups.keys n ≡ Some g) × AreParts x g.items key

-- those of two groups are
abbrev pub IsPair : KeyParts → GroupPair → List ℤ → Type 0
IsPair x p key = (a b : List ℤ) × IsGroup x p.left a × IsGroup x p.right b × (key ≡ a ++ b)

-- those of four are
abbrev pub IsHalf : KeyParts → HalfCode → List ℤ → Type 0
IsHalf x h key = (a b : List ℤ) × IsPair x h.left a × IsPair x h.right b × (key ≡ a ++ b)

-- this is the key of this code
abbrev pub IsCode : KeyParts → KeyCode → List ℤ → Type 0
IsCode x c key = (a b : List ℤ) × IsHalf x c.left a × IsHalf x c.right b × (key ≡ a ++ b)

-- more parts and groups have numbers; those that had one have it still
pub record Grows (old new : KeyParts) : Type 0 where
  pub parts : (n : ℕ) (p : Vec ℤ) → slice_get old.parts.keys n ≡ Some p → slice_get new.parts.keys n ≡ Some p
  pub groups : (n : ℕ) (g : Vec ℕ) → slice_get old.groups.keys n ≡ Some g → slice_get new.groups.keys n ≡ Some g

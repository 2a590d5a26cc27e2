-- Numbers that begin with those of a value say of which, and what follows them (our own).
use Rattle.std.specs.Prelude.{◌≡◌, ℤ, List, ◌++◌}
use Rattle.swift_digest.specs.Digests.{Digest}
use Rattle.swift_explorer.specs.DigestNumbers.{IsWritten}

-- Numbers that begin with those of a value are those of no other value, and what follows is the same.
abbrev pub AreRead : {A : Type 0} → (A → List ℤ) → Type 0
AreRead {A} numbers = (a b : A) (r s : List ℤ) → numbers a ++ r ≡ numbers b ++ s → (a ≡ b) × (r ≡ s)

-- of a digest, after the same numbers
abbrev pub DigestsAreRead : Type 0
DigestsAreRead = (a b : Digest) (start x y r s : List ℤ) → IsWritten a start x → IsWritten b start y → x ++ r ≡ y ++ s → (a ≡ b) × (r ≡ s)

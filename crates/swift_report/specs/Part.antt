-- What a device took of some bytes.
use Rattle.std.specs.Prelude.{ℕ, ◌<◌, Option, List, length, take}
use Rattle.std.specs.Io.KnownBytes.{Appends}

-- The first of the bytes were written, in order, and not all of them. A writer whose bytes are not known is free.
abbrev pub WritesPart : Option (List ℕ) → Option (List ℕ) → List ℕ → Type 0
WritesPart old new bytes = (n : ℕ) × (n < length bytes) × Appends old new (take n bytes)

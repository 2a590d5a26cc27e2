-- What a read of a script takes of its reader.
use Rattle.std.specs.Prelude.{◌≡◌, ℕ, Option, List, ◌++◌, length}
use Rattle.std.specs.Io.KnownBytes.{Consumes}

-- `n` bytes left the reader, and come after the text.
abbrev pub TakesMore : Option (List ℕ) → Option (List ℕ) → List ℕ → List ℕ → ℕ → Type 0
TakesMore before after old new n = (bytes : List ℕ) × (length bytes ≡ n) × (new ≡ old ++ bytes) × Consumes before after bytes

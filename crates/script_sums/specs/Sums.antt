-- The sum of a script's text (our own).
use Rattle.std.specs.Prelude.{ℕ, List}
use Rattle.hex.specs.Hex.{encode_lower}
use Rattle.sha2.specs.Sha256.{sha256}

-- its SHA-256, in small hexadecimal digits
abbrev pub script_sum : List ℕ → List ℕ
script_sum text = encode_lower (sha256 text)

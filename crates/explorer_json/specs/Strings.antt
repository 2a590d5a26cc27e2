-- A text as a JSON string (RFC 8259).
use Rattle.std.specs.Prelude.{ℕ, ◌+◌, ◌/◌, ◌%◌, ◌==◌, nat_lt, if◌then◌else◌, List, [], ◌∷◌, ◌++◌, codes}

-- a digit to base 16, in small letters
abbrev pub hex_digit : ℕ → ℕ
hex_digit n = if nat_lt n 10 then 48 + n else 87 + n

-- A byte of a text, as a string has it: a quotation mark and a backslash with a backslash before them, a byte below 32 by its number, and
-- any other as it is.
abbrev pub byte_json : ℕ → List ℕ
byte_json b =
    if b == 34 then codes "\\\"" else
    (if b == 92 then codes "\\\\" else
    (if nat_lt b 32 then codes "\\u00" ++ hex_digit (b / 16) ∷ hex_digit (b % 16) ∷ [] else b ∷ []))

-- the bytes of a text
abbrev pub bytes_json : List ℕ → List ℕ
bytes_json [] = []
bytes_json (b ∷ bs) = byte_json b ++ bytes_json bs

-- a text, between quotation marks
abbrev pub string_json : List ℕ → List ℕ
string_json text = codes "\"" ++ bytes_json text ++ codes "\""

-- How texts stand in a page (our own).
use Rattle.std.specs.Prelude.{◌≡◌, ℕ, ◌==◌, Bool, true, ◌||◌, not, List, [], ◌∷◌, codes, flat_map, nat_lt, if◌then◌else◌}
use Rattle.std.specs.List.{list_all}

-- a byte of JSON; one that could begin or end markup is spelled as JSON's escape, which has none of them
abbrev pub escaped_byte : ℕ → List ℕ
escaped_byte b =
    if b == 60 then codes "\\u003c"
    else if b == 62 then codes "\\u003e"
    else if b == 38 then codes "\\u0026"
    else b ∷ []

-- JSON whose bytes are spelled so: where they stand in strings alone it is the same JSON
abbrev pub escaped : List ℕ → List ℕ
escaped = flat_map escaped_byte

-- whether a byte can neither begin nor end markup: it is none of `<`, `>` and `&`
abbrev pub is_plain : ℕ → Bool
is_plain b = not (b == 60 || b == 62 || b == 38)

-- No byte of a text can begin or end markup.
abbrev pub IsPlain : List ℕ → Type 0
IsPlain text = list_all is_plain text ≡ true

-- a byte of a text in a string of JSON: of the control characters a tab and a line feed are kept, and the others are a space
abbrev pub quoted_byte : ℕ → List ℕ
quoted_byte b =
    if b == 34 then codes "\\\""
    else if b == 92 then codes "\\\\"
    else if b == 10 then codes "\\n"
    else if b == 9 then codes "\\t"
    else if nat_lt b 32 then codes " "
    else b ∷ []

-- a text in a string of JSON, without the quotes round it
abbrev pub quoted : List ℕ → List ℕ
quoted = flat_map quoted_byte

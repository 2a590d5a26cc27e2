-- Tokens as they are spelled in a hint (our own).
use Rattle.std.specs.Prelude.{◌+◌, ◌-◌, ◌==◌, ◌&&◌, ℕ, Bool, Option, Some, None, List, [], ◌∷◌, ◌++◌, nat_le, slice_get, true, false, if◌then◌else◌}
use Rattle.std.specs.Fmt.{signed_decimal}
use Rattle.script_tokens.specs.declared.token.Token.{Token}
use Rattle.script_tokens.specs.declared.token.Token.TheVariants.{Num}
use Rattle.script_context.specs.Words.{word}
use Rattle.script_context.specs.declared.blamed.Blamed.{Blamed}

-- the spelling of a token that may be there; a number in decimal
abbrev pub spelled : Option Token → List ℕ
spelled None = []
spelled (Some (Num n)) = signed_decimal n
spelled (Some t) = word t

-- the spelling of the token at a place; of the one that is blamed its bytes in the text
abbrev pub spelled_at : Blamed → ℕ → List ℕ
spelled_at b i = if i == b.place then b.found.now else spelled (slice_get b.tokens.now i)

-- the spelling of the token at a place that may be known
abbrev pub spelled_if : Blamed → Option ℕ → List ℕ
spelled_if b None = []
spelled_if b (Some i) = spelled_at b i

-- where a token stands that is counted from two before the one that is blamed, if that is a place: a number of 64 bits
abbrev pub place_in : Blamed → ℕ → Option ℕ
place_in b n = if nat_le 2 (b.place + n) && nat_le (b.place + n) 18446744073709551615 then Some (b.place + n - 2) else None

-- what stands for the byte behind a `$`: `a` is the name of the actor around the place, a digit counts from two before it
abbrev pub named : Blamed → Option ℕ → ℕ → List ℕ
named b actor c = if c == 97 then spelled_if b actor else spelled_if b (place_in b (c - 48))

-- what is said for a byte, by whether a `$` stands in front of it
abbrev pub said : Bool → Blamed → Option ℕ → ℕ → List ℕ
said true b actor c = named b actor c
said false b actor c = if c == 36 then [] else c ∷ []

-- whether a byte is a `$` in front of the next one
abbrev pub is_dollar : Bool → ℕ → Bool
is_dollar true c = false
is_dollar false c = c == 36

-- words with the tokens that they name by a `$`; the truth value says whether a `$` stands in front of them
abbrev pub filled : List ℕ → Bool → Blamed → Option ℕ → List ℕ
filled [] is_name b actor = []
filled (c ∷ cs) is_name b actor = said is_name b actor c ++ filled cs (is_dollar is_name c) b actor

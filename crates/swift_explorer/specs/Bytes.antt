-- Numbers as bytes (our own): one byte where a number is from 0 to 252, else nine.
use Rattle.std.specs.Prelude.{◌≡◌, ℕ, ℤ, pos, negsuc, ◌/◌, ◌%◌, ◌^◌, nat_lt, if◌then◌else◌, List, [], ◌∷◌, ◌++◌}

-- a number below 2^16 as two bytes, the greater first
abbrev pub bytes_2 : ℕ → List ℕ
bytes_2 n = n / 2 ^ 8 ∷ n % 2 ^ 8 ∷ []

-- a number below 2^32 as four bytes, the greatest first
abbrev pub bytes_4 : ℕ → List ℕ
bytes_4 n = bytes_2 (n / 2 ^ 16) ++ bytes_2 (n % 2 ^ 16)

-- a number below 2^64 as eight bytes, the greatest first
abbrev pub bytes_8 : ℕ → List ℕ
bytes_8 n = bytes_4 (n / 2 ^ 32) ++ bytes_4 (n % 2 ^ 32)

-- a number as bytes: itself from 0 to 252; else 253, or 254 for a negative one, and eight bytes
abbrev pub packed : ℤ → List ℕ
packed (pos n) = if nat_lt n 253 then n ∷ [] else 253 ∷ bytes_8 n
packed (negsuc n) = 254 ∷ bytes_8 n

-- the bytes of some numbers, one after the other
abbrev pub all_packed : List ℤ → List ℕ
all_packed [] = []
all_packed (z ∷ zs) = packed z ++ all_packed zs

-- Lists with equal bytes are equal, of whatever numbers. Of one past 64 bits the second of the nine is more than a byte holds.
abbrev pub BytesAreRead : Type 0
BytesAreRead = (xs ys : List ℤ) → all_packed xs ≡ all_packed ys → xs ≡ ys

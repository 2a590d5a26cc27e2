-- Numbers and bindings as words. Only proofs use these.
use Rattle.std.specs.Prelude.{◌≡◌, ℕ, zero, suc, ℤ, pos, negsuc, ◌+◌, ◌^◌, nat_lt, if◌then◌else◌, List, [], ◌∷◌, ◌++◌, map, reverse, drop, slice_index_or}

-- a word as a number of 32 bits, or 0
abbrev pub narrowed : ℤ → ℕ
narrowed (pos n) = if nat_lt n (2 ^ 32) then n else 0
narrowed (negsuc n) = 0

-- the word at a place, as such a number
abbrev pub number_at : List ℤ → ℕ → ℕ
number_at ws k = narrowed (slice_index_or ws k (pos 0))

abbrev pub numbers_of : List ℤ → List ℕ
numbers_of = map narrowed

-- the words of bindings: of each its local and its value
abbrev pub pair_words : List (ℕ × ℤ) → List ℤ
pair_words [] = []
pair_words (p ∷ ps) = pos p.0 ∷ p.1 ∷ pair_words ps

-- the first word, or 0
abbrev pub first_word : List ℤ → ℤ
first_word ws = slice_index_or ws 0 (pos 0)

-- the local and the value that come first
abbrev pub first_pair : List ℤ → ℕ × ℤ
first_pair ws = (narrowed (first_word ws), slice_index_or ws 1 (pos 0))

-- the first `n` bindings of the words, in their order
abbrev pub pairs_from : ℕ → List ℤ → List (ℕ × ℤ)
pairs_from zero ws = []
pairs_from (suc n) ws = first_pair ws ∷ pairs_from n (drop 2 ws)

abbrev pub rounded : ℕ × ℤ → ℕ × ℤ
rounded p = (narrowed (pos p.0), p.1)

-- each local has a number of 32 bits
abbrev pub AreNarrow : List (ℕ × ℤ) → Type 0
AreNarrow ps = map rounded ps ≡ ps

-- the first `n` bindings of the words, of which the outermost comes first: the innermost first
abbrev pub bindings_of : ℕ → List ℤ → List (ℕ × ℤ)
bindings_of n ws = reverse (pairs_from n ws)

-- what follows the first `n` bindings
abbrev pub skip_bindings : ℕ → List ℤ → List ℤ
skip_bindings n ws = drop (n + n) ws

-- The words say a value to this reading of them, and this is what follows them, whatever follows.
pub record ReadsBack (X : Type 0) (reading : List ℤ → X) (skip : List ℤ → List ℤ) (words : List ℤ) (value : X) : Type 0 where
  pub reads : (rest : List ℤ) → reading (words ++ rest) ≡ value
  pub leaves : (rest : List ℤ) → skip (words ++ rest) ≡ rest

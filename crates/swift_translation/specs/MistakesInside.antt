-- Which form was written. No public clause names these. (Our own.)
use Rattle.std.specs.Prelude.{ℕ, ◌≡◌, ◌==◌, ◌&&◌, ◌⊎◌, Bool, true, false, List, [], ◌∷◌, codes, nat_le, slice_index_or}

-- whether a word begins with a digit
abbrev pub is_digit_first : List ℕ → Bool
is_digit_first [] = false
is_digit_first (b ∷ bs) = nat_le 48 b && nat_le b 57

-- whether a word begins with a byte
abbrev pub begins_with : ℕ → List ℕ → Bool
begins_with c [] = false
begins_with c (b ∷ bs) = b == c

-- A word fits a pattern: any fits an empty one, a number `0`, and a text `"`; else it is spelled so.
abbrev pub Meets : List ℕ → List ℕ → Type 0
Meets p w = (p ≡ []) ⊎ ((p ≡ codes "0") × (is_digit_first w ≡ true)) ⊎ ((p ≡ codes "\"") × (begins_with 34 w ≡ true)) ⊎ (p ≡ w)

-- The first words of a row stand there: before what is blamed, there, and after it.
abbrev pub Stand : List (List ℕ) → List ℕ → List ℕ → List ℕ → Type 0
Stand words before blamed after = Meets (slice_index_or words 0 []) before × Meets (slice_index_or words 1 []) blamed × Meets (slice_index_or words 2 []) after

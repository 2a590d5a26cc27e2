-- Where two lines of words part (our own).
use Rattle.std.specs.Prelude.{ℕ, ◌+◌, ◌==◌, Bool, ◌||◌, ◌&&◌, if◌then◌else◌, List, [], ◌∷◌}

-- a word ends where this byte stands: at a space, or at a line feed
abbrev pub ends_word : ℕ → Bool
ends_word b = b == 32 || b == 10

-- How many bytes the words have that two lines begin with: `at` bytes that are the same stand before these, and those of them up to the
-- end of the last word are so many as `words` says.
abbrev pub shared_words : List ℕ → List ℕ → ℕ → ℕ → ℕ
shared_words [] ys at words = words
shared_words (x ∷ xs) [] at words = words
shared_words (x ∷ xs) (y ∷ ys) at words =
    if x == y then shared_words xs ys (at + 1) (if ends_word x then at else words) else (if ends_word x && ends_word y then at else words)

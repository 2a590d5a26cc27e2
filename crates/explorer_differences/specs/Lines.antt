-- Lines of two texts that differ, as bytes (the format is our own).
use Rattle.std.specs.Prelude.{ℕ, zero, suc, ◌==◌, Bool, if◌then◌else◌, List, [], ◌∷◌, ◌++◌, bytes_eq, codes, count_by, decimal, drop, length, max, take, unwrap_or}
use Rattle.std.specs.List.{position}
use Rattle.explorer_differences.specs.Words.{shared_words}

-- a line ends where this byte stands
abbrev pub is_feed : ℕ → Bool
is_feed b = b == 10

-- where the first line of a text ends: at its line feed, or where the text does
abbrev pub line_end : List ℕ → ℕ
line_end text = unwrap_or (position is_feed text) (length text)

-- the first line of a text, without its line feed
abbrev pub first_line : List ℕ → List ℕ
first_line text = take (line_end text) text

-- the bytes after the first
abbrev pub tail : List ℕ → List ℕ
tail [] = []
tail (b ∷ bs) = bs

-- the lines after the first of a text
abbrev pub after_line : List ℕ → List ℕ
after_line text = tail (drop (line_end text) text)

-- the lines after so many of a text
abbrev pub after_lines : ℕ → List ℕ → List ℕ
after_lines zero text = text
after_lines (suc n) text = after_lines n (after_line text)

-- in which outcome something is so
abbrev pub in_text : ℕ → List ℕ
in_text n = codes " in " ++ decimal n

-- a line that outcome n alone has
abbrev pub alone_text : ℕ → List ℕ → List ℕ
alone_text n line = line ++ codes " only" ++ in_text n ++ codes "\n"

-- A line as outcome a has it, and as outcome b has it; of the second what comes after the words that both begin with.
abbrev pub both_text : ℕ → ℕ → List ℕ → List ℕ → List ℕ
both_text a b x y = x ++ in_text a ++ codes "," ++ drop (shared_words x y 0 0) y ++ in_text b ++ codes "\n"

-- lines of outcomes a and b that are not the same, of which an empty one is missing
abbrev pub told_text : ℕ → ℕ → List ℕ → List ℕ → List ℕ
told_text a b [] y = alone_text b y
told_text a b (c ∷ cs) [] = alone_text a (c ∷ cs)
told_text a b (c ∷ cs) (d ∷ ds) = both_text a b (c ∷ cs) (d ∷ ds)

-- a line, where it is not the same in both
abbrev pub line_difference : ℕ → ℕ → List ℕ → List ℕ → List ℕ
line_difference a b x y = if bytes_eq x y then [] else told_text a b x y

-- the first n lines of two texts, where they are not the same
abbrev pub first_differences : ℕ → ℕ → ℕ → List ℕ → List ℕ → List ℕ
first_differences a b zero xs ys = []
first_differences a b (suc n) xs ys = line_difference a b (first_line xs) (first_line ys) ++ first_differences a b n (after_line xs) (after_line ys)

-- The lines of two texts that are not the same, each with the one at its place in the other. A line beyond the end of the other is there alone.
abbrev pub lines_difference : ℕ → ℕ → List ℕ → List ℕ → List ℕ
lines_difference a b xs ys = first_differences a b (max (count_by is_feed xs) (count_by is_feed ys)) xs ys

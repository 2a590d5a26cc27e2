-- The lines of a Swift file (our own).
use Rattle.std.specs.Prelude.{ℕ, zero, suc, ◌==◌, Bool, Option, Some, None, List, [], position, take, drop}
use Rattle.std.specs.List.{count_by}

-- a line feed
abbrev pub is_feed : ℕ → Bool
is_feed b = b == 10

-- what comes before a line feed at this place; the whole text where there is none
abbrev pub before_feed : Option ℕ → List ℕ → List ℕ
before_feed None text = text
before_feed (Some place) text = take place text

-- what comes after a line feed at this place; nothing where there is none
abbrev pub after_feed : Option ℕ → List ℕ → List ℕ
after_feed None text = []
after_feed (Some place) text = drop (suc place) text

-- the place of the first line feed
abbrev pub feed_in : List ℕ → Option ℕ
feed_in text = position is_feed text

-- a text without its first lines
abbrev pub skip_lines : ℕ → List ℕ → List ℕ
skip_lines zero text = text
skip_lines (suc n) text = after_feed (feed_in (skip_lines n text)) (skip_lines n text)

-- how many lines end in a text
abbrev pub feeds : List ℕ → ℕ
feeds text = count_by is_feed text

-- the last line of a text
abbrev pub last_line : List ℕ → List ℕ
last_line text = skip_lines (feeds text) text

-- what stands to the left of a place on its line
abbrev pub left_of : List ℕ → ℕ → List ℕ
left_of text place = last_line (take place text)

-- what stands from a place on on its line
abbrev pub right_of : List ℕ → ℕ → List ℕ
right_of text place = before_feed (feed_in (drop place text)) (drop place text)

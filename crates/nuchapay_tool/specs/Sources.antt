-- The lines of a text, as they are shown (our own).
use Rattle.std.specs.Prelude.{ℕ, zero, suc, ◌-◌, ◌==◌, ◌||◌, ◌&&◌, Option, Some, None, List, [], ◌∷◌, codes, length, map, min, position, take, drop, nat_le, nat_lt, if◌then◌else◌}
use Rattle.std.specs.List.{concat}

-- what comes before a line feed at this place; the whole text where there is none
abbrev pub before_feed : Option ℕ → List ℕ → List ℕ
before_feed None text = text
before_feed (Some place) text = take place text

-- what comes after a line feed at this place; nothing where there is none
abbrev pub after_feed : Option ℕ → List ℕ → List ℕ
after_feed None text = []
after_feed (Some place) text = drop (suc place) text

-- the place of the first line feed
abbrev pub feed_in : List ℕ → Option ℕ
feed_in text = position (λ b. b == 10) text

-- a text without its first lines
abbrev pub skip_lines : ℕ → List ℕ → List ℕ
skip_lines zero text = text
skip_lines (suc n) text = after_feed (feed_in (skip_lines n text)) (skip_lines n text)

-- a line of a text without its line feed, counted from 1; empty past the last
abbrev pub source_line : List ℕ → ℕ → List ℕ
source_line text line = before_feed (feed_in (skip_lines (line - 1) text)) (skip_lines (line - 1) text)

-- the place of the first byte of a line
abbrev pub line_start : List ℕ → ℕ → ℕ
line_start text line = length text - length (skip_lines (line - 1) text)

-- how a byte is shown: a tab and a CR as a space, any other that is not printable ASCII as a question mark
abbrev pub shown_byte : ℕ → ℕ
shown_byte b = if nat_le 32 b && nat_le b 126 then b else (if b == 9 || b == 13 then 32 else 63)

-- what stands for the bytes of a line of this length that are not shown: those after 1,000
abbrev pub dots : ℕ → List ℕ
dots n = if nat_lt 1000 n then codes " .." else []

-- a line as it is shown: its first 1,000 bytes, each as it is shown, and dots where it has more
abbrev pub shown_of : List ℕ → List ℕ
shown_of line = concat (map shown_byte (take (min (length line) 1000) line) ∷ dots (length line) ∷ [])

-- the line of `text` with the number `line`, counted from 1, as it is shown
abbrev pub shown_line : List ℕ → ℕ → List ℕ
shown_line text line = shown_of (source_line text line)

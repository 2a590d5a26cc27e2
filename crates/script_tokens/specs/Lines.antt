-- On which line a byte of a text stands.
use Rattle.std.specs.Prelude.{ℕ, ◌+◌, Bool, ◌==◌, min, List, take}
use Rattle.std.specs.List.{count_by}

-- a byte is an LF
abbrev pub is_line_feed : ℕ → Bool
is_line_feed b = b == 10

-- how many line feeds stand in a text
abbrev pub line_feeds : List ℕ → ℕ
line_feeds bs = count_by is_line_feed bs

-- the line that is open after `feeds` line feeds: lines count from 1, and no further than a `u32` does
abbrev pub line_after : ℕ → ℕ
line_after feeds = min 4294967295 (1 + feeds)

-- the line of the byte that has `place` bytes before it; from the end of the text on, the last line
abbrev pub line_of : List ℕ → ℕ → ℕ
line_of text place = line_after (line_feeds (take place text))

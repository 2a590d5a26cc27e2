-- Which expectations stand in the comments of a script (our own).
use Rattle.std.specs.Prelude.{ℕ, ◌==◌, ◌&&◌, ◌||◌, not, Bool, true, false, if◌then◌else◌, Option, Some, None, List, [], ◌∷◌, ◌++◌, codes, drop, nat_eq, option_to_list}
use Rattle.std.specs.List.{prefix_len, starts_with, take_while}
use Rattle.script_tokens.specs.Bytes.{is_name_byte, is_no_line_feed}

-- a space or a tab
abbrev pub is_blank : ℕ → Bool
is_blank b = b == 32 || b == 9

-- a text begins with this byte
abbrev pub begins_with : ℕ → List ℕ → Bool
begins_with c [] = false
begins_with c (b ∷ bs) = b == c

-- a text begins with a byte of a name
abbrev pub begins_name : List ℕ → Bool
begins_name [] = false
begins_name (b ∷ bs) = is_name_byte b

-- the comment of a line: what is after its first two slashes
abbrev pub comment_in : List ℕ → Option (List ℕ)
comment_in [] = None
comment_in (b ∷ bs) = if b == 47 && begins_with 47 bs then Some (drop 1 bs) else comment_in bs

-- a text without the blanks at its front
abbrev pub unblanked : List ℕ → List ℕ
unblanked bs = drop (prefix_len is_blank bs) bs

-- what is after the word `expect` and blanks, where a text begins with it
abbrev pub after_word : List ℕ → Option (List ℕ)
after_word bs = if starts_with nat_eq bs (codes "expect") && not (begins_name (drop 6 bs)) then Some (unblanked (drop 6 bs)) else None

-- the expectation of a comment: what is after a colon, perhaps blanks, and the word `expect`
abbrev pub expected_in : Option (List ℕ) → Option (List ℕ)
expected_in None = None
expected_in (Some comment) = if begins_with 58 comment then after_word (unblanked (drop 1 comment)) else None

-- the expectation of the line at the front of a text, if it has one
abbrev pub expected_first : List ℕ → Option (List ℕ)
expected_first bs = expected_in (comment_in (take_while is_no_line_feed bs))

-- the expectation of the line at the front, where it begins there
abbrev pub expected_here : Bool → List ℕ → Option (List ℕ)
expected_here true bs = expected_first bs
expected_here false bs = None

-- The expectations of a text's lines, in order: of the line at its front where that begins there, and of those after it.
abbrev pub expected_from : Bool → List ℕ → List (List ℕ)
expected_from begins [] = []
expected_from begins (b ∷ bs) = option_to_list (expected_here begins (b ∷ bs)) ++ expected_from (b == 10) bs

-- the expectations in the comments of a script
abbrev pub expected : List ℕ → List (List ℕ)
expected bs = expected_from true bs

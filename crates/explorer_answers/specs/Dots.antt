-- What the dots of schedules mean, as bytes (the format is our own).
use Rattle.std.specs.Prelude.{ℕ, Bool, false, true, ◌==◌, ◌&&◌, if◌then◌else◌, List, [], ◌∷◌, ◌++◌}
use Rattle.explorer_answers.specs.declared.dots.TheConstants.{DOTS}

-- both bytes are dots
abbrev pub are_dots : ℕ → ℕ → Bool
are_dots before byte = before == 46 && byte == 46

-- two dots stand side by side in a text, after this byte
abbrev pub has_dots : ℕ → List ℕ → Bool
has_dots before [] = false
has_dots before (x ∷ xs) = if are_dots before x then true else has_dots x xs

-- what dots mean, where there are some
abbrev pub legend : Bool → List ℕ
legend true = DOTS.now
legend false = []

-- A text of schedules, after a line on what their dots mean, where some have dots.
abbrev pub with_legend : List ℕ → List ℕ
with_legend text = legend (has_dots 0 text) ++ text
